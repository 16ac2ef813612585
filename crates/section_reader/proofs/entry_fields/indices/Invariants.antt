use Rattle.std.proofs.Common.{◌≡◌, ◌-◌}
use Rattle.wasm_defs.specs.Fields.{repeated}
use Rattle.wasm_defs.specs.Entries.{listed_index}
use Rattle.leb_feed.proofs.Loops.{with_front}
use Rattle.section_reader.proofs.entry_fields.indices.Given as goal

abbrev pub invariant-loop : goal.invariant-loop
invariant-loop l = with_front l.indices.items (repeated (l.n - l.counter) (listed_index l.most)) l.fields ≡ repeated l.n (listed_index l.most) l.fn.fields
