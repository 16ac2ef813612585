use Rattle.std.proofs.Common.{◌≡◌, ◌-◌}
use Rattle.wasm_defs.specs.Fields.{repeated}
use Rattle.wasm_defs.specs.Entries.{listed_type}
use Rattle.leb_feed.proofs.Loops.{with_front}
use Rattle.section_reader.proofs.entry_fields.value_types.Given as goal

abbrev pub invariant-loop : goal.invariant-loop
invariant-loop l = with_front l.types.items (repeated (l.n - l.counter) listed_type) l.fields ≡ repeated l.n listed_type l.fn.fields
