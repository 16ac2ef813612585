use Rattle.std.proofs.Common.{◌≡◌, true, take}
use Rattle.wasm_defs.specs.Instances.{all_fit}
use Rattle.index_spaces.specs.Entries.{written_rows}
use Rattle.image_linker.proofs.tables.have_rows.Given as goal

abbrev pub invariant-loop-segment : goal.invariant-loop-segment
invariant-loop-segment l = all_fit l.rows (written_rows (take l.segment-index l.segments)) ≡ true
