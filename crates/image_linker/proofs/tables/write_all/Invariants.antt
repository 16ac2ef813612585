use Rattle.std.proofs.Common.{◌≡◌, take}
use Rattle.wasm_defs.specs.Instances.{all_over}
use Rattle.image_linker.specs.Linking.{linked_elements}
use Rattle.image_linker.proofs.tables.write_all.Given as goal

abbrev pub invariant-loop-segment : goal.invariant-loop-segment
invariant-loop-segment l = l.rows ≡ all_over l.initial.rows (linked_elements l.context l.starts (take l.segment-index l.segments))
