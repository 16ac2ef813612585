use Rattle.std.proofs.Common.{◌≡◌, map, take}
use Rattle.wasm_defs.specs.Instances.{over}
use Rattle.image_linker.specs.Linking.{linked_row}
use Rattle.image_linker.proofs.tables.write.Given as goal

abbrev pub invariant-loop-i : goal.invariant-loop-i
invariant-loop-i l = l.rows ≡ over l.initial.rows (l.place, map (linked_row l.context l.starts) (take l.i l.functions))
