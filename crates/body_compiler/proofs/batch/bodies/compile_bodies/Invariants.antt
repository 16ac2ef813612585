use Rattle.std.proofs.Common.{take}
use Rattle.body_compiler.specs.BatchRows.{AreCodesFor}
use Rattle.body_compiler.proofs.batch.bodies.compile_bodies.Given as goal

abbrev pub invariant-loop-index : goal.invariant-loop-index
invariant-loop-index l = AreCodesFor l.context l.cells (take l.index l.bodies) l.codes.items
