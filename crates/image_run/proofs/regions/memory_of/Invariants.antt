use Rattle.std.proofs.Common.{◌≤◌, drop}
use Rattle.std.specs.Vec.{vec_capacity}
use Rattle.image_run.proofs.MemoryLaws.{Placing}
use Rattle.image_run.proofs.regions.memory_of.Given as goal

abbrev pub invariant-loop-segment : goal.invariant-loop-segment
invariant-loop-segment l = Placing l.first l.segments l.stored.items (drop l.segment-index l.segments) × (l.size ≤ vec_capacity l.stored)
