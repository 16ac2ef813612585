use Rattle.std.proofs.Common.{length}
use Rattle.batch_pool.proofs.Crews.{HasTaken}
use Rattle.batch_pool.proofs.lanes.crew.take_in_many.Given as goal

abbrev pub invariant-loop-other : goal.invariant-loop-other
invariant-loop-other l = HasTaken l.lanes l.others.items l.fn.worked.seats.items l.initial.desks.items l.desks.items

abbrev pub decreases-loop-other : goal.decreases-loop-other
decreases-loop-other l = length l.others.items
