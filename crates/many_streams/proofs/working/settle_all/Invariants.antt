use Rattle.std.proofs.Common.{length}
use Rattle.many_streams.proofs.Workers.{HasSettled}
use Rattle.many_streams.proofs.working.settle_all.Given as goal

abbrev pub invariant-loop-lane : goal.invariant-loop-lane
invariant-loop-lane g l = HasSettled l.members l.fn.work.lanes.items l.lanes.items l.fn.work.desks.items l.desks.items l.made.items

abbrev pub decreases-loop-lane : goal.decreases-loop-lane
decreases-loop-lane g l = length l.lanes.items
