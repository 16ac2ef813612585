use Rattle.batch_pool.proofs.Seats.{HasWorkedMany}
use Rattle.batch_pool.proofs.lanes.many.work_many.Given as goal

abbrev pub invariant-loop : goal.invariant-loop
invariant-loop g l = HasWorkedMany l.lanes l.initial.hand l.hand l.fn.seats.items l.seats.items
