use Rattle.batch_pool.proofs.Crews.{HasSplit}
use Rattle.batch_pool.proofs.lanes.crew.split_all.Given as goal

abbrev pub invariant-loop-k : goal.invariant-loop-k
invariant-loop-k l = HasSplit l.lanes l.k l.initial.desks.items l.desks.items l.parts.items
