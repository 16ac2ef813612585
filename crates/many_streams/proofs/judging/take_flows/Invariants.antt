use Rattle.many_streams.proofs.Flows.{HasTakenOut}
use Rattle.many_streams.proofs.judging.take_flows.Given as goal

abbrev pub invariant-loop-k : goal.invariant-loop-k
invariant-loop-k l = HasTakenOut l.k l.initial.members.items l.members.items l.flows.items
