use Rattle.std.proofs.Common.{length}
use Rattle.many_streams.proofs.Flows.{HasPutBack}
use Rattle.many_streams.proofs.judging.put_flows.Given as goal

abbrev pub invariant-loop-flow : goal.invariant-loop-flow
invariant-loop-flow l = HasPutBack l.initial.members.items l.members.items l.fn.flows.items l.flows.items

abbrev pub decreases-loop-flow : goal.decreases-loop-flow
decreases-loop-flow l = length l.flows.items
