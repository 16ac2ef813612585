use Rattle.batch_pool.specs.Lanes.{AreDesks, Each, Reads}
use Rattle.many_streams.proofs.flow.hand_over_from.Given as goal

abbrev pub invariant-loop-k : goal.invariant-loop-k
invariant-loop-k l = record {
  desks : AreDesks l.lanes l.desks.items;
  each : Each Reads l.lanes l.initial.desks.items l.desks.items;
}
