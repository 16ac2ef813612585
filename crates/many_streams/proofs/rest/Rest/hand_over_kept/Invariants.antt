use Rattle.batch_pool.specs.Lanes.{AreDesks, Each, Reads}
use Rattle.many_streams.proofs.rest.Rest.hand_over_kept.Given as goal

abbrev pub invariant-loop-number : goal.invariant-loop-number
invariant-loop-number l = record {
  desks : AreDesks l.lanes l.desks.items;
  each : Each Reads l.lanes l.initial.desks.items l.desks.items;
}
