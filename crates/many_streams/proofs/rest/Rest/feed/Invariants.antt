use Rattle.std.proofs.Common.{◌≤◌, ◌-◌, ◌++◌, ℕ, Bool, List, length, take}
use Rattle.batch_pool.specs.Lanes.{AreDesks, Each, Reads}
use Rattle.many_streams.specs.declared.member.Member.{Member}
use Rattle.many_streams.specs.Rests.{IsRest}
use Rattle.many_streams.proofs.rest.Rest.feed.Given as goal

abbrev pub invariant-loop-from : goal.invariant-loop-from
invariant-loop-from l = record {
  within : l.from ≤ length l.piece;
  goes : (bytes : List ℕ) (keeps : Bool) (members : List Member) → IsRest bytes keeps members l.initial.self → IsRest (bytes ++ take l.from l.piece) keeps members l.self;
  desks : AreDesks l.lanes l.desks.items;
  each : Each Reads l.lanes l.initial.desks.items l.desks.items;
}

abbrev pub decreases-loop-from : goal.decreases-loop-from
decreases-loop-from l = length l.piece - l.from
