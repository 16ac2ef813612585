use Rattle.std.proofs.Common.{◌<◌, ◌-◌, ℕ, Bool, List, Option, length}
use Rattle.io_edges.specs.Streams.{TookFront}
use Rattle.batch_pool.specs.Lanes.{AreDesks, Each, Reads}
use Rattle.many_streams.specs.declared.member.Member.{Member}
use Rattle.many_streams.specs.Rests.{IsArriving}
use Rattle.many_streams.proofs.rest.read_rest.Given as goal

abbrev pub invariant-loop-count : goal.invariant-loop-count
invariant-loop-count g l = record {
  room : 0 < length l.buf;
  arrives : (first : Option (List ℕ)) (before : ℕ) (keeps : Bool) (members : List Member)
      → IsArriving first before (g.S.Source.left l.initial.source) (g.S.Source.faults l.initial.source) (g.S.Source.is_open l.initial.source) keeps members l.initial.rest
      → IsArriving first before (g.S.Source.left l.source) (g.S.Source.faults l.source) (g.S.Source.is_open l.source) keeps members l.rest;
  front : TookFront (g.S.Source.left l.initial.source) (g.S.Source.faults l.initial.source) (g.S.Source.left l.source) (g.S.Source.faults l.source);
  desks : AreDesks l.lanes l.desks.items;
  each : Each Reads l.lanes l.fn.desks.items l.desks.items;
}

abbrev pub decreases-loop-count : goal.decreases-loop-count
decreases-loop-count g l = 1073741824 - l.rest.reader.at
