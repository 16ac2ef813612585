use Rattle.std.proofs.Common.{◌≡◌, ℕ, List, length}
use Rattle.std.specs.Vec.Iter.{into_iter_items, into_iter_len}
use Rattle.many_streams.specs.Members.{IsJudged}
use Rattle.many_streams.specs.Many.{AreEach}
use Rattle.many_streams.proofs.Crowds.{AreFrom, AreSome}
use Rattle.many_streams.proofs.several.each_of.Given as goal

abbrev pub invariant-loop-member : goal.invariant-loop-member
invariant-loop-member g l = record {
  after : AreFrom l.fn.members.items (into_iter_items l.member-iterator) (length l.each.items);
  some : (list : List (List ℕ)) → AreEach (IsJudged g.E.Comes.KEEPS) list l.fn.members.items → AreSome g.E.Comes.comes list l.each.items;
  few : length (into_iter_items l.member-iterator) ≡ into_iter_len l.member-iterator;
}
