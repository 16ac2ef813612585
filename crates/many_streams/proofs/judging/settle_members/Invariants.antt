use Rattle.std.proofs.Common.{◌≡◌, ℕ, Bool, List, length}
use Rattle.std.specs.Vec.Iter.{into_iter_items, into_iter_len}
use Rattle.many_streams.specs.Members.{IsEnded, IsJudged}
use Rattle.many_streams.specs.Many.{AreEach}
use Rattle.many_streams.proofs.Crowds.{AreFrom, AreSome}
use Rattle.many_streams.proofs.judging.settle_members.Given as goal

abbrev pub invariant-loop-member : goal.invariant-loop-member
invariant-loop-member l = record {
  after : AreFrom l.fn.members.items (into_iter_items l.member-iterator) (length l.judged.items);
  made : AreFrom l.fn.made.items (into_iter_items l.rest) (length l.judged.items);
  some : (keeps : Bool) (list : List (List ℕ)) → AreEach (IsEnded keeps) list l.fn.members.items → AreSome (IsJudged keeps) list l.judged.items;
  few : length (into_iter_items l.member-iterator) ≡ into_iter_len l.member-iterator;
}
