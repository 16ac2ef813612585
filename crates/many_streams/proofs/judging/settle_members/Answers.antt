use Rattle.std.proofs.Common.{◌≡◌, ◌∙◌, ℕ, [], ◌∷◌, length-append, length, sym, ap, subst, refl, rules}
use Rattle.std.specs.Vec.Iter.{into_iter_items}
use Rattle.many_streams.specs.Members.{IsEnded, IsJudged}
use Rattle.many_streams.proofs.Crowds.{AreFrom, from_none, from_one, from_at, from_all, next_is, next_so, some_none, some_push}
use Rattle.many_streams.proofs.judging.settle_members.Goals as goal

pub settle-requires : goal.settle-requires
settle-requires c =
    let r = c.requires.ended in
    let l = c.loop-member in
    let all = into_iter_items l.member-iterator in
    let rest = into_iter_items c.next.new.self in
    let count = length l.judged.items in
    let n = next_is (IsEnded r.0) c.args.members.items all rest count c.in-Some.member c.in-Some.ensures.steps.0 l.invariant.after r.1 r.2 in
    record {
      ended = (r.0, n.0, n.1);
      rows = c.requires.made.1 count c.in-Some.member c.in-Some-next.part (from_at c.args.members.items all rest count c.in-Some.member c.in-Some.ensures.steps.0 l.invariant.after)
          (from_at c.args.made.items (into_iter_items l.rest) (into_iter_items c.next-in-loop-member.new.self) count c.in-Some-next.part c.in-Some-next.ensures.items l.invariant.made);
    }

pub loop-member-init : goal.loop-member-init
loop-member-init c = record {
  after = from_none _ _ _ (search rules) (search rules);
  made = from_none _ _ _ (search rules) (search rules);
  some = λ keeps list are. some_none (IsJudged keeps) list _ (search rules);
  few = search rules;
}

pub loop-member-preserved : goal.loop-member-preserved
loop-member-preserved c =
    let l = c.loop-member in
    let all = into_iter_items l.member-iterator in
    let rest = into_iter_items c.next.new.self in
    let count = length l.judged.items in
    let one = c.in_ok-one in
    let longer = sym (ap length c.in_ok-push.ensures.items ∙ length-append l.judged.items (one.one ∷ [])) in
    record {
      after = subst (λ (n : ℕ). AreFrom c.args.members.items rest n) longer (from_one c.args.members.items all rest count c.in-Some.member c.in-Some.ensures.steps.0 l.invariant.after);
      made = subst (λ (n : ℕ). AreFrom c.args.made.items (into_iter_items c.next-in-loop-member.new.self) n) longer
          (from_one c.args.made.items (into_iter_items l.rest) (into_iter_items c.next-in-loop-member.new.self) count c.in-Some-next.part c.in-Some-next.ensures.items l.invariant.made);
      some = λ keeps list are. some_push (IsJudged keeps) list l.judged.items c.push.new.self.items one.one count refl c.in_ok-push.ensures.items (l.invariant.some keeps list are)
          (λ bytes at. one.ensures keeps bytes (next_so (IsEnded keeps) c.args.members.items all rest count c.in-Some.member c.in-Some.ensures.steps.0 l.invariant.after list are bytes at));
      few = search rules;
    }

pub returns : goal.returns
returns c = λ keeps list are.
    let l = c.loop-member in
    let none : length (into_iter_items l.member-iterator) ≡ 0 = search rules in
    (sym (from_all c.args.members.items (into_iter_items l.member-iterator) (length l.judged.items) none l.invariant.after) ∙ are.0, l.invariant.some keeps list are)
