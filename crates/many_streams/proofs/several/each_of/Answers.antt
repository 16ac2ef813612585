use Rattle.std.proofs.Common.{◌≡◌, ◌∙◌, ℕ, [], ◌∷◌, length-append, length, sym, ap, subst, refl, rules}
use Rattle.std.specs.Vec.Iter.{into_iter_items}
use Rattle.many_streams.specs.Members.{IsJudged}
use Rattle.many_streams.proofs.Crowds.{AreFrom, from_none, from_one, from_all, next_is, next_so, some_none, some_push}
use Rattle.many_streams.proofs.several.each_of.Goals as goal

pub of-requires : goal.of-requires
of-requires g c =
    let r = c.requires in
    let l = c.loop-member in
    next_is (IsJudged g.E.Comes.KEEPS) c.args.members.items (into_iter_items l.member-iterator) (into_iter_items c.next.new.self) (length l.each.items) c.in-Some.member c.in-Some.ensures.steps.0 l.invariant.after r.0 r.1

pub loop-member-init : goal.loop-member-init
loop-member-init g c = record { after = from_none _ _ _ (search rules) (search rules); some = λ list are. some_none g.E.Comes.comes list _ (search rules); few = search rules }

pub loop-member-preserved : goal.loop-member-preserved
loop-member-preserved g c =
    let l = c.loop-member in
    let all = into_iter_items l.member-iterator in
    let rest = into_iter_items c.next.new.self in
    record {
      after = subst (λ (n : ℕ). AreFrom c.args.members.items rest n) (sym (ap length c.in_ok-push.ensures.items ∙ length-append l.each.items (c.of.result ∷ []))) (from_one c.args.members.items all rest (length l.each.items) c.in-Some.member c.in-Some.ensures.steps.0 l.invariant.after);
      some = λ list are. some_push g.E.Comes.comes list l.each.items c.push.new.self.items c.of.result (length l.each.items) refl c.in_ok-push.ensures.items (l.invariant.some list are)
          (λ bytes at. c.of.ensures bytes (next_so (IsJudged g.E.Comes.KEEPS) c.args.members.items all rest (length l.each.items) c.in-Some.member c.in-Some.ensures.steps.0 l.invariant.after list are bytes at));
      few = search rules;
    }

pub returns : goal.returns
returns g c = λ list are.
    let l = c.loop-member in
    let none : length (into_iter_items l.member-iterator) ≡ 0 = search rules in
    (sym (from_all c.args.members.items (into_iter_items l.member-iterator) (length l.each.items) none l.invariant.after) ∙ are.0, l.invariant.some list are)
