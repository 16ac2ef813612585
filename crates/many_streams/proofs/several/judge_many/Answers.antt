use Rattle.std.proofs.Common.{◌≡◌, ℕ, Bool, List, Option, Ok, subst}
use Rattle.std.specs.Prelude.{nat_lt}
use Rattle.many_streams.specs.declared.alone.Front.{Front}
use Rattle.many_streams.specs.declared.alone.Front.TheVariants as front
use Rattle.many_streams.specs.Fronts.{ReachesFront}
use Rattle.many_streams.specs.Many.{ComesToMany, view}
use Rattle.many_streams.specs.Members.{IsEnded, IsJudged}
use Rattle.many_streams.proofs.Sources.{comes_on, stops_on, took_both}
use Rattle.many_streams.proofs.several.judge_many.Goals as goal

-- how far the input was read, by what it was
front_so : (keeps : Bool) (first : Option (List ℕ)) (before : ℕ) (left : Option (List ℕ)) (now : ℕ) (may_read : Bool) (x y : Front) → x ≡ y → ReachesFront keeps first before left now may_read (Ok x) → ReachesFront keeps first before left now may_read (Ok y)
front_so keeps first before left now may_read x y same = subst (λ (z : Front). ReachesFront keeps first before left now may_read (Ok z)) same

pub judge_ended-requires : goal.judge_ended-requires
judge_ended-requires g c =
    let e = front_so c.args.keeps _ _ _ _ _ c.in-Ok-Ended.field-0 (front.Ended c.in-Ok-Ended.members) c.in-Ok-Ended.field-0-is c.in-Ok-Ended.ensures.answer in (c.args.keeps, e.4, e.6)

pub returns-in-Ok-clause-answer : goal.returns-in-Ok-clause-answer
returns-in-Ok-clause-answer g c =
    let e = front_so c.args.keeps _ _ _ _ _ c.in-Ok-Ended.field-0 (front.Ended c.in-Ok-Ended.members) c.in-Ok-Ended.field-0-is c.in-Ok-Ended.ensures.answer in
    comes_on (IsEnded c.args.keeps) (IsJudged c.args.keeps) _ _ _ c.in-Ok-Ended.members.items c.in-Ok.judged.items e (λ list are. c.in-Ok.ensures c.args.keeps list are)

pub judge_beside-requires-clause-room : goal.judge_beside-requires-clause-room
judge_beside-requires-clause-room g c κs lives =
    (front_so c.args.keeps _ _ _ _ _ c.in-Ok-Paused.field-0 (front.Paused c.in-Ok-Paused.streams c.in-Ok-Paused.buffer) c.in-Ok-Paused.field-0-is c.in-Ok-Paused.ensures.answer).2

pub judge_beside-requires-clause-paused : goal.judge_beside-requires-clause-paused
judge_beside-requires-clause-paused g c κs lives =
    let e = front_so c.args.keeps _ _ _ _ _ c.in-Ok-Paused.field-0 (front.Paused c.in-Ok-Paused.streams c.in-Ok-Paused.buffer) c.in-Ok-Paused.field-0-is c.in-Ok-Paused.ensures.answer in
    (g.S.Source.left c.args.source.now, g.S.Source.faults c.args.source.now, e.0)

pub returns-in-Ok-Paused-clause-answer : goal.returns-in-Ok-Paused-clause-answer
returns-in-Ok-Paused-clause-answer g c =
    let e = front_so c.args.keeps _ _ _ _ _ c.in-Ok-Paused.field-0 (front.Paused c.in-Ok-Paused.streams c.in-Ok-Paused.buffer) c.in-Ok-Paused.field-0-is c.in-Ok-Paused.ensures.answer in
    let first = g.S.Source.left c.args.source.now in
    let before = g.S.Source.faults c.args.source.now in
    subst (λ (k : Bool). ComesToMany (IsJudged k) (nat_lt before (g.S.Source.faults c.judge_beside.new.source)) first (g.S.Source.left c.judge_beside.new.source) (view c.judge_beside.result)) e.1
    (c.judge_beside.ensures.answer first before e.0)

pub returns-in-Ok-Paused-clause-front : goal.returns-in-Ok-Paused-clause-front
returns-in-Ok-Paused-clause-front g c = took_both _ _ _ _ _ _ c.in-Ok-Paused.ensures.front c.judge_beside.ensures.front

pub returns-in-Err-clause-answer : goal.returns-in-Err-clause-answer
returns-in-Err-clause-answer g c = stops_on (IsEnded c.args.keeps) (IsJudged c.args.keeps) _ _ _ c.in-Err.stop c.in-Err.ensures.answer
