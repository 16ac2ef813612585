use Rattle.std.proofs.Common.{Option, Some, None, refl, subst, rules}
use Rattle.many_streams.specs.declared.intake.Intake.{Intake}
use Rattle.many_streams.specs.Intakes.{Goes}
use Rattle.many_streams.proofs.Intakes.{can_validate, body_stops, section_stops, validated}
use Rattle.many_streams.proofs.Feeding.{put_back, took_all, resume_stops, stopped_later}
use Rattle.many_streams.proofs.member.Part.resume.Goals as goal

pub judge_kept-requires-clause-can : goal.judge_kept-requires-clause-can
judge_kept-requires-clause-can c =
    let r = c.requires.may in
    let s = c.args.self.now.compilation in
    can_validate r.0 s c.in-Some.intake r.1 (subst (λ (o : Option Intake). Goes r.0 s o r.1) {y = Some c.in-Some.intake} (search rules) r.2)

pub returns-in_default-clause-goes : goal.returns-in_default-clause-goes
returns-in_default-clause-goes c = λ bytes more g. (subst (λ (o : Option Intake). Goes bytes c.args.self.now.compilation o more) {y = None} (search rules) g, search rules)

pub returns-in-Err-clause-goes : goal.returns-in-Err-clause-goes
returns-in-Err-clause-goes c = λ bytes more g.
    let s = c.args.self.now.compilation in
    resume_stops bytes more c.in-Err.stop c.judge_kept.new.self _
    (body_stops bytes s c.in-Some.intake more (subst (λ (o : Option Intake). Goes bytes s o more) {y = Some c.in-Some.intake} (search rules) g) c.judge_kept.new.self c.in-Err.stop c.in-Err.ensures.takes)

pub returns-in-Some-error-clause-goes : goal.returns-in-Some-error-clause-goes
returns-in-Some-error-clause-goes c = λ bytes more g.
    let s = c.args.self.now.compilation in
    section_stops bytes s c.in-Some.intake more (subst (λ (o : Option Intake). Goes bytes s o more) {y = Some c.in-Some.intake} (search rules) g) c.judge_kept.new.self c.in-Ok.ensures.takes c.in-Some-error.refusal (search rules)

pub feed-requires : goal.feed-requires
feed-requires c =
    let r = c.requires.may in
    let s = c.args.self.now.compilation in
    let i = c.in-Some.intake in
    let e = c.in-Ok.ensures in
    let g = validated r.0 s i r.1 (subst (λ (o : Option Intake). Goes r.0 s o r.1) {y = Some c.in-Some.intake} (search rules) r.2) c.judge_kept.new.self e.takes e.rest.batch e.rest.spaces e.rest.front (search rules) in
    (r.0, r.1, put_back r.0 c.judge_kept.new.self c.put_cutter.new.self i.cutter i.rest.items c.as_slice.result.now r.1 c.put_cutter.ensures c.as_slice.ensures.value g)

pub returns-in-Ok-feed-clause-goes : goal.returns-in-Ok-feed-clause-goes
returns-in-Ok-feed-clause-goes c = λ bytes more g.
    let s = c.args.self.now.compilation in
    let i = c.in-Some.intake in
    let e = c.in-Ok.ensures in
    let v = validated bytes s i more (subst (λ (o : Option Intake). Goes bytes s o more) {y = Some c.in-Some.intake} (search rules) g) c.judge_kept.new.self e.takes e.rest.batch e.rest.spaces e.rest.front (search rules) in
    let now = put_back bytes c.judge_kept.new.self c.put_cutter.new.self i.cutter i.rest.items c.as_slice.result.now more c.put_cutter.ensures c.as_slice.ensures.value v in
    (took_all bytes c.as_slice.result.now more c.in-Ok-feed.field-0 c.feed.new.self (c.in-Ok-feed.ensures.all.0 refl) (c.in-Ok-feed.ensures.goes bytes more now), search rules)

pub returns-clause-goes : goal.returns-clause-goes
returns-clause-goes c = λ bytes more g.
    let s = c.args.self.now.compilation in
    let i = c.in-Some.intake in
    let e = c.in-Ok.ensures in
    let v = validated bytes s i more (subst (λ (o : Option Intake). Goes bytes s o more) {y = Some c.in-Some.intake} (search rules) g) c.judge_kept.new.self e.takes e.rest.batch e.rest.spaces e.rest.front (search rules) in
    let now = put_back bytes c.judge_kept.new.self c.put_cutter.new.self i.cutter i.rest.items c.as_slice.result.now more c.put_cutter.ensures c.as_slice.ensures.value v in
    stopped_later bytes c.as_slice.result.now more c.in-Err-feed.stop c.feed.new.self _ (c.in-Err-feed.ensures.goes bytes more now)
