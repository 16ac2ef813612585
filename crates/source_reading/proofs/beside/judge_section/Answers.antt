use Rattle.std.proofs.Common.{None, ◌≡◌, Bool, Result, Err, sym, subst, refl, rules}
use Rattle.wasm_defs.specs.declared.front_stop.FrontStop.{FrontStop}
use Rattle.module_stream.specs.declared.compilation.Compilation.{Compilation}
use Rattle.source_reading.specs.Arriving.{IsArriving}
use Rattle.wasm_defs.specs.declared.front_stop.FrontStop.TheVariants.{Refused}
use Rattle.source_reading.specs.Keeping.{Keeps}
use Rattle.source_reading.specs.Reading.{Settled}
use Rattle.source_reading.proofs.Keeping.{can_judge, judged_on, judged_stops, can_judge_faulty, faulty_judged, faulty_section}
use Rattle.source_reading.proofs.beside.judge_section.Goals as goal

pub judge_kept-requires-clause-can : goal.judge_kept-requires-clause-can
judge_kept-requires-clause-can c =
    let r = c.requires.keeps in
    let s = c.args.compilation.now in
    let i = c.args.section.intake in
    can_judge r.0 r.1 r.2 r.3 r.4 s s i refl refl refl (subst (λ (x : Result (Unit {0}) FrontStop). Keeps x r.0 r.1 r.2 r.3 r.4 s i) c.in-Ok.is r.5)

pub returns-in-Ok-judge_kept-clause-resumes : goal.returns-in-Ok-judge_kept-clause-resumes
returns-in-Ok-judge_kept-clause-resumes c = λ first before left now may_read keeps.
    let s = c.args.compilation.now in
    let t = c.judge_kept.new.self in
    let i = c.args.section.intake in
    let e = c.in-Ok-judge_kept.ensures in
    let a = subst (λ (x : Result (Unit {0}) FrontStop). Keeps x first before left now may_read s i) c.in-Ok.is keeps in
    subst (λ (x : Compilation). IsArriving None first before left now may_read x i.chunk) (sym c.put_cutter.ensures)
    (judged_on first before left now may_read s t i e.rest.batch e.rest.spaces e.rest.front a e.takes)

pub returns-in-Ok-clause-resumes : goal.returns-in-Ok-clause-resumes
returns-in-Ok-clause-resumes c = λ first before left now may_read keeps low.
    let s = c.args.compilation.now in
    let t = c.judge_kept.new.self in
    let i = c.args.section.intake in
    let e = c.in-Err.ensures in
    let a = subst (λ (x : Result (Unit {0}) FrontStop). Keeps x first before left now may_read s i) c.in-Ok.is keeps in
    subst (λ (b : Bool). Settled None b (Err c.in-Err.stop) t first left before now) (sym c.has_failed-failed.ensures) (judged_stops first before left now may_read s t i e.rest.batch e.rest.spaces e.rest.front a c.in-Err.stop e.takes low)

pub judge_kept-requires-in-Err-Refused-clause-can : goal.judge_kept-requires-in-Err-Refused-clause-can
judge_kept-requires-in-Err-Refused-clause-can c =
    let r = c.requires.keeps in
    let s = c.args.compilation.now in
    let i = c.args.section.intake in
    let refusal = c.in-Err-Refused.refusal in
    let is : c.args.section.read ≡ Err (Refused refusal) = search rules in
    can_judge_faulty r.0 r.1 r.2 r.3 r.4 s s i refl refl refl refusal (subst (λ (x : Result (Unit {0}) FrontStop). Keeps x r.0 r.1 r.2 r.3 r.4 s i) is r.5)

pub returns-in-Ok-judge_kept-2-clause-resumes : goal.returns-in-Ok-judge_kept-2-clause-resumes
returns-in-Ok-judge_kept-2-clause-resumes c = λ first before left now may_read keeps low.
    let s = c.args.compilation.now in
    let t = c.judge_kept-in-Err-Refused.new.self in
    let i = c.args.section.intake in
    let refusal = c.in-Err-Refused.refusal in
    let e = c.in-Ok-judge_kept-2.ensures in
    let is : c.args.section.read ≡ Err (Refused refusal) = search rules in
    let f = subst (λ (x : Result (Unit {0}) FrontStop). Keeps x first before left now may_read s i) is keeps in
    subst (λ (b : Bool). Settled None b (Err (Refused refusal)) t first left before now) (sym c.has_failed-failed.ensures) (faulty_section first before left now may_read s t i e.rest.batch e.rest.spaces e.rest.front refusal f e.takes low)

pub returns-in-Err-Refused-clause-resumes : goal.returns-in-Err-Refused-clause-resumes
returns-in-Err-Refused-clause-resumes c = λ first before left now may_read keeps low.
    let s = c.args.compilation.now in
    let t = c.judge_kept-in-Err-Refused.new.self in
    let i = c.args.section.intake in
    let refusal = c.in-Err-Refused.refusal in
    let e = c.in-Err-judge_kept.ensures in
    let is : c.args.section.read ≡ Err (Refused refusal) = search rules in
    let f = subst (λ (x : Result (Unit {0}) FrontStop). Keeps x first before left now may_read s i) is keeps in
    subst (λ (b : Bool). Settled None b (Err c.in-Err-judge_kept.stop) t first left before now) (sym c.has_failed-failed.ensures) (faulty_judged first before left now may_read s t i e.rest.batch e.rest.spaces e.rest.front refusal f c.in-Err-judge_kept.stop e.takes low)
