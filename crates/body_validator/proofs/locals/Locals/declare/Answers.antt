use Rattle.std.proofs.Common.{◌≡◌, ◌+◌, ◌++◌, length, Result, OnOk, sym, ap, subst, ◌∙◌}
use Rattle.std.specs.Prelude.{replicate}
use Rattle.std.specs.declared.alloc.AllocError.{AllocError}
use Rattle.body_validator.specs.declared.locals.Run.{Run}
use Rattle.body_validator.specs.Runs.{end_of, run_types}
use Rattle.body_validator.proofs.RunLaws.{runs_declared}
use Rattle.body_validator.proofs.locals.Locals.declare.Goals as goal
use Rattle.body_validator.proofs.locals.Locals.declare.Goals.{in-Ok, in-Err}

pub returns-clause-ok : goal.returns-clause-ok
returns-clause-ok c =
    let params = c.self.inside.params.now in
    let runs = c.self.inside.runs.items in
    let more = c.push.new.self.items in
    let run : Run = record { end = c.in-Some.end; ty = c.args.ty } in
    let declares = λ (r : Result (Unit {0}) AllocError). OnOk r (params ++ run_types (length params) more ≡ c.args.self.now ++ replicate c.args.count c.args.ty) in
    let start : c.end_of_last-start.result ≡ end_of (length params) runs = c.end_of_last-start.ensures ∙ ap (end_of (length params)) c.deref.ensures.value in
    let ends : run.end ≡ end_of (length params) runs + c.args.count = c.in-Some.ensures.1 ∙ ap (λ n. n + c.args.count) start in
    elim c.match-push.branch [
      | in-Ok w ↦ subst declares (sym w.result-is) (runs_declared params runs more run c.args.count c.args.self.now c.self.view_is w.in-Ok.ensures.items ends)
      | in-Err w ↦ subst declares (sym w.result-is) tt
    ]
