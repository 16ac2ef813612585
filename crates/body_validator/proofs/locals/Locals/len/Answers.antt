use Rattle.std.proofs.Common.{length, sym, ap, ◌∙◌, length-append}
use Rattle.body_validator.specs.Runs.{end_of, run_types}
use Rattle.body_validator.proofs.RunLaws.{runs_length}
use Rattle.body_validator.proofs.locals.Locals.len.Goals as goal

pub returns : goal.returns
returns c =
    let params = c.self.inside.params.now in
    let runs = c.self.inside.runs.items in
    let n = length params in
    c.end_of_last.ensures ∙ ap (end_of n) c.deref.ensures.value ∙ sym (runs_length n runs c.self.invariant)
    ∙ sym (length-append params (run_types n runs)) ∙ ap length c.self.view_is
