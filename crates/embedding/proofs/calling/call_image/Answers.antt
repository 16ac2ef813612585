use Rattle.std.proofs.Common.{rules, sym, ◌∙◌}
use Rattle.embedding.proofs.Replies.{runs_image}
use Rattle.embedding.proofs.calling.call_image.Goals as goal

pub returns : goal.returns
returns c =
    let run = rw c.in_ok-instance.ensures.image at c.start_and_run-outcome.ensures.run in (
      sym c.call_checks.ensures ∙ c.in_default.is,
      runs_image _ (λ h. h.numbers.now) _ _ c.args.image.now c.args.export.now run.0 c.args.argument _ c.args.steps _ _ _ _ (search rules) run.1 run.2 c.first_result.ensures,
    )
