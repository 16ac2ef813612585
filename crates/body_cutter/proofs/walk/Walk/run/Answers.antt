use Rattle.std.proofs.Common.{◌≡◌, ◌++◌, true, ap, ◌∙◌}
use Rattle.std.specs.Prelude.{is_some, not}
use Rattle.body_cutter.proofs.Fills.{stays_stopped}
use Rattle.body_cutter.proofs.walk.Walk.run.Goals as goal

pub returns-else-is_none-clause-same : goal.returns-else-is_none-clause-same
returns-else-is_none-clause-same c =
    let w = c.loop-self.self in
    let stopped : is_some w.stop ≡ true = c.is_none.ensures ∙ ap not c.if-is_none.false in
    λ more. c.loop-self.invariant.same more ∙ stays_stopped w (c.loop-self.rest.now ++ more) more stopped
