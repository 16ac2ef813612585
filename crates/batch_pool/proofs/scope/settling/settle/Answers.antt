use Rattle.std.proofs.Common.{◌∙◌}
use Rattle.batch_pool.proofs.scope.settling.settle.Goals as goal

pub returns : goal.returns
returns g c = (
  c.try_all.new.seat.view,
  c.try_all.ensures.grows,
  c.close-closed.ensures.closed,
  λ b in'. c.close-closed.ensures.settled (c.in_ok-try_all.ensures.running ∙ c.requires.seat.1) b in' (c.in_ok-try_all.ensures.tried b in'),
)
