use Rattle.body_cutter.specs.Walks.{given}
use Rattle.body_cutter.proofs.Fills.{owed_none}
use Rattle.body_cutter.proofs.walk.Walk.settle.Goals as goal

pub returns-then-self-clause-same : goal.returns-then-self-clause-same
unfolding given
returns-then-self-clause-same c = owed_none c.args.self.now c.requires c.if-self-gt0.true c.if-self.true
