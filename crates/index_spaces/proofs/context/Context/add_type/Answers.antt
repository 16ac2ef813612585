use Rattle.index_spaces.proofs.SmallTypes.{small-push}
use Rattle.index_spaces.proofs.context.Context.add_type.Goals as goal

pub invariant_of-self-2 : goal.invariant_of-self-2
invariant_of-self-2 c = (c.self.invariant.0, c.self.invariant.1, rw c.in_ok-push.ensures.ok (small-push c.self.inside.types c.args.ty c.self.invariant.2 c.requires), c.self.invariant.3)
