use Rattle.std.proofs.Common.{rules}
use Rattle.index_spaces.proofs.TypeSpaces.{types-push}
use Rattle.index_spaces.proofs.type_space.TypeSpace.push.Goals as goal

pub invariant_of-self-2 : goal.invariant_of-self-2
invariant_of-self-2 c =
    types-push c.self.inside.types.items c.push-2.new.self.items c.self.inside.likes.items c.push.new.self.items c.self.inside.firsts c.first_at.new.firsts c.args.ty c.in_ok-key.key c.in_ok-first.first
    (search rules) (search rules) c.self.invariant (search rules) (search rules) (search rules)
