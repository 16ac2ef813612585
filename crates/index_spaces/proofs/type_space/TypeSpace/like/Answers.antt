use Rattle.std.proofs.Common.{arith}
use Rattle.index_spaces.proofs.LikeLaws.{like-le, like-listed}
use Rattle.index_spaces.proofs.type_space.TypeSpace.like.Goals as goal

pub returns-clause-value : goal.returns-clause-value
returns-clause-value c = like-listed c.self.inside.types.items c.args.self.now c.self.inside.likes.items c.args.index c.index.result.now c.self.view_is c.requires c.self.invariant.listed c.index.ensures

pub returns-clause-bound : goal.returns-clause-bound
returns-clause-bound c = omega (arith, returns-clause-value c, like-le c.args.self.now c.args.index c.requires)
