use Rattle.index_spaces.proofs.LikeLaws.{like_is_least}
use Rattle.index_spaces.proofs.laws.like_is_least.Goals as goal

pub returns : goal.returns
returns c = like_is_least
