use Rattle.index_spaces.proofs.SpaceLaws.{spaces_of-append}
use Rattle.index_spaces.proofs.laws.items_are_added.Goals as goal

pub returns : goal.returns
returns c = spaces_of-append
