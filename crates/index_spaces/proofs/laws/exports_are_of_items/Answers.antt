use Rattle.index_spaces.proofs.EntriesOfItems.{exports_are_of_items}
use Rattle.index_spaces.proofs.laws.exports_are_of_items.Goals as goal

pub returns : goal.returns
returns c = exports_are_of_items
