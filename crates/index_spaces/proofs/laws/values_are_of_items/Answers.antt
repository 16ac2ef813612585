use Rattle.index_spaces.proofs.EntriesOfItems.{values_are_of_items}
use Rattle.index_spaces.proofs.laws.values_are_of_items.Goals as goal

pub returns : goal.returns
returns c = values_are_of_items
