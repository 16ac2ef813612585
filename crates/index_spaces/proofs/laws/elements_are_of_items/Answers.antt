use Rattle.index_spaces.proofs.EntriesOfItems.{elements_are_of_items}
use Rattle.index_spaces.proofs.laws.elements_are_of_items.Goals as goal

pub returns : goal.returns
returns c = elements_are_of_items
