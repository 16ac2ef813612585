use Rattle.index_spaces.proofs.EntriesOfItems.{segments_are_of_items, bytes_are_of_items}
use Rattle.index_spaces.proofs.laws.segments_are_of_items.Goals as goal

pub returns : goal.returns
returns c = λ items. (segments_are_of_items items, bytes_are_of_items items)
