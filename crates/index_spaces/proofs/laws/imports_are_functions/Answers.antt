use Rattle.index_spaces.proofs.EntriesOfItems.{imports_are_counted, imports_are_functions}
use Rattle.index_spaces.proofs.laws.imports_are_functions.Goals as goal

pub returns : goal.returns
returns c = λ items. (imports_are_counted items, imports_are_functions items)
