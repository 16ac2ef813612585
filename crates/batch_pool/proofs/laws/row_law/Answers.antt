use Rattle.batch_pool.proofs.Complete.{rows_are_complete}
use Rattle.batch_pool.proofs.laws.row_law.Goals as goal

pub returns : goal.returns
returns c = rows_are_complete
