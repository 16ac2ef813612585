use Rattle.batch_pool.proofs.AfterReading.{rows_grown}
use Rattle.worker_tests.proofs.scopes.settle_all.Goals as goal

pub by_number-requires : goal.by_number-requires
by_number-requires c =
    let compiler = c.args.compiler.now in
    rows_grown compiler.context.now compiler.cells.now _ _ _ _ c.in-Some.ensures.1 c.requires.rows
