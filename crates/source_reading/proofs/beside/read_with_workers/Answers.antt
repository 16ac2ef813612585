use Rattle.body_compiler.specs.BatchRows.{IsRowOf}
use Rattle.module_stream.proofs.Sharing.{rows_grown}
use Rattle.source_reading.proofs.beside.read_with_workers.Goals as goal

pub by_number-requires : goal.by_number-requires
by_number-requires g c =
    let has = c.in-Some.ensures.read in
    let grows = c.in-Some-settle.ensures.1.adds in
    rows_grown (IsRowOf c.context-context.result.now c.in_ok-cells.cells) c.in-Some.unsettled.rows.items grows.more _ grows.are has.right grows.right
