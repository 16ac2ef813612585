use Rattle.body_compiler.specs.BatchRows.{IsRowOf}
use Rattle.module_stream.proofs.Sharing.{rows_grown}
use Rattle.many_streams.proofs.working.settle_lane.Goals as goal

pub settle-requires-clause-table : goal.settle-requires-clause-table
settle-requires-clause-table g c = λ κs lives. c.requires.table

pub settle-requires-clause-seat : goal.settle-requires-clause-seat
settle-requires-clause-seat g c = λ κs lives. let f = c.requires in (f.feeder, f.running, f.parts)

pub settle-requires-clause-kept : goal.settle-requires-clause-kept
settle-requires-clause-kept g c = λ κs lives. c.requires.kept

pub by_number-requires : goal.by_number-requires
by_number-requires g c =
    let grows = c.in-Some.ensures.1.adds in
    rows_grown (IsRowOf c.args.lane.context.now c.args.lane.cells) c.args.desk.rows.items grows.more _ grows.are c.requires.right grows.right
