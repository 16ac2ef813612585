use Rattle.std.proofs.Common.{◌+◌, length, sym, arith}
use Rattle.image_linker.proofs.DataRows.{has_none}
use Rattle.image_linker.proofs.ElementRows.{all_fit_more, not_all_fit}
use Rattle.image_linker.proofs.tables.have_rows.Goals as goal

pub returns-then-not-has_rows : goal.returns-then-not-has_rows
returns-then-not-has_rows c =
    let row = c.segment-item.result in
    let over = has_none c.has_rows.result (row.place + length row.functions) c.args.rows c.has_rows.ensures.1 c.if-not-has_rows.true in
    sym (not_all_fit c.args.rows c.args.segments.now c.loop-segment.segment-index row (omega (arith, c.loop-segment-test.true)) c.segment-item.is over)

pub loop-segment-preserved : goal.loop-segment-preserved
loop-segment-preserved c =
    let fits = c.has_rows.ensures.0 c.if-not-has_rows.false in
    all_fit_more c.args.rows c.args.segments.now c.loop-segment.segment-index c.segment-item.result (omega (arith, c.loop-segment-test.true)) c.segment-item.is c.loop-segment.invariant fits
