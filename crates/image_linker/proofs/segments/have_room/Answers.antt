use Rattle.std.proofs.Common.{◌*◌, sym, arith}
use Rattle.wasm_defs.specs.Memory.{page}
use Rattle.image_linker.proofs.DataRows.{all_fit_more, not_all_fit}
use Rattle.image_linker.proofs.segments.have_room.Goals as goal

pub returns-then-not-has_room : goal.returns-then-not-has_room
returns-then-not-has_room c =
    let size = page * c.args.pages in
    sym (not_all_fit size c.args.rows.now c.loop-row.row-index c.row-item.result c.has_room.result (omega (arith, c.loop-row-test.true)) c.row-item.is c.has_room.ensures.1 c.if-not-has_room.true)

pub loop-row-preserved : goal.loop-row-preserved
loop-row-preserved c =
    let size = page * c.args.pages in
    let fits = c.has_room.ensures.0 c.if-not-has_room.false in
    all_fit_more size c.args.rows.now c.loop-row.row-index c.row-item.result (omega (arith, c.loop-row-test.true)) c.row-item.is c.loop-row.invariant fits
