use Rattle.std.proofs.Common.{ap, List, ◌+◌, ℕ, take, length, length-append, arith}
use Rattle.index_spaces.specs.Entries.{bytes_at_first, segments_at_first}
use Rattle.image_linker.specs.ImageOf.{joined}
use Rattle.image_linker.proofs.NamedRows.{joined_more, joined_less}
use Rattle.image_linker.proofs.segments.passive_size.Goals as goal

pub overflow_add-size : goal.overflow_add-size
overflow_add-size c =
    let row = c.row-item.result in
    let i = c.loop-row.row-index in
    let rows = c.args.rows.now in
    let more = ap (λ (l : List ℕ). length l) (joined_more rows i row (omega (arith, c.loop-row-test.true)) c.row-item.is) in
    let size = ap (λ (l : List ℕ). length l) c.bytes_at_first.ensures in
    omega (arith, c.requires, c.loop-row.invariant, size, more, length-append (joined (segments_at_first (take i rows))) (bytes_at_first row.place row.bytes), joined_less rows (i + 1))

pub loop-row-preserved : goal.loop-row-preserved
loop-row-preserved c =
    let row = c.row-item.result in
    let i = c.loop-row.row-index in
    let rows = c.args.rows.now in
    let more = ap (λ (l : List ℕ). length l) (joined_more rows i row (omega (arith, c.loop-row-test.true)) c.row-item.is) in
    let size = ap (λ (l : List ℕ). length l) c.bytes_at_first.ensures in
    omega (arith, c.loop-row.invariant, size, more, length-append (joined (segments_at_first (take i rows))) (bytes_at_first row.place row.bytes))
