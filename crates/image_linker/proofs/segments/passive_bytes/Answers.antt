use Rattle.std.proofs.Common.{ap, ◌∙◌, sym, List, ◌++◌, ℕ, take, arith}
use Rattle.index_spaces.specs.Entries.{segments_at_first}
use Rattle.image_linker.specs.ImageOf.{joined}
use Rattle.image_linker.proofs.NamedRows.{joined_more}
use Rattle.image_linker.proofs.segments.passive_bytes.Goals as goal

pub loop-row-preserved : goal.loop-row-preserved
loop-row-preserved c =
    let row = c.row-item.result in
    let i = c.loop-row.row-index in
    c.in_ok-extend_from_slice.ensures.items
    ∙ ap (λ (l : List ℕ). l ++ c.bytes_at_first.result.now) c.loop-row.invariant
    ∙ ap (λ (l : List ℕ). joined (segments_at_first (take i c.args.rows.now)) ++ l) c.bytes_at_first.ensures
    ∙ sym (joined_more c.args.rows.now i row (omega (arith, c.loop-row-test.true)) c.row-item.is)
