use Rattle.std.proofs.Common.{ap, ◌∙◌, sym, List, [], ◌∷◌, ◌++◌, ◌+◌, ◌<◌, ℕ, take, length, length-append, append_assoc, arith}
use Rattle.index_spaces.specs.Entries.{bytes_at_first, segments_at_first}
use Rattle.image_linker.specs.ImageOf.{segment_words, joined}
use Rattle.image_linker.proofs.NamedRows.{joined_more, joined_less, words_more}
use Rattle.image_linker.proofs.segments.put_words.Goals as goal

pub overflow_add-address : goal.overflow_add-address
overflow_add-address c =
    let row = c.row-item.result in
    let i = c.loop-row.row-index in
    let rows = c.args.rows.now in
    let own = bytes_at_first row.place row.bytes in
    let before = joined (segments_at_first (take i rows)) in
    let more = ap (λ (l : List ℕ). length l) (joined_more rows i row (omega (arith, c.loop-row-test.true)) c.row-item.is) in
    let size = ap (λ (l : List ℕ). length l) c.bytes_at_first.ensures in
    omega (arith, c.requires, c.loop-row.invariant.1, size, more, length-append before own, joined_less rows (i + 1))

pub loop-row-preserved : goal.loop-row-preserved
loop-row-preserved c =
    let row = c.row-item.result in
    let i = c.loop-row.row-index in
    let rows = c.args.rows.now in
    let less : i < length rows = omega (arith, c.loop-row-test.true) in
    let own = bytes_at_first row.place row.bytes in
    let front = c.args.words.now.items in
    let words = segment_words 0 (segments_at_first (take i rows)) in
    let before = joined (segments_at_first (take i rows)) in
    let more = ap (λ (l : List ℕ). length l) (joined_more rows i row less c.row-item.is) in
    let size = ap (λ (l : List ℕ). length l) c.bytes_at_first.ensures in
    let own_words = λ (n address : ℕ). n ∷ address ∷ [] in (
      c.in_ok-push-2.ensures.items
          ∙ ap (λ (l : List ℕ). l ++ c.loop-row.address ∷ []) c.in_ok-push.ensures.items
          ∙ append_assoc c.loop-row.words.items (length c.bytes_at_first.result.now ∷ []) (c.loop-row.address ∷ [])
          ∙ ap (λ (l : List ℕ). l ++ own_words (length c.bytes_at_first.result.now) c.loop-row.address) c.loop-row.invariant.0
          ∙ append_assoc front words (own_words (length c.bytes_at_first.result.now) c.loop-row.address)
          ∙ ap (λ (n : ℕ). front ++ (words ++ own_words n c.loop-row.address)) size
          ∙ ap (λ (n : ℕ). front ++ (words ++ own_words (length own) n)) c.loop-row.invariant.1
          ∙ ap (λ (l : List ℕ). front ++ l) (sym (words_more rows i row less c.row-item.is)),
      omega (arith, c.loop-row.invariant.1, size, more, length-append before own),
    )
