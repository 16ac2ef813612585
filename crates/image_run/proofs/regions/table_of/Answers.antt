use Rattle.std.proofs.Common.{ℕ, ◌+◌, ◌++◌, List, drop, sym, ap, ◌∙◌}
use Rattle.std.proofs.lemmas.List.{at_drop_more}
use Rattle.image_format.specs.declared.image.Row.{Row}
use Rattle.image_format.specs.Environment.{row_words, word_bytes}
use Rattle.image_run.proofs.WordLaws.{one_more}
use Rattle.image_run.proofs.regions.table_of.Goals as goal

pub loop-row-preserved : goal.loop-row-preserved
loop-row-preserved c =
    let l = c.loop-row in
    let rows = c.args.rows.now in
    let rest = word_bytes (row_words (drop (l.row-index + 1) rows)) in
    let next = at_drop_more (λ (rs : List Row). word_bytes (row_words rs)) rows l.row-index _ c.loop-row-test.true in
    let first = one_more l.bytes.items _ _ _ c.push_word.new.bytes.items c.in_ok-push_word.ensures (ap (λ (bytes : List ℕ). l.bytes.items ++ bytes) (sym next) ∙ l.invariant) in
    one_more c.push_word.new.bytes.items _ rest _ c.push_word-in-loop-row.new.bytes.items c.in_ok-push_word-2.ensures first
