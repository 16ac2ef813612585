use Rattle.std.proofs.Common.{◌++◌, map, List, ℕ, ap, ◌∙◌}
use Rattle.rv_isa.specs.Words.{word_of}
use Rattle.table_calls.proofs.Results.{one_more, moved_words}
use Rattle.table_calls.proofs.returning.move_results.Goals as goal

-- src/returning.rt:41:5
pub loop-index-preserved : goal.loop-index-preserved
loop-index-preserved c =
    c.in-Ok.ensures.ok ∙ ap (λ (ws : List ℕ). ws ++ map word_of (moved_words c.args.layout.now c.loop-index.index)) c.loop-index.invariant ∙ one_more c.args.buffer.now c.args.layout.now c.loop-index.index
