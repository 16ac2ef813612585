use Rattle.std.proofs.Common.{◌≡◌, ◌++◌, map}
use Rattle.rv_isa.specs.Words.{word_of}
use Rattle.frame_layout.specs.Templates.{result_words}
use Rattle.table_calls.proofs.returning.move_results.Given as goal

abbrev pub invariant-loop-index : goal.invariant-loop-index
invariant-loop-index l = l.buffer ≡ l.fn.buffer ++ map word_of (result_words l.fn.layout l.index 0)
