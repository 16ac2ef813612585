use Rattle.std.proofs.Common.{◌≡◌, ◌++◌, drop}
use Rattle.image_format.specs.Environment.{row_words, word_bytes}
use Rattle.image_run.proofs.regions.table_of.Given as goal

abbrev pub invariant-loop-row : goal.invariant-loop-row
invariant-loop-row l = l.bytes.items ++ word_bytes (row_words (drop l.row-index l.rows)) ≡ word_bytes (row_words l.rows)
