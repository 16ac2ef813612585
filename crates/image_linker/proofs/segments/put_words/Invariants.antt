use Rattle.std.proofs.Common.{◌≡◌, ◌+◌, ◌++◌, take, length}
use Rattle.rv_isa.specs.declared.stepping.Region.TheVariants.{Passive}
use Rattle.rv_isa.specs.Steps.{region_base}
use Rattle.index_spaces.specs.Entries.{segments_at_first}
use Rattle.image_linker.specs.ImageOf.{segment_words, joined}
use Rattle.image_linker.proofs.segments.put_words.Given as goal

-- the words of the segments so far, and the address after their bytes
abbrev pub invariant-loop-row : goal.invariant-loop-row
invariant-loop-row l = (l.words.items ≡ l.initial.words.items ++ segment_words 0 (segments_at_first (take l.row-index l.rows)))
    × (l.address ≡ region_base Passive + length (joined (segments_at_first (take l.row-index l.rows))))
