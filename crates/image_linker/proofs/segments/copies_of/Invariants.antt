use Rattle.std.proofs.Common.{◌≡◌, map, take}
use Rattle.index_spaces.specs.Entries.{written_segments}
use Rattle.image_linker.specs.ImageOf.{segment_of}
use Rattle.image_linker.proofs.segments.copies_of.Given as goal

abbrev pub invariant-loop-row : goal.invariant-loop-row
invariant-loop-row l = l.segments.items ≡ map segment_of (written_segments (take l.row-index l.rows))
