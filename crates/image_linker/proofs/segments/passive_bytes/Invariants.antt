use Rattle.std.proofs.Common.{◌≡◌, take}
use Rattle.index_spaces.specs.Entries.{segments_at_first}
use Rattle.image_linker.specs.ImageOf.{joined}
use Rattle.image_linker.proofs.segments.passive_bytes.Given as goal

abbrev pub invariant-loop-row : goal.invariant-loop-row
invariant-loop-row l = l.bytes.items ≡ joined (segments_at_first (take l.row-index l.rows))
