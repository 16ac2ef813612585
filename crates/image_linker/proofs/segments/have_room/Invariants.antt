use Rattle.std.proofs.Common.{◌≡◌, ◌*◌, true, take}
use Rattle.wasm_defs.specs.Memory.{page}
use Rattle.wasm_defs.specs.Instances.{all_fit}
use Rattle.index_spaces.specs.Entries.{written_segments}
use Rattle.image_linker.proofs.segments.have_room.Given as goal

abbrev pub invariant-loop-row : goal.invariant-loop-row
invariant-loop-row l = all_fit (page * l.pages) (written_segments (take l.row-index l.rows)) ≡ true
