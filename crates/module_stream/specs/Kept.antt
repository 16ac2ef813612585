-- Bodies that were kept, and what workers made of them.
use Rattle.std.specs.Prelude.{List, [], ◌∷◌, ◌++◌}
use Rattle.std.specs.Arc.{arc_value}
use Rattle.std.specs.declared.alloc.Global.{Global}
use Rattle.std.specs.declared.sync.Arc.{Arc}
use Rattle.index_spaces.specs.Spaces.{Spaces}
use Rattle.result_cells.specs.Rooms.{Store}
use Rattle.body_cutter.specs.declared.batch.Batch.{Batch}
use Rattle.body_cutter.specs.Bodies.{Body}
use Rattle.body_compiler.specs.declared.batch.row.RowCode.{RowCode}
use Rattle.body_compiler.specs.BatchRows.{IsCodeFor}

-- the bodies of these batches, in order
abbrev pub kept_bodies : List (Arc Batch Global) → List Body
kept_bodies [] = []
kept_bodies (b ∷ kept) = (arc_value b).bodies ++ kept_bodies kept

-- the first bodies have these codes
abbrev pub AreFront : Spaces → Store → List Body → List RowCode → Type 0
AreFront c cells bodies [] = Unit {0}
AreFront c cells [] (k ∷ codes) = ⊥
AreFront c cells (b ∷ bodies) (k ∷ codes) = IsCodeFor c cells b k × AreFront c cells bodies codes
