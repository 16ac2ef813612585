use Rattle.std.proofs.Common.{◌≡◌, All, length}
use Rattle.std.specs.Vec.Iter.{into_iter_items, into_iter_len}
use Rattle.body_compiler.specs.BatchRows.{IsRowOf, IsRowIf}
use Rattle.batch_pool.proofs.Placing.{ArePlaced}
use Rattle.batch_pool.proofs.scope.numbered.by_number.Given as goal

abbrev pub invariant-loop-row : goal.invariant-loop-row
invariant-loop-row l =
    All (IsRowOf l.context l.cells) (into_iter_items l.row-iterator)
    × All (IsRowIf l.context l.cells) l.places.items
    × (length l.places.items ≡ l.count)
    × ArePlaced l.fn.rows.items l.places.items (into_iter_items l.row-iterator)
    × (length (into_iter_items l.row-iterator) ≡ into_iter_len l.row-iterator)
