use Rattle.std.specs.Prelude.{◌≡◌, ◌+◌, All, vec_len}
use Rattle.std.specs.Vec.Iter.{into_iter_items, into_iter_len}
use Rattle.batch_pool.specs.Gathering.{Gathers, AreOf}
use Rattle.batch_pool.proofs.scope.gathering.join_all.Given as goal

abbrev pub invariant-loop-handle : goal.invariant-loop-handle
invariant-loop-handle g l =
    let rest = l.handle-iterator in
    (l.seat.table ≡ l.initial.seat.table)
    × All (λ h. AreOf l.context l.cells l.board.table h.promise) (into_iter_items rest)
    × Gathers l.context l.cells l.initial.seat.view l.seat.view l.initial.rows.items l.rows.items
    × (l.seat.view.parts + into_iter_len rest ≡ l.initial.seat.view.parts + vec_len l.fn.handles)
