use Rattle.std.specs.Prelude.{◌≡◌, ◌+◌, ◌<◌, All, [], vec_len}
use Rattle.std.specs.Vec.Iter.{into_iter_len}
use Rattle.batch_pool.specs.Gathering.{Gathers, AreOf}
use Rattle.batch_pool.specs.Hands.{count_in}
use Rattle.batch_pool.proofs.scope.beside.fn.run_beside.scope.Given as goal

abbrev pub invariant-loop-hand : goal.invariant-loop-hand
invariant-loop-hand g l =
    (goal.iterator-loop-hand g).can_next l.hand-iterator
    × (goal.iterator-loop-hand g).is_finite l.hand-iterator
    × (l.seat.table ≡ l.board.now.table)
    × Gathers l.context l.cells l.initial.seat.view l.seat.view [] l.rows.items
    × (l.seat.view.parts + vec_len l.handles ≡ l.initial.seat.view.parts)
    × (vec_len l.handles + (into_iter_len l.hand-iterator + count_in l.own) < l.initial.seat.view.parts)
    × All (λ h. AreOf l.context l.cells l.board.now.table h.promise) l.handles.items
