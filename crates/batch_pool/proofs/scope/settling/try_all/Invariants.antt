use Rattle.std.specs.Prelude.{◌≡◌, length}
use Rattle.std.specs.Vec.Iter.{into_iter_items, into_iter_len}
use Rattle.batch_pool.proofs.Tried.{HasTried}
use Rattle.batch_pool.proofs.scope.settling.try_all.Given as goal

abbrev pub invariant-loop-ticket : goal.invariant-loop-ticket
invariant-loop-ticket g l =
    (l.seat.table ≡ l.board.table)
    × HasTried l.compiler.context.now l.compiler.cells.now l.board.functions l.initial.seat.view l.seat.view l.initial.rows.items l.rows.items (into_iter_items l.ticket-iterator)
    × (length (into_iter_items l.ticket-iterator) ≡ into_iter_len l.ticket-iterator)
