use Rattle.std.specs.Prelude.{◌≡◌, []}
use Rattle.result_cells.specs.Views.{seen_view}
use Rattle.result_cells.proofs.room.Room.take.Given as goal

-- the seat has taken nothing so far, and has seen what is left
abbrev pub invariant-loop-left : goal.invariant-loop-left
invariant-loop-left l = (l.place.table_id ≡ l.initial.place.table_id) × (l.place.me ≡ (seen_view l.left, []))

abbrev pub decreases-loop-left : goal.decreases-loop-left
decreases-loop-left l = l.left
