use Rattle.std.proofs.Common.{◌≡◌}
use Rattle.worker_tests.proofs.boards.work_off.Given as goal

abbrev pub invariant-loop-place : goal.invariant-loop-place
invariant-loop-place l = (l.seat.table ≡ l.initial.seat.table) × (l.seat.view.parts ≡ l.initial.seat.view.parts)
