use Rattle.std.proofs.Common.{◌≤◌}
use Rattle.worker_tests.proofs.boards.count.Given as goal

abbrev pub invariant-loop-number : goal.invariant-loop-number
invariant-loop-number l = l.count ≤ l.number
