use Rattle.std.proofs.Common.{◌≡◌, ◌+◌, length, true}
use Rattle.cancel_drain.specs.Views.{IsAbove}
use Rattle.worker_tests.proofs.boards.publish_all.Given as goal

abbrev pub invariant-loop-number : goal.invariant-loop-number
invariant-loop-number l = record {
  table : l.seat.table ≡ l.initial.seat.table;
  feeder : l.seat.view.feeder ≡ true;
  count : l.number ≡ length l.seat.view.published;
  above : IsAbove l.seat.view.published (l.number + 1);
  parts : l.seat.view.parts ≡ 8;
}
