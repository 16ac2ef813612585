use Rattle.std.proofs.Common.{◌≡◌}
use Rattle.batch_pool.specs.Desks.{IsDesk, IsIdle}
use Rattle.worker_tests.proofs.scopes.hand_all.Given as goal

abbrev pub invariant-loop-number : goal.invariant-loop-number
invariant-loop-number l = record {
  desk : IsDesk l.context l.board l.desk;
  parts : l.desk.seat.view.parts ≡ l.initial.desk.seat.view.parts;
  idle : IsIdle l.initial.desk l.desk;
}
