use Rattle.std.proofs.Common.{◌≡◌, ◌++◌, length}
use Rattle.batch_pool.specs.Desks.{IsDesk, IsIdle}
use Rattle.module_stream.specs.Kept.{kept_bodies}
use Rattle.source_reading.proofs.intake.hand_over.Given as goal

abbrev pub invariant-loop-batch : goal.invariant-loop-batch
invariant-loop-batch l = record {
  desk : IsDesk l.context l.board l.desk;
  parts : l.desk.seat.view.parts ≡ l.initial.desk.seat.view.parts;
  idle : IsIdle l.initial.desk l.desk;
  chunk : l.intake.chunk ≡ l.initial.intake.chunk;
  place : l.intake.cutter.place ≡ l.initial.intake.cutter.place;
  begun : l.intake.cutter.queue.begun ≡ l.initial.intake.cutter.queue.begun;
  least : l.intake.cutter.queue.least ≡ l.initial.intake.cutter.queue.least;
  kept : kept_bodies l.intake.kept.items ++ l.intake.cutter.queue.closed ≡ kept_bodies l.initial.intake.kept.items ++ l.initial.intake.cutter.queue.closed;
}

abbrev pub decreases-loop-batch : goal.decreases-loop-batch
decreases-loop-batch l = length l.intake.cutter.queue.closed
