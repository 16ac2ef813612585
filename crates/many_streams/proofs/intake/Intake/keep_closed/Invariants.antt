use Rattle.std.proofs.Common.{◌≡◌, ◌++◌, length}
use Rattle.module_stream.specs.Kept.{kept_bodies}
use Rattle.many_streams.proofs.intake.Intake.keep_closed.Given as goal

abbrev pub invariant-loop-batch : goal.invariant-loop-batch
invariant-loop-batch l = record {
  same : (l.self.rest ≡ l.initial.self.rest) × (l.self.error ≡ l.initial.self.error);
  place : l.self.cutter.place ≡ l.initial.self.cutter.place;
  begun : l.self.cutter.queue.begun ≡ l.initial.self.cutter.queue.begun;
  least : l.self.cutter.queue.least ≡ l.initial.self.cutter.queue.least;
  kept : kept_bodies l.self.kept.items ++ l.self.cutter.queue.closed ≡ kept_bodies l.initial.self.kept.items ++ l.initial.self.cutter.queue.closed;
}

abbrev pub decreases-loop-batch : goal.decreases-loop-batch
decreases-loop-batch l = length l.self.cutter.queue.closed
