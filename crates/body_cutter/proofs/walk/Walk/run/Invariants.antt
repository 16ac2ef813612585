use Rattle.std.proofs.Common.{◌≡◌, ℕ, ◌+◌, List, ◌++◌, length, None}
use Rattle.body_cutter.specs.Bodies.{Block}
use Rattle.body_cutter.specs.Queues.{bodies_in}
use Rattle.body_cutter.specs.Walks.{given, batches_of, IsSound, AreBatches, Starts}
use Rattle.body_cutter.proofs.walk.Walk.run.Given as goal

abbrev pub invariant-loop-self : goal.invariant-loop-self
invariant-loop-self l = record {
  same : (more : List ℕ) → given l.initial.self (l.bytes ++ more) ≡ given l.self (l.rest ++ more);
  sound : IsSound l.self;
  batches : AreBatches l.initial.self → AreBatches l.self;
  kept : (l.self.end ≡ l.initial.self.end) × (l.self.behind ≡ l.initial.self.behind) × (l.self.least ≡ l.initial.self.least);
  counts : length (bodies_in (batches_of l.self)) + l.self.count ≡ length (bodies_in (batches_of l.initial.self)) + l.initial.self.count;
  at : l.self.stop ≡ None → l.self.at + length l.rest ≡ l.initial.self.at + length l.bytes;
  starts : (saved : Block) → Starts saved l.initial.self → Starts saved l.self;
}

abbrev pub decreases-loop-self : goal.decreases-loop-self
decreases-loop-self l = length l.rest
