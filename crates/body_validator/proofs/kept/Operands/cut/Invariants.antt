use Rattle.std.proofs.Common.{◌≡◌, ◌+◌, ◌≤◌, length, take}
use Rattle.body_validator.specs.Kept.{spreads, flat, IsKept, KeepsRoom}
use Rattle.body_validator.proofs.kept.Operands.cut.Given as goal

abbrev pub invariant-loop-self : goal.invariant-loop-self
invariant-loop-self l = record {
  same : take l.height (flat l.self) ≡ take l.height (flat l.initial.self);
  within : l.height ≤ length (flat l.self);
  kept : IsKept l.self;
  room : KeepsRoom l.initial.self l.self;
}

abbrev pub decreases-loop-self : goal.decreases-loop-self
decreases-loop-self l = l.self.listed + length (spreads l.self.lists)
