use Rattle.std.proofs.Common.{◌≡◌, ◌+◌, length}
use Rattle.body_validator.specs.Kept.{spreads, flat, IsSeen}
use Rattle.body_validator.proofs.kept.Operands.show_lists.Given as goal

abbrev pub invariant-loop-self : goal.invariant-loop-self
invariant-loop-self l = record {
  same : flat l.self ≡ flat l.initial.self;
  seen : IsSeen l.base l.unknown l.self;
}

abbrev pub decreases-loop-self : goal.decreases-loop-self
decreases-loop-self l = l.self.listed + length (spreads l.self.lists)
