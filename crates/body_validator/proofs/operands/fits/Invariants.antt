use Rattle.std.proofs.Common.{◌≡◌, ◌≤◌, length, reverse, take}
use Rattle.body_validator.specs.Checking.{take_all}
use Rattle.body_validator.proofs.operands.fits.Given as goal

abbrev pub invariant-loop-owed : goal.invariant-loop-owed
invariant-loop-owed l = record {
  types_within : l.owed ≤ length l.types;
  own_within : l.left ≤ length l.own;
  same : take_all l.unknown (reverse l.types) (reverse l.own) ≡ take_all l.unknown (reverse (take l.owed l.types)) (reverse (take l.left l.own));
}

abbrev pub decreases-loop-owed : goal.decreases-loop-owed
decreases-loop-owed l = l.owed
