use Rattle.std.proofs.Common.{◌≡◌, ◌≤◌, ◌&&◌, length, reverse, take}
use Rattle.wasm_defs.specs.Typing.{same_types}
use Rattle.body_validator.proofs.operands.are_same.Given as goal

abbrev pub invariant-loop-owed : goal.invariant-loop-owed
invariant-loop-owed l = record {
  left_within : l.owed ≤ length l.left;
  right_within : l.owed ≤ length l.right;
  is_same : same_types (reverse l.left) (reverse l.right) ≡ l.same && same_types (reverse (take l.owed l.left)) (reverse (take l.owed l.right));
}

abbrev pub decreases-loop-owed : goal.decreases-loop-owed
decreases-loop-owed l = l.owed
