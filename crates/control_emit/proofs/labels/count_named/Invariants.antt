use Rattle.std.proofs.Common.{◌≤◌, ℕ, take}
use Rattle.control_emit.specs.Pending.{AreKept}
use Rattle.control_emit.proofs.labels.count_named.Given as goal

abbrev pub invariant-loop-open : goal.invariant-loop-open
invariant-loop-open l = (n : ℕ) → AreKept n l.labels → (l.count ≤ n) × AreKept l.count (take l.open-index l.labels)
