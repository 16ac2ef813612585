use Rattle.std.proofs.Common.{◌-◌, ◌≡◌, ℕ, ◌≤◌, ◌<◌, length, take, Some}
use Rattle.std.specs.Prelude.{slice_get}
use Rattle.body_validator.specs.declared.locals.Run.{Run}
use Rattle.body_validator.specs.Runs.{end_of}
use Rattle.body_validator.proofs.locals.type_in_runs.Given as goal

abbrev pub invariant-loop-low : goal.invariant-loop-low
invariant-loop-low l = record {
  ordered : l.low ≤ l.high;
  within : l.high ≤ length l.runs;
  past : (start : ℕ) → start ≤ l.index → end_of start (take l.low l.runs) ≤ l.index;
  before : (r : Run) → slice_get l.runs l.high ≡ Some r → l.index < r.end;
}

abbrev pub decreases-loop-low : goal.decreases-loop-low
decreases-loop-low l = l.high - l.low
