use Rattle.std.proofs.Common.{◌≢◌, All, take}
use Rattle.batch_pool.proofs.lanes.many.lane_of.Given as goal

abbrev pub invariant-loop-k : goal.invariant-loop-k
invariant-loop-k l = All (λ x. x.module ≢ l.«module») (take l.k l.lanes)
