use Rattle.std.proofs.Common.{◌≡◌, ◌+◌, ◌-◌, ◌≤◌, ◌++◌, length, map, take, Some, vec_len}
use Rattle.std.specs.Prelude.{vec_capacity}
use Rattle.body_validator.proofs.operands.put_all.Given as goal

abbrev pub invariant-loop-t : goal.invariant-loop-t
invariant-loop-t l = record {
  items : l.operands.items ≡ l.initial.operands.items ++ map Some (take l.t-index l.types);
  room : vec_len l.operands + (length l.types - l.t-index) ≤ vec_capacity l.operands;
}
