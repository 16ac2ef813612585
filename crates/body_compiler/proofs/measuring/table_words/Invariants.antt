use Rattle.std.proofs.Common.{◌≡◌, ◌≤◌, ◌+◌, ◌*◌, length, drop, reverse}
use Rattle.control_emit.specs.Pending.{AreBelow}
use Rattle.body_compiler.specs.Counting.{jump_sum}
use Rattle.body_compiler.proofs.measuring.table_words.Given as goal

abbrev pub invariant-loop-label : goal.invariant-loop-label
invariant-loop-label l = record {
  below : AreBelow (length l.takes) (drop l.label-index l.labels);
  low : l.count ≤ 0x8_0000_0000 * l.label-index;
  left : l.count + jump_sum (reverse l.takes) (drop l.label-index l.labels) ≡ jump_sum (reverse l.takes) l.labels;
}
