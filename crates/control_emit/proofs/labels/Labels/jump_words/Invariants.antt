use Rattle.std.proofs.Common.{◌≡◌, ◌≤◌, ◌+◌, ◌*◌, length, drop}
use Rattle.control_emit.specs.Pending.{AreBelow, shapes}
use Rattle.control_emit.proofs.Counts.{words_of_jumps}
use Rattle.control_emit.proofs.labels.Labels.jump_words.Given as goal

abbrev pub invariant-loop-label : goal.invariant-loop-label
invariant-loop-label l = record {
  below : AreBelow (length l.self) (drop l.label-index l.labels);
  low : l.count ≤ 0x4_0000_0000 * l.label-index;
  left : l.count + words_of_jumps (shapes l.self) (drop l.label-index l.labels) ≡ words_of_jumps (shapes l.self) l.labels;
}
