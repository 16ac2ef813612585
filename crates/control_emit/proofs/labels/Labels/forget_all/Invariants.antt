use Rattle.std.proofs.Common.{◌≡◌, length, drop}
use Rattle.control_emit.specs.Pending.{AreBelow, all_unjumped}
use Rattle.control_emit.proofs.labels.Labels.forget_all.Given as goal

abbrev pub invariant-loop-label : goal.invariant-loop-label
invariant-loop-label l = record {
  count : length l.self ≡ length l.initial.self;
  below : AreBelow (length l.initial.self) (drop l.label-index l.labels);
  left : all_unjumped (drop l.label-index l.labels) l.self ≡ all_unjumped l.labels l.initial.self;
}
