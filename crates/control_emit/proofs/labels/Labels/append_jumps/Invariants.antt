use Rattle.std.proofs.Common.{◌≡◌, length, take, drop}
use Rattle.frame_layout.specs.Templates.{EmitContext, jumps}
use Rattle.control_emit.specs.Pending.{AreBelow, all_unjumped}
use Rattle.control_emit.specs.Emits.{draft, IsFront, IsHeld, Emits}
use Rattle.control_emit.proofs.Calls.{named_all}
use Rattle.control_emit.proofs.labels.Labels.append_jumps.Given as goal

abbrev pub invariant-loop-count : goal.invariant-loop-count
invariant-loop-count l = record {
  held : IsHeld (draft l.self l.buffer);
  count : length l.self ≡ length l.initial.self;
  below : AreBelow (length l.initial.self) (drop l.count l.labels);
  noted : all_unjumped (take l.count l.labels) l.self ≡ l.initial.self;
  front : IsFront l.initial.buffer l.buffer;
  emits : (w : EmitContext) → w.layout ≡ l.layout → Emits (draft l.initial.self l.initial.buffer) (draft l.self l.buffer) (λ ends. jumps w l.height (length l.initial.buffer) (named_all w (draft l.initial.self l.initial.buffer) (take l.count l.labels) ends));
}
