use Rattle.std.proofs.Common.{◌≡◌, ◌≤◌, ℕ, List, length, take, refl, sym, subst, arith, ◌∙◌}
use Rattle.std.proofs.lemmas.List.{take_all}
use Rattle.frame_layout.specs.Templates.{jumps}
use Rattle.control_emit.specs.Pending.{AreBelow, all_unjumped}
use Rattle.control_emit.specs.Emits.{draft, Emits}
use Rattle.control_emit.proofs.Composing.{count-shapes}
use Rattle.control_emit.proofs.Calls.{framed, named_all, emits-more, below-next}
use Rattle.control_emit.proofs.Fronts.{front-later, always_err}
use Rattle.control_emit.proofs.Undoing.{unjumped-more, below-front}
use Rattle.control_emit.proofs.labels.Labels.append_jumps.Goals as goal

pub loop-count-preserved : goal.loop-count-preserved
loop-count-preserved c =
    let i = c.loop-count.invariant in
    let a = draft c.args.self.now c.args.buffer.now in
    let b = draft c.loop-count.self c.loop-count.buffer in
    let z = draft c.append_next.new.self c.append_next.new.buffer in
    let x = c.in_ok-append_next.ensures.ok (framed c.args.layout.now) refl in
    record {
      held = x.held;
      count = count-shapes c.append_next.new.self c.loop-count.self x.shapes_are ∙ i.count;
      below = below-next (length c.args.self.now) c.loop-count.count c.args.labels.now i.below;
      noted = unjumped-more c.args.labels.now c.loop-count.count c.args.self.now c.loop-count.self c.append_next.new.self c.loop-count-test.true i.noted c.in_ok-append_next.ensures.noted;
      front = front-later c.args.buffer.now c.loop-count.buffer c.append_next.new.buffer i.front c.in_ok-append_next.ensures.front;
      emits = λ w l. emits-more w a b z c.args.height c.loop-count.count c.args.labels.now (i.emits w l) (c.in_ok-append_next.ensures.ok w l) c.loop-count-test.true;
    }

pub returns-clause-ok : goal.returns-clause-ok
returns-clause-ok c = λ w l.
    let a = draft c.args.self.now c.args.buffer.now in
    let b = draft c.loop-count.self c.loop-count.buffer in
    let over : length c.args.labels.now ≤ c.loop-count.count = omega (arith, c.loop-count-test.false) in
    subst (λ (ls : List ℕ). Emits a b (λ ends. jumps w c.args.height (length c.args.buffer.now) (named_all w a ls ends))) (take_all c.loop-count.count c.args.labels.now over) (c.loop-count.invariant.emits w l)

pub returns-in_err-append_next-clause-front : goal.returns-in_err-append_next-clause-front
returns-in_err-append_next-clause-front c =
    front-later c.args.buffer.now c.loop-count.buffer c.append_next.new.buffer c.loop-count.invariant.front c.in_err-append_next.ensures.front

pub returns-clause-noted : goal.returns-clause-noted
returns-clause-noted c =
    let over : length c.args.labels.now ≤ c.loop-count.count = omega (arith, c.loop-count-test.false) in
    subst (λ (ls : List ℕ). all_unjumped ls c.loop-count.self ≡ c.args.self.now) (take_all c.loop-count.count c.args.labels.now over) c.loop-count.invariant.noted

pub append_next-requires-clause-others : goal.append_next-requires-clause-others
append_next-requires-clause-others c =
    let i = c.loop-count.invariant in
    subst (λ (n : ℕ). AreBelow n (take c.loop-count.count c.args.labels.now)) (sym i.count) (below-front (length c.args.self.now) c.loop-count.count c.args.labels.now c.requires.labels)

pub returns-in_err-append_next-clause-kept : goal.returns-in_err-append_next-clause-kept
returns-in_err-append_next-clause-kept c = always_err c.from_residual.result (c.in_err-append_next.ensures.err ∙ c.loop-count.invariant.noted)
