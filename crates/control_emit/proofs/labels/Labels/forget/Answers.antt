use Rattle.std.proofs.Common.{◌≡◌, ◌<◌, ◌+◌, ◌-◌, List, length, arith, ap, sym, ◌∙◌, subst}
use Rattle.control_emit.specs.declared.labels.Jump.{Jump}
use Rattle.control_emit.specs.Pending.{unjumped, chain, fewer, IsBefore, IsKept}
use Rattle.control_emit.proofs.Bases.{kept-at, kept-set}
use Rattle.control_emit.proofs.Views.{length-pending, unjumping}
use Rattle.control_emit.proofs.labels.Labels.forget.Goals as goal

pub jump_before-last_jump-requires-clause-last : goal.jump_before-last_jump-requires-clause-last
jump_before-last_jump-requires-clause-last c =
    let js = c.self.inside.jumps.items in
    let items = c.self.inside.labels.items in
    let l = c.index-open.result.now in
    let i = c.len.result - 1 - c.args.label in
    let size : length c.args.self.now ≡ length items = ap length (sym c.self.view_is) ∙ length-pending js items in
    let len : c.len.result ≡ length items = omega (arith, c.self.inside.labels.ok.0) in
    let at : i < length items = omega (arith, c.requires) in
    let kept : IsKept (length js) l = subst (IsKept (length js)) (sym c.index-open.ensures) (kept-at (length js) items i l at c.self.invariant.0) in
    subst (λ (x : List Jump). IsBefore (length x) l.last_jump) (sym c.as_slice.ensures.value) kept.1

pub invariant_of-self : goal.invariant_of-self
invariant_of-self c =
    let js = c.self.inside.jumps.items in
    let items = c.self.inside.labels.items in
    let l = c.index-open.result.now in
    let i = c.len.result - 1 - c.args.label in
    let size : length c.args.self.now ≡ length items = ap length (sym c.self.view_is) ∙ length-pending js items in
    let len : c.len.result ≡ length items = omega (arith, c.self.inside.labels.ok.0) in
    let at : i < length items = omega (arith, c.requires) in
    let kept : IsKept (length js) l = subst (IsKept (length js)) (sym c.index-open.ensures) (kept-at (length js) items i l at c.self.invariant.0) in
    let last = c.jump_before-last_jump.result in
    let named : IsBefore (length js) last = subst (λ (x : List Jump). IsBefore (length x) last) c.as_slice.ensures.value c.jump_before-last_jump.ensures.last in
    (kept-set (length js) items i (record l { last_jump = last }) c.self.invariant.0 (kept.0, named), c.self.invariant.1)

pub returns : goal.returns
returns c =
    let js = c.self.inside.jumps.items in
    let items = c.self.inside.labels.items in
    let l = c.index-open.result.now in
    let i = c.len.result - 1 - c.args.label in
    let size : length c.args.self.now ≡ length items = ap length (sym c.self.view_is) ∙ length-pending js items in
    let len : c.len.result ≡ length items = omega (arith, c.self.inside.labels.ok.0) in
    let at : i + c.args.label + 1 ≡ length items = omega (arith, c.requires) in
    let last = c.jump_before-last_jump.result in
    let less = subst (λ (x : List Jump). chain x (length x) last ≡ fewer l.start (chain x (length x) l.last_jump)) c.as_slice.ensures.value c.jump_before-last_jump.ensures.chain in
    unjumping js items i c.args.label l last at c.index-open.ensures less ∙ ap (unjumped c.args.label) c.self.view_is
