use Rattle.std.proofs.Common.{◌≡◌, ◌<◌, ◌-◌, ◌∷◌, ℕ, get_or, set, length, None, arith, ap, sym, ◌∙◌, subst}
use Rattle.control_emit.specs.declared.labels.Open.{Open}
use Rattle.control_emit.specs.Pending.{pending_of, pending_in, IsKept}
use Rattle.control_emit.proofs.Bases.{kept-at, kept-set}
use Rattle.control_emit.proofs.Views.{length-pending, innermost}
use Rattle.control_emit.proofs.Calls.{takes-test}
use Rattle.control_emit.proofs.labels.Labels.take_test.Goals as goal

pub invariant_of-self : goal.invariant_of-self
invariant_of-self c =
    let js = c.self.inside.jumps.items in
    let items = c.self.inside.labels.items in
    let l = c.index-open.result.now in
    let i = c.len-index.result - 1 in
    let size : length c.args.self.now ≡ length items = ap length (sym c.self.view_is) ∙ length-pending js items in
    let len : c.len-index.result ≡ length items = omega (arith, c.self.inside.labels.ok.0) in
    let at : i < length items = omega (arith, c.requires) in
    let kept : IsKept (length js) l = subst (IsKept (length js)) (sym c.index-open.ensures) (kept-at (length js) items i l at c.self.invariant.0) in
    (kept-set (length js) items i (record l { test = None }) c.self.invariant.0 kept, c.self.invariant.1)

pub returns : goal.returns
returns c =
    let js = c.self.inside.jumps.items in
    let items = c.self.inside.labels.items in
    let l = c.index-open.result.now in
    let size : length c.args.self.now ≡ length items = ap length (sym c.self.view_is) ∙ length-pending js items in
    let len : c.len-index.result ≡ length items = omega (arith, c.self.inside.labels.ok.0) in
    let some : 0 < length items = omega (arith, c.requires) in
    let new : Open = record l { test = None } in
    let same : c.len-index.result - 1 ≡ length items - 1 = omega arith in
    let i = innermost js items l new some (subst (λ (m : ℕ). l ≡ get_or items m l) same c.index-open.ensures) in
    takes-test c.args.self.now _ i.rest (pending_of js l) (sym c.self.view_is ∙ i.before) (subst (λ (m : ℕ). pending_in js (set items m new) ≡ pending_of js new ∷ i.rest) (sym same) i.after)
