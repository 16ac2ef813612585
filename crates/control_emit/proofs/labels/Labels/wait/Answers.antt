use Rattle.std.proofs.Common.{◌≡◌, ◌<◌, ◌+◌, ◌-◌, ℕ, List, ◌∷◌, ◌++◌, [], Some, length, set, arith, ap, sym, ◌∙◌, subst, length-append}
use Rattle.control_emit.specs.declared.labels.Jump.{Jump}
use Rattle.control_emit.specs.declared.labels.Open.{Open}
use Rattle.control_emit.specs.Pending.{pending_in, jumping, IsKept, AreKept}
use Rattle.control_emit.proofs.Bases.{kept-at, kept-set, kept-later}
use Rattle.control_emit.proofs.Chains.{linked-push}
use Rattle.control_emit.proofs.Views.{length-pending, waiting}
use Rattle.control_emit.proofs.labels.Labels.wait.Goals as goal

pub invariant_of-self-2 : goal.invariant_of-self-2
invariant_of-self-2 c =
    let js = c.self.inside.jumps.items in
    let items = c.self.inside.labels.items in
    let l = c.index-open.result.now in
    let i = c.len-2.result - 1 - c.args.label in
    let size : length c.args.self.now ≡ length items = ap length (sym c.self.view_is) ∙ length-pending js items in
    let len : c.len-2.result ≡ length items = omega (arith, c.self.inside.labels.ok.0) in
    let at : i < length items = omega (arith, c.requires) in
    let kept : IsKept (length js) l = subst (IsKept (length js)) (sym c.index-open.ensures) (kept-at (length js) items i l at c.self.invariant.0) in
    let j : Jump = record { place = c.in_ok-place.place; before = l.last_jump } in
    let more = length-append js (j ∷ []) in
    let own : c.in_ok-number.number ≡ length js = omega (arith, c.in_ok-number.ensures, c.len.ensures, c.self.inside.jumps.ok.0) in
    let new : Open = record l { last_jump = Some c.in_ok-number.number } in
    let all : AreKept (length (js ++ j ∷ [])) (set items i new) =
    kept-set (length (js ++ j ∷ [])) items i new (kept-later (length js) (length (js ++ j ∷ [])) items (omega arith) c.self.invariant.0) (kept.0, omega arith) in
    rw (c.in_ok-push.ensures.items, c.make_room.ensures) (all, linked-push js j c.self.invariant.1 kept.1)

pub returns-clause-ok : goal.returns-clause-ok
returns-clause-ok c =
    let js = c.self.inside.jumps.items in
    let items = c.self.inside.labels.items in
    let l = c.index-open.result.now in
    let i = c.len-2.result - 1 - c.args.label in
    let size : length c.args.self.now ≡ length items = ap length (sym c.self.view_is) ∙ length-pending js items in
    let len : c.len-2.result ≡ length items = omega (arith, c.self.inside.labels.ok.0) in
    let at : i + c.args.label + 1 ≡ length items = omega (arith, c.requires) in
    let own : c.in_ok-number.number ≡ length js = omega (arith, c.in_ok-number.ensures, c.len.ensures, c.self.inside.jumps.ok.0) in
    let n = c.in_ok-place.place in
    ap (λ (x : List Jump). pending_in x (set items i (record l { last_jump = Some c.in_ok-number.number }))) (c.in_ok-push.ensures.items ∙ ap (λ (x : List Jump). x ++ record { place = n; before = l.last_jump } ∷ []) c.make_room.ensures)
    ∙ ap (λ (k : ℕ). pending_in (js ++ record { place = n; before = l.last_jump } ∷ []) (set items i (record l { last_jump = Some k }))) own
    ∙ waiting js items i c.args.label n l at c.index-open.ensures c.self.invariant.0
    ∙ ap (jumping n c.args.label) c.self.view_is
    ∙ ap (λ (k : ℕ). jumping k c.args.label c.args.self.now) c.in_ok-place.ensures
