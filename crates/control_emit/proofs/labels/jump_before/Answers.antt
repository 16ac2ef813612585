use Rattle.std.proofs.Common.{◌≡◌, ◌<◌, ℕ, false, List, Option, None, Some, length, refl, sym, ap, ◌∙◌, subst}
use Rattle.std.specs.Prelude.{is_some}
use Rattle.std.proofs.lemmas.Bool.{true≢false}
use Rattle.control_emit.specs.declared.labels.Jump.{Jump}
use Rattle.control_emit.specs.Pending.{jump_at, chain, fewer, IsBefore, AreLinked}
use Rattle.control_emit.proofs.Chains.{chain-step, chain-end}
use Rattle.control_emit.proofs.labels.jump_before.Goals as goal

-- no index is known
none : (o : Option ℕ) → is_some o ≡ false → o ≡ None
none None e = refl
none (Some n) e = absurd (true≢false e)

one-fewer : (js : List Jump) (k : ℕ) (start last : Option ℕ) → AreLinked js → start ≡ None → last ≡ Some k → k < length js
    → chain js (length js) (jump_at js k).before ≡ fewer start (chain js (length js) last)
one-fewer js k start last linked is named lt =
    sym (ap (λ (o : Option ℕ). fewer o (chain js (length js) last)) is ∙ ap (λ (o : Option ℕ). fewer None (chain js (length js) o)) named ∙ ap (fewer None) (chain-step js (length js) k linked lt))

pub returns-in-Some-clause-chain : goal.returns-in-Some-clause-chain
returns-in-Some-clause-chain c =
    let js = c.args.jumps.now in
    one-fewer js c.in-Some.number c.args.start c.args.last c.requires.linked (none c.args.start (sym c.is_some.ensures ∙ c.if-is_some.false)) c.in-Some.is (subst (IsBefore (length js)) c.in-Some.is c.requires.last)

pub returns-in-None-clause-chain : goal.returns-in-None-clause-chain
returns-in-None-clause-chain c =
    let js = c.args.jumps.now in
    let start = none c.args.start (sym c.is_some.ensures ∙ c.if-is_some.false) in
    chain-end js (length js)
    ∙ sym (ap (λ (o : Option ℕ). fewer o (chain js (length js) c.args.last)) start ∙ ap (λ (o : Option ℕ). fewer None (chain js (length js) o)) c.in-None.is ∙ ap (fewer None) (chain-end js (length js)))
