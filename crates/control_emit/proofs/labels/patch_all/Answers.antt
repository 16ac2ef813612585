use Rattle.std.proofs.Common.{◌≡◌, ◌<◌, ◌+◌, ◌≤◌, ℕ, List, ◌∷◌, Option, None, Some, length, refl, sym, ap, ◌∙◌, subst, arith}
use Rattle.control_emit.specs.declared.labels.Jump.{Jump}
use Rattle.control_emit.specs.Pending.{jump_at, chain, IsBefore, AreLinked, AreWithin, all_patched}
use Rattle.control_emit.proofs.Chains.{chain-step, chain-end}
use Rattle.control_emit.proofs.Meanings.{length-patched}
use Rattle.control_emit.proofs.labels.patch_all.Goals as goal

-- a jump is named, and the others before it
record Next (js : List Jump) (n k : ℕ) : Type 0 where
  pub first : (jump_at js k).place + 2 ≤ n
  pub named : IsBefore (length js) (jump_at js k).before
  pub within : AreWithin n (chain js (length js) (jump_at js k).before)
  pub parts : chain js (length js) (Some k) ≡ (jump_at js k).place ∷ chain js (length js) (jump_at js k).before

earlier : (m n : ℕ) (o : Option ℕ) → m < n → IsBefore m o → IsBefore n o
earlier m n None lt h = tt
earlier m n (Some k) lt h = omega (arith, h)

next : (js : List Jump) (n k : ℕ) (o : Option ℕ) → AreLinked js → o ≡ Some k → IsBefore (length js) o → AreWithin n (chain js (length js) o) → Next js n k
next js n k o linked is named within =
    let lt : k < length js = subst (IsBefore (length js)) is named in
    let parts = chain-step js (length js) k linked lt in
    let all = subst (AreWithin n) (ap (chain js (length js)) is ∙ parts) within in
    record { first = all.0; named = earlier k (length js) (jump_at js k).before lt (linked k); within = all.1; parts = parts }

none : (o : Option ℕ) → ((k : ℕ) → o ≡ Some k → ⊥) → o ≡ None
none None h = refl
none (Some k) h = absurd (h k refl)

pub patch-requires : goal.patch-requires
patch-requires c =
    let i = c.loop-next.invariant in
    let x = next c.args.jumps.now (length c.args.words.now) c.in-Some.number c.loop-next.next c.requires.linked c.in-Some.is i.named i.within in
    let size = i.size in
    let first = x.first in
    omega arith

pub loop-next-preserved : goal.loop-next-preserved
loop-next-preserved c =
    let i = c.loop-next.invariant in
    let js = c.args.jumps.now in
    let k = c.in-Some.number in
    let x = next js (length c.args.words.now) k c.loop-next.next c.requires.linked c.in-Some.is i.named i.within in
    let rest = chain js (length js) (jump_at js k).before in
    let there = c.args.there in
    record {
      size = ap length c.patch.ensures ∙ length-patched there (jump_at js k).place c.loop-next.words ∙ i.size;
      named = x.named;
      within = x.within;
      so_far = ap (all_patched there rest) c.patch.ensures ∙ ap (λ (ps : List ℕ). all_patched there ps c.loop-next.words) (sym (ap (chain js (length js)) c.in-Some.is ∙ x.parts)) ∙ i.so_far;
    }

pub returns : goal.returns
returns c =
    let js = c.args.jumps.now in
    let i = c.loop-next.invariant in
    let over = none c.loop-next.next c.in_default.not-Some in
    ap (λ (ps : List ℕ). all_patched c.args.there ps c.loop-next.words) (sym (ap (chain js (length js)) over ∙ chain-end js (length js))) ∙ i.so_far
