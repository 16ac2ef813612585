-- The jumps that are kept in one list, each with the one before it to the same end.
use Rattle.std.proofs.Common.{◌≡◌, ◌<◌, ◌≤◌, inl, inr, ℕ, zero, suc, ◌-◌, Bool, true, false, nat_le, List, [], ◌∷◌, ◌++◌, Option, None, Some, length, get_or, refl, sym, ap, ◌∙◌, subst, arith, length-append}
use Rattle.std.specs.Prelude.{if◌then◌else◌}
use Rattle.std.proofs.lemmas.Bool.{cases_Bool}
use Rattle.std.proofs.lemmas.Bool.Decides.{nat_tests}
use Rattle.std.proofs.lemmas.List.{get_or_append_left, get_or-append_right}
use Rattle.std.proofs.Math.Seq.{get_or-append_seam}
use Rattle.control_emit.specs.declared.labels.Jump.{Jump}
use Rattle.control_emit.specs.Pending.{no_jump, jump_at, is_at, chain, IsBefore, AreLinked}
use Rattle.control_emit.proofs.Bases.{before-later}

is-there : (n : ℕ) → is_at n (Some n) ≡ true
is-there n = grind (arith, nat_tests)

is-elsewhere : (n : ℕ) (last : Option ℕ) → IsBefore n last → is_at n last ≡ false
is-elsewhere n None h = refl
is-elsewhere n (Some k) h = grind (arith, nat_tests, h)

-- further jumps change nothing
chain-front : (js ms : List Jump) (n : ℕ) (last : Option ℕ) → n ≤ length js → chain (js ++ ms) n last ≡ chain js n last
chain-front js ms zero last le = refl
chain-front js ms (suc n) last le =
    let same : jump_at (js ++ ms) n ≡ jump_at js n = get_or_append_left js ms no_jump n (omega arith) in
    let j = jump_at js n in
    ap (λ (x : Jump). if is_at n last then x.place ∷ chain (js ++ ms) n x.before else chain (js ++ ms) n last) same
    ∙ ap (λ (x : List ℕ). if is_at n last then j.place ∷ x else chain (js ++ ms) n last) (chain-front js ms n j.before (omega arith))
    ∙ ap (λ (x : List ℕ). if is_at n last then j.place ∷ chain js n j.before else x) (chain-front js ms n last (omega arith))

-- nor do those after the one that is named
chain-up : (js : List Jump) (k n : ℕ) (last : Option ℕ) → IsBefore k last → k ≤ n → chain js n last ≡ chain js k last
chain-up js k zero last b le = let e : 0 ≡ k = omega arith in ap (λ (m : ℕ). chain js m last) e
chain-up js k (suc n) last b le =
    elim (cases_Bool (nat_le k n)) [
      | inl h ↦
          let below : k ≤ n = grind (arith, nat_tests, h) in
          ap (λ (t : Bool). if t then (jump_at js n).place ∷ chain js n (jump_at js n).before else chain js n last) (is-elsewhere n last (before-later k n last below b))
          ∙ chain-up js k n last b below
      | inr h ↦
          let e : suc n ≡ k = grind (arith, nat_tests, h) in
          ap (λ (m : ℕ). chain js m last) e
    ]

here : (js : List Jump) (k : ℕ) → chain js (suc k) (Some k) ≡ (jump_at js k).place ∷ chain js k (jump_at js k).before
here js k = ap (λ (t : Bool). if t then (jump_at js k).place ∷ chain js k (jump_at js k).before else chain js k (Some k)) (is-there k)

-- the one that is named comes first
pub chain-step : (js : List Jump) (n k : ℕ) → AreLinked js → k < n → chain js n (Some k) ≡ (jump_at js k).place ∷ chain js n (jump_at js k).before
chain-step js n k linked lt =
    chain-up js (suc k) n (Some k) (omega arith) (omega arith)
    ∙ here js k
    ∙ ap (λ (x : List ℕ). (jump_at js k).place ∷ x) (sym (chain-up js k n (jump_at js k).before (linked k) (omega arith)))

pub chain-end : (js : List Jump) (n : ℕ) → chain js n None ≡ []
chain-end js zero = refl
chain-end js (suc n) = chain-end js n

-- ---- more jumps

pub chain-kept : (js ms : List Jump) (last : Option ℕ) → IsBefore (length js) last → chain (js ++ ms) (length (js ++ ms)) last ≡ chain js (length js) last
chain-kept js ms last b =
    let len = length-append js ms in
    chain-up (js ++ ms) (length js) (length (js ++ ms)) last b (omega arith) ∙ chain-front js ms (length js) last (omega arith)

pub chain-new : (js : List Jump) (j : Jump) → IsBefore (length js) j.before → chain (js ++ j ∷ []) (length (js ++ j ∷ [])) (Some (length js)) ≡ j.place ∷ chain js (length js) j.before
chain-new js j b =
    let len = length-append js (j ∷ []) in
    let all : length (js ++ j ∷ []) ≡ suc (length js) = omega arith in
    let whole = js ++ j ∷ [] in
    ap (λ (m : ℕ). chain whole m (Some (length js))) all
    ∙ here whole (length js)
    ∙ ap (λ (x : Jump). x.place ∷ chain whole (length js) x.before) (get_or-append_seam js j [] no_jump)
    ∙ ap (λ (x : List ℕ). j.place ∷ x) (chain-front js (j ∷ []) (length js) j.before (omega arith))

pub linked-push : (js : List Jump) (j : Jump) → AreLinked js → IsBefore (length js) j.before → AreLinked (js ++ j ∷ [])
linked-push js j linked b = λ k.
    elim (cases_Bool (nat_le (length js) k)) [
      | inl h ↦
          let behind : length js ≤ k = grind (arith, nat_tests, h) in
          subst (λ (x : Jump). IsBefore k x.before) (sym (get_or-append_right js (j ∷ []) (length js) k no_jump refl behind)) (one k (k - length js) behind)
      | inr h ↦
          let front : k < length js = grind (arith, nat_tests, h) in
          subst (λ (x : Jump). IsBefore k x.before) (sym (get_or_append_left js (j ∷ []) no_jump k front)) (linked k)
    ]
  where
    one : (k m : ℕ) → length js ≤ k → IsBefore k (get_or (j ∷ []) m no_jump).before
    one k zero le = before-later (length js) k j.before le b
    one k (suc m) le = tt

-- ---- fewer jumps

none-behind : (js : List Jump) (k : ℕ) → length js ≤ k → jump_at js k ≡ no_jump
none-behind [] k le = refl
none-behind (j ∷ js) zero le = absurd (omega arith)
none-behind (j ∷ js) (suc k) le = none-behind js k (omega arith)

pub linked-front : (js ms : List Jump) → AreLinked (js ++ ms) → AreLinked js
linked-front js ms linked = λ k.
    elim (cases_Bool (nat_le (length js) k)) [
      | inl h ↦
          let behind : length js ≤ k = grind (arith, nat_tests, h) in
          subst (λ (x : Jump). IsBefore k x.before) (sym (none-behind js k behind)) tt
      | inr h ↦
          let front : k < length js = grind (arith, nat_tests, h) in
          subst (λ (x : Jump). IsBefore k x.before) (get_or_append_left js ms no_jump k front) (linked k)
    ]
