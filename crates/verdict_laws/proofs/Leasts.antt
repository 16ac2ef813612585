-- The error of least offset among some, where there are any.
use Rattle.std.proofs.Common.{◌≡◌, ◌≤◌, ◌⊎◌, inl, inr, Option, None, Some, refl, ap, arith}
use Rattle.std.proofs.lemmas.Bool.{cases_lt}
use Rattle.wasm_defs.specs.declared.fault.Refusal.{Refusal}

-- one has the least offset, or there is none
abbrev pub HasLeast : (Refusal → Type 0) → Type 0
HasLeast P = ((r : Refusal) × P r × ((s : Refusal) → P s → r.offset ≤ s.offset)) ⊎ ((s : Refusal) → P s → ⊥)

pub least_only : (x : Option Refusal) → HasLeast (λ r. x ≡ Some r)
least_only None = inr (λ s e. absurd cc)
least_only (Some r) = inl (r, refl, λ s e. let same : r ≡ s = cc in omega (arith, ap (λ (t : Refusal). t.offset) same))

pub none_of : (x : Option Refusal) → ((s : Refusal) → x ≡ Some s → ⊥) → x ≡ None
none_of None h = refl
none_of (Some a) h = absurd (h a refl)

pub least_either : (P Q : Refusal → Type 0) → HasLeast P → HasLeast Q → HasLeast (λ r. P r ⊎ Q r)
least_either P Q (inl p) (inl q) =
    elim (cases_lt q.0.offset p.0.offset) [
      | inl lt ↦ inl (q.0, inr q.1, λ s k. elim k [ inl x ↦ omega (arith, p.2 s x) | inr y ↦ q.2 s y ])
      | inr le ↦ inl (p.0, inl p.1, λ s k. elim k [ inl x ↦ p.2 s x | inr y ↦ omega (arith, q.2 s y) ])
    ]
least_either P Q (inl p) (inr q) = inl (p.0, inl p.1, λ s k. elim k [ inl x ↦ p.2 s x | inr y ↦ absurd (q s y) ])
least_either P Q (inr p) (inl q) = inl (q.0, inr q.1, λ s k. elim k [ inl x ↦ absurd (p s x) | inr y ↦ q.2 s y ])
least_either P Q (inr p) (inr q) = inr (λ s k. elim k [ inl x ↦ p s x | inr y ↦ q s y ])
