-- Operands from the lowest on.
use Rattle.std.proofs.Common.{◌≡◌, ℕ, zero, suc, ◌+◌, ◌⊎◌, inl, inr, ⊎_elim, List, [], ◌∷◌, ◌++◌, length, reverse, Some, refl, sym, ap, ◌∙◌, subst, arith}
use Rattle.std.specs.Prelude.{slice_get}
use Rattle.std.proofs.lemmas.List.{reverse-append, length-reverse, length-append, append-nil}
use Rattle.rv_isa.specs.Steps.{Bytes}
use Rattle.wasm_defs.specs.Typing.{Types}
use Rattle.wasm_defs.specs.Values.{Value, types_of_values}
use Rattle.frame_layout.specs.Laws.{slot_at}
use Rattle.simulation.proofs.Frames.Rules.{types_append}
use Rattle.simulation.proofs.Frames.Values.{Holds, holds_as, Operands, Locals}

-- a value of two lists is one of the first, or one of the second
pub among_both : {A : Type 0} (xs ys : List A) (k : ℕ) (v : A) → slice_get (xs ++ ys) k ≡ Some v → (slice_get xs k ≡ Some v) ⊎ ((j : ℕ) × (k ≡ length xs + j) × (slice_get ys j ≡ Some v))
among_both [] ys k v e = inr (k, omega arith, e)
among_both (x ∷ xs) ys zero v e = inl e
among_both (x ∷ xs) ys (suc k) v e = ⊎_elim (λ h. inl h) (λ h. inr (h.0, omega (arith, h.1), h.2)) (among_both xs ys k v e)

pub reverse_cons : {A : Type 0} (x : A) (xs : List A) → reverse (x ∷ xs) ≡ reverse xs ++ x ∷ []
reverse_cons x xs = reverse-append (x ∷ []) xs

pub types_reverse : (vs : List Value) → types_of_values (reverse vs) ≡ reverse (types_of_values vs)
types_reverse [] = refl
types_reverse (v ∷ vs) =
    ap types_of_values (reverse_cons v vs) ∙ types_append (reverse vs) (v ∷ []) ∙ ap (λ (ts : Types). ts ++ v.ty ∷ []) (types_reverse vs)
    ∙ sym (reverse_cons v.ty (types_of_values vs))

pub passed : (b : Bytes) (first : ℕ) (vs ws : List Value) → Operands b first (vs ++ ws) → (k : ℕ) (u : Value) → slice_get (reverse vs) k ≡ Some u → Holds (slot_at b (first + length ws + k)) u
passed b first [] ws h k u is = absurd cc
passed b first (v ∷ vs) ws h k u is =
    ⊎_elim (λ e. passed b first vs ws h.1 k u e) last (among_both (reverse vs) (v ∷ []) k u (ap (λ (xs : List Value). slice_get xs k) (sym (reverse_cons v vs)) ∙ is))
  where
    last_by : (j : ℕ) → k ≡ length (reverse vs) + j → slice_get (v ∷ []) j ≡ Some u → Holds (slot_at b (first + length ws + k)) u
    last_by zero at is' =
        let same : v ≡ u = cc in
        let slot : first + length ws + k ≡ first + length (vs ++ ws) = omega (arith, length-reverse vs, length-append vs ws) in
        subst (Holds (slot_at b (first + length ws + k))) same (holds_as (slot_at b (first + length ws + k)) (ap (slot_at b) slot) h.0)
    last_by (suc j) at is' = absurd cc

    last : (j : ℕ) × (k ≡ length (reverse vs) + j) × (slice_get (v ∷ []) j ≡ Some u) → Holds (slot_at b (first + length ws + k)) u
    last e = last_by e.0 e.1 e.2

-- operands are, from the lowest on, values by their indices
pub operands_in_order : (b : Bytes) (first : ℕ) (vs : List Value) → Operands b first vs → Locals b first (reverse vs)
operands_in_order b first vs h = record { holds = holds }
  where
    holds : (k : ℕ) (u : Value) → slice_get (reverse vs) k ≡ Some u → Holds (slot_at b (first + k)) u
    holds k u is =
        let at : first + k ≡ first + 0 + k = omega arith in
        holds_as (slot_at b (first + k)) (ap (slot_at b) at) (passed b first vs [] (subst (Operands b first) (sym (append-nil vs)) h) k u is)
