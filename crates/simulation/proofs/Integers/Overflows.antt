-- A signed quotient overflows exactly at the least number divided by -1.
use Rattle.std.proofs.Common.{◌≡◌, ℕ, zero, suc, ◌-◌, ◌/◌, ◌<◌, ℤ, pos, negsuc, neg_ℤ, Bool, true, ◌&&◌, inl, inr, refl, sym, ap, ap₂, ◌∙◌, arith, ◌==◌}
use Rattle.std.specs.Prelude.{int_div}
use Rattle.std.specs.Int.{w32, w64}
use Rattle.std.specs.Int.Signed.{mag}
use Rattle.std.specs.Ordering.{int_eq}
use Rattle.std.proofs.Math.Facts.{sfits_to_z}
use Rattle.std.proofs.Math.Nat.{div-le_self, div-one}
use Rattle.std.proofs.lemmas.Bool.{cases_eq, eq-eqb, ne_eqb, false_from_ne_true, and_left, and_right, and_from}
use Rattle.std.proofs.lemmas.Bool.Decides.{Decides-int_eq}
use Rattle.std.proofs.lemmas.Int.{of_z-to_z}
use Rattle.wasm_defs.specs.declared.types.ValType.{ValType}
use Rattle.wasm_defs.specs.declared.types.ValType.TheVariants.{I32, I64}
use Rattle.wasm_defs.specs.Values.{modulus, signed, unsigned}

not_negative : (n h : ℕ) → neg_ℤ (pos n) ≡ pos h → h ≡ 0
not_negative zero h e = cc
not_negative (suc n) h e = cc

overflow_only : (h : ℕ) (x y : ℤ) → 0 < h → mag x < h → int_div x y ≡ pos h → (x ≡ negsuc (h - 1)) × (y ≡ negsuc 0)
overflow_only h (pos a) (pos b) some f e = let q : a / b ≡ h = cc in absurd (omega (arith, div-le_self a b))
overflow_only h (pos a) (negsuc b) some f e = absurd (omega (arith, not_negative (a / suc b) h e))
overflow_only h (negsuc a) (pos b) some f e = absurd (omega (arith, not_negative (suc a / b) h e))
overflow_only h (negsuc a) (negsuc zero) some f e =
    let q : suc a / 1 ≡ h = cc in
    let least : a ≡ h - 1 = omega (arith, div-one (suc a)) in
    (ap negsuc least, refl)
overflow_only h (negsuc a) (negsuc (suc b)) some f e = let q : suc a / suc (suc b) ≡ h = cc in absurd (omega arith)

-- ---- at both types
magnitude : (t : ValType) (a : ℕ) → a < modulus t → mag (signed t a) < modulus t / 2
magnitude I32 a h = (sfits_to_z {w = w32} {n = a} (record { fits = h })).sfits
magnitude I64 a h = (sfits_to_z {w = w64} {n = a} (record { fits = h })).sfits

back : (t : ValType) (a : ℕ) → a < modulus t → unsigned t (signed t a) ≡ a
back I32 a h = of_z-to_z w32 a h
back I64 a h = of_z-to_z w64 a h

half_pos : (t : ValType) → 0 < modulus t / 2
half_pos I32 = omega arith
half_pos I64 = omega arith

least_of : (t : ValType) → unsigned t (negsuc (modulus t / 2 - 1)) ≡ modulus t / 2
least_of I32 = refl
least_of I64 = refl

minus_one_of : (t : ValType) → unsigned t (negsuc 0) ≡ modulus t - 1
minus_one_of I32 = refl
minus_one_of I64 = refl

overflow_there : (t : ValType) → int_div (signed t (modulus t / 2)) (signed t (modulus t - 1)) ≡ pos (modulus t / 2)
overflow_there I32 = refl
overflow_there I64 = refl

module _ (t : ValType) (a b : ℕ) (ha : a < modulus t) (hb : b < modulus t) where
  abbrev overflows : Bool
  overflows = int_eq (int_div (signed t a) (signed t b)) (pos (modulus t / 2))

  decided : (overflows ≡ true → int_div (signed t a) (signed t b) ≡ pos (modulus t / 2)) × (int_div (signed t a) (signed t b) ≡ pos (modulus t / 2) → overflows ≡ true)
  decided = Decides-int_eq (int_div (signed t a) (signed t b)) (pos (modulus t / 2))

  operands : overflows ≡ true → (signed t a ≡ negsuc (modulus t / 2 - 1)) × (signed t b ≡ negsuc 0)
  operands e = overflow_only (modulus t / 2) (signed t a) (signed t b) (half_pos t) (magnitude t a ha) (decided.0 e)

  a_is : overflows ≡ true → a ≡ modulus t / 2
  a_is e = sym (back t a ha) ∙ ap (unsigned t) (operands e).0 ∙ least_of t

  b_is : overflows ≡ true → b ≡ modulus t - 1
  b_is e = sym (back t b hb) ∙ ap (unsigned t) (operands e).1 ∙ minus_one_of t

  pub overflow_test : ((b == modulus t - 1) && (a == modulus t / 2)) ≡ overflows
  overflow_test = elim (cases_eq b (modulus t - 1)) [
    | inl eb ↦ elim (cases_eq a (modulus t / 2)) [
      | inl ea ↦ and_from (b == modulus t - 1) (a == modulus t / 2) (eq-eqb b (modulus t - 1) eb) (eq-eqb a (modulus t / 2) ea)
          ∙ sym (decided.1 (ap₂ (λ (x y : ℕ). int_div (signed t x) (signed t y)) ea eb ∙ overflow_there t))
      | inr na ↦ and_right (b == modulus t - 1) (a == modulus t / 2) (ne_eqb a (modulus t / 2) na)
          ∙ sym (false_from_ne_true overflows (λ e. na (a_is e)))
    ]
    | inr nb ↦ and_left (b == modulus t - 1) (a == modulus t / 2) (ne_eqb b (modulus t - 1) nb)
        ∙ sym (false_from_ne_true overflows (λ e. nb (b_is e)))
  ]
