-- An i32 as an instruction word: what the extension by its sign keeps.
use Rattle.std.proofs.Common.{◌≡◌, ℕ, suc, ◌+◌, ◌-◌, ◌%◌, ◌==◌, ◌^◌, ◌<◌, ℤ, pos, negsuc, inl, inr, refl, sym, ap, ap₂, ◌∙◌, arith, FitsSigned, le_of_eq, le_of_lt}
use Rattle.std.specs.Prelude.{nat_lt}
use Rattle.std.specs.Int.{w32, w64, cast_signed, cast_unsigned}
use Rattle.std.proofs.lemmas.Bool.{cases_lt, cases_eq, lt-ltb, le-ltb, eq-eqb, ne_eqb}
use Rattle.rv_isa.specs.declared.operations.RegOpW.{RegOpW}
use Rattle.rv_isa.specs.Values.{extended, computed_w, computed_word}
use Rattle.wasm_defs.specs.declared.types.ValType.{ValType}
use Rattle.wasm_defs.specs.declared.types.ValType.TheVariants.{I32, I64}
use Rattle.wasm_defs.specs.Values.{modulus, signed, word}
use Rattle.frame_layout.proofs.WordLaws.{word_small, word_large, word_i32_below, low_word}

-- so an operation on the lower halves gives the word of what it computes from the numbers
pub narrow : (op : RegOpW) (a b : ℕ) → a < 2 ^ 32 → b < 2 ^ 32 → computed_w op (word I32 a) (word I32 b) ≡ word I32 (computed_word op a b)
narrow op a b ha hb = ap₂ (λ (x y : ℕ). extended 32 (computed_word op x y)) (low_word a ha) (low_word b hb)

-- ---- signed numbers

signed_i32 : (a : ℕ) → a < 2 ^ 32 → cast_signed w64 (word I32 a) ≡ cast_signed w32 a
signed_i32 a h =
    elim (cases_lt a (2 ^ 31)) [
      | inl p ↦ rw (word_small a p, lt-ltb a (2 ^ 31) p, lt-ltb a (2 ^ 63) (omega arith)) refl
      | inr p ↦ rw (word_large a p, le-ltb a (2 ^ 31) p, le-ltb (a + (2 ^ 64 - 2 ^ 32)) (2 ^ 63) (omega arith)) (ap negsuc (omega arith))
    ]

-- a signed number of 32 bits, in 64
pub word_of_signed : (z : ℤ) → FitsSigned w32 z → cast_unsigned w64 z ≡ word I32 (cast_unsigned w32 z)
word_of_signed (pos n) f = sym (word_small n f.sfits)
word_of_signed (negsuc n) f =
    let h : n < 2 ^ 31 = f.sfits in
    omega (arith, word_large (2 ^ 32 - suc n) (omega arith))

-- ---- order

word_injective : (a b : ℕ) → a < 2 ^ 32 → b < 2 ^ 32 → word I32 a ≡ word I32 b → a ≡ b
word_injective a b ha hb e = sym (low_word a ha) ∙ ap (λ (x : ℕ). x % 2 ^ 32) e ∙ low_word b hb

pub eq_i32 : (a b : ℕ) → a < 2 ^ 32 → b < 2 ^ 32 → (word I32 a == word I32 b) ≡ (a == b)
eq_i32 a b ha hb =
    elim (cases_eq a b) [
      | inl e ↦ eq-eqb (word I32 a) (word I32 b) (ap (word I32) e) ∙ sym (eq-eqb a b e)
      | inr n ↦ ne_eqb (word I32 a) (word I32 b) (λ e. n (word_injective a b ha hb e)) ∙ sym (ne_eqb a b n)
    ]

rises : (a b : ℕ) → b < 2 ^ 32 → a < b → word I32 a < word I32 b
rises a b h p =
    elim (cases_lt a (2 ^ 31)) [
      | inl q ↦ elim (cases_lt b (2 ^ 31)) [
        | inl r ↦ omega (arith, word_small a q, word_small b r)
        | inr r ↦ omega (arith, word_small a q, word_large b r)
      ]
      | inr q ↦ omega (arith, word_large a q, word_large b (omega arith))
    ]

pub lt_i32 : (a b : ℕ) → a < 2 ^ 32 → b < 2 ^ 32 → nat_lt (word I32 a) (word I32 b) ≡ nat_lt a b
lt_i32 a b ha hb =
    elim (cases_lt a b) [
      | inl p ↦ lt-ltb (word I32 a) (word I32 b) (rises a b hb p) ∙ sym (lt-ltb a b p)
      | inr p ↦ le-ltb (word I32 a) (word I32 b) (elim (cases_eq b a) [
        | inl e ↦ le_of_eq (ap (word I32) e)
        | inr n ↦ le_of_lt (rises b a ha (omega arith))
      ]) ∙ sym (le-ltb a b p)
    ]

-- ---- words of both types

pub word_below : (t : ValType) (a : ℕ) → a < modulus t → word t a < 2 ^ 64
word_below I32 a h = word_i32_below a h
word_below I64 a h = h

pub eq_word : (t : ValType) (a b : ℕ) → a < modulus t → b < modulus t → (word t a == word t b) ≡ (a == b)
eq_word I32 a b ha hb = eq_i32 a b ha hb
eq_word I64 a b ha hb = refl

pub lt_word : (t : ValType) (a b : ℕ) → a < modulus t → b < modulus t → nat_lt (word t a) (word t b) ≡ nat_lt a b
lt_word I32 a b ha hb = lt_i32 a b ha hb
lt_word I64 a b ha hb = refl

pub signed_word : (t : ValType) (a : ℕ) → a < modulus t → cast_signed w64 (word t a) ≡ signed t a
signed_word I32 a h = signed_i32 a h
signed_word I64 a h = refl
