-- An i32 as an instruction's operand of 64 bits: it is extended by its sign.
use Rattle.std.proofs.Common.{◌≡◌, ◌≢◌, ℕ, suc, ◌+◌, ◌-◌, ◌%◌, ◌^◌, ◌<◌, ◌≤◌, inl, inr, refl, arith}
use Rattle.std.proofs.lemmas.Bool.{cases_lt, lt-ltb, le-ltb}
use Rattle.wasm_defs.specs.declared.types.ValType.TheVariants.{I32}
use Rattle.wasm_defs.specs.Values.{word}

pub word_small : (a : ℕ) → a < 2 ^ 31 → word I32 a ≡ a
word_small a h = rw (lt-ltb a (2 ^ 31) h) refl

pub word_large : (a : ℕ) → 2 ^ 31 ≤ a → word I32 a ≡ a + (2 ^ 64 - 2 ^ 32)
word_large a h = rw (le-ltb a (2 ^ 31) h) refl

pub word_i32_below : (a : ℕ) → a < 2 ^ 32 → word I32 a < 2 ^ 64
word_i32_below a h =
    elim (cases_lt a (2 ^ 31)) [
      | inl p ↦ omega (arith, word_small a p)
      | inr p ↦ omega (arith, word_large a p)
    ]

-- the lower half of the word is the number
pub low_word : (a : ℕ) → a < 2 ^ 32 → word I32 a % 2 ^ 32 ≡ a
low_word a h =
    elim (cases_lt a (2 ^ 31)) [
      | inl p ↦ omega (arith, word_small a p)
      | inr p ↦ omega (arith, word_large a p)
    ]

pub word_is_some : (n : ℕ) → word I32 (suc n) ≢ 0
word_is_some n e =
    elim (cases_lt (suc n) (2 ^ 31)) [
      | inl h ↦ let is : suc n ≡ 0 = rw (lt-ltb (suc n) (2 ^ 31) h) at e in absurd (omega arith)
      | inr h ↦ let is : suc n + (2 ^ 64 - 2 ^ 32) ≡ 0 = rw (le-ltb (suc n) (2 ^ 31) h) at e in absurd (omega arith)
    ]
