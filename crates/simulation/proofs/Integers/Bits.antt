-- AND, OR and XOR of instruction words of i32.
use Rattle.std.proofs.Common.{◌≡◌, ℕ, zero, suc, ◌+◌, ◌-◌, ◌*◌, ◌/◌, ◌%◌, ◌^◌, ◌<◌, inl, inr, refl, ap₂, ◌∙◌, arith, lt_of_le_of_lt}
use Rattle.std.specs.Prelude.{bit_and, bit_or, bit_xor}
use Rattle.std.proofs.lemmas.Bool.{cases_lt}
use Rattle.std.proofs.lemmas.Nat.{and_block, or_block, xor_block, and_le_l, or_lt, xor_lt}
use Rattle.wasm_defs.specs.declared.types.ValType.TheVariants.{I32}
use Rattle.wasm_defs.specs.Values.{word}
use Rattle.frame_layout.proofs.WordLaws.{word_small, word_large}

-- bit 31 and its copies, over the 31 bits below
word_is : (a : ℕ) → a < 2 ^ 32 → word I32 a ≡ (a / 2 ^ 31 * (2 ^ 33 - 1)) * 2 ^ 31 + a % 2 ^ 31
word_is a h =
    elim (cases_lt a (2 ^ 31)) [
      | inl p ↦ omega (arith, word_small a p)
      | inr p ↦ omega (arith, word_large a p)
    ]

-- what works on each bit apart
module _ (op : ℕ → ℕ → ℕ)
    (block : (k a b r s : ℕ) → r < 2 ^ k → s < 2 ^ k → op (a * 2 ^ k + r) (b * 2 ^ k + s) ≡ op a b * 2 ^ k + op r s)
    (below : (k a b : ℕ) → a < 2 ^ k → b < 2 ^ k → op a b < 2 ^ k)
    (top : (s t : ℕ) → s < 2 → t < 2 → op (s * (2 ^ 33 - 1)) (t * (2 ^ 33 - 1)) ≡ op s t * (2 ^ 33 - 1)) where
  apart : (a b : ℕ) → a < 2 ^ 32 → b < 2 ^ 32 → op (word I32 a) (word I32 b) ≡ word I32 (op a b)
  apart a b ha hb =
      let r : a % 2 ^ 31 < 2 ^ 31 = omega arith in
      let s : b % 2 ^ 31 < 2 ^ 31 = omega arith in
      let split_a : a ≡ (a / 2 ^ 31) * 2 ^ 31 + a % 2 ^ 31 = omega arith in
      let split_b : b ≡ (b / 2 ^ 31) * 2 ^ 31 + b % 2 ^ 31 = omega arith in
      let numbers : op a b ≡ op (a / 2 ^ 31) (b / 2 ^ 31) * 2 ^ 31 + op (a % 2 ^ 31) (b % 2 ^ 31) =
      ap₂ op split_a split_b ∙ block 31 (a / 2 ^ 31) (b / 2 ^ 31) (a % 2 ^ 31) (b % 2 ^ 31) r s in
      let words = block 31 (a / 2 ^ 31 * (2 ^ 33 - 1)) (b / 2 ^ 31 * (2 ^ 33 - 1)) (a % 2 ^ 31) (b % 2 ^ 31) r s in
      let tops = top (a / 2 ^ 31) (b / 2 ^ 31) (omega arith) (omega arith) in
      let small = below 31 (a % 2 ^ 31) (b % 2 ^ 31) r s in
      let whole = word_is (op a b) (below 32 a b ha hb) in
      ap₂ op (word_is a ha) (word_is b hb) ∙ omega (arith, words, tops, numbers, small, whole)

-- two bits have four cases
of_bits : (P : ℕ → ℕ → Type 0) → P 0 0 → P 0 1 → P 1 0 → P 1 1 → (s t : ℕ) → s < 2 → t < 2 → P s t
of_bits P none second first both zero zero p q = none
of_bits P none second first both zero (suc zero) p q = second
of_bits P none second first both (suc zero) zero p q = first
of_bits P none second first both (suc zero) (suc zero) p q = both
of_bits P none second first both s (suc (suc t)) p q = absurd (omega arith)
of_bits P none second first both (suc (suc s)) t p q = absurd (omega arith)

-- at the bits above
abbrev TopIs : (ℕ → ℕ → ℕ) → ℕ → ℕ → Type 0
TopIs op s t = op (s * (2 ^ 33 - 1)) (t * (2 ^ 33 - 1)) ≡ op s t * (2 ^ 33 - 1)

pub and_word : (a b : ℕ) → a < 2 ^ 32 → b < 2 ^ 32 → bit_and (word I32 a) (word I32 b) ≡ word I32 (bit_and a b)
and_word = apart bit_and and_block (λ k a b ha hb. lt_of_le_of_lt (and_le_l a b) ha) (of_bits (TopIs bit_and) refl refl refl refl)

pub or_word : (a b : ℕ) → a < 2 ^ 32 → b < 2 ^ 32 → bit_or (word I32 a) (word I32 b) ≡ word I32 (bit_or a b)
or_word = apart bit_or or_block or_lt (of_bits (TopIs bit_or) refl refl refl refl)

pub xor_word : (a b : ℕ) → a < 2 ^ 32 → b < 2 ^ 32 → bit_xor (word I32 a) (word I32 b) ≡ word I32 (bit_xor a b)
xor_word = apart bit_xor xor_block xor_lt (of_bits (TopIs bit_xor) refl refl refl refl)
