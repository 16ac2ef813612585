-- The instruction words of rotations.
use Rattle.std.proofs.Common.{◌≡◌, ℕ, ◌-◌, ◌*◌, ◌/◌, ◌%◌, ◌^◌, ◌<◌, true, refl, ap, ap₂, ◌∙◌, arith, lt_of_le_of_lt}
use Rattle.std.specs.Prelude.{bit_or}
use Rattle.std.proofs.lemmas.Nat.{shr_le}
use Rattle.rv_isa.specs.declared.operations.RegOp.TheVariants as op
use Rattle.rv_isa.specs.declared.operations.RegOpW.TheVariants as op_w
use Rattle.rv_isa.specs.Values.{extended, computed, computed_w, computed_word}
use Rattle.rv_isa.specs.Steps.{Registers, reg}
use Rattle.rv_isa.specs.Runs.{all_compute, after_all}
use Rattle.wasm_defs.specs.declared.types.ValType.{ValType}
use Rattle.wasm_defs.specs.declared.types.ValType.TheVariants.{I32, I64}
use Rattle.wasm_defs.specs.declared.operation.BinaryOp.TheVariants.{Rotl, Rotr}
use Rattle.wasm_defs.specs.Values.{modulus, word}
use Rattle.wasm_defs.specs.Integers.{irotl, irotr}
use Rattle.frame_layout.specs.Macros.{t0, t1}
use Rattle.frame_layout.specs.Bodies.{binary_body}
use Rattle.frame_layout.specs.Laws.{is_scratch}
use Rattle.frame_layout.proofs.WordLaws.{low_word}
use Rattle.simulation.proofs.Integers.Extensions.{word_below}
use Rattle.simulation.proofs.Integers.Bits.{or_word}
use Rattle.simulation.proofs.Integers.Rotations.{rotated_left, rotated_right}
use Rattle.simulation.proofs.Integers.Sized.{sized_value}

-- ---- what the bodies compute, from what is in the registers

abbrev left_value : ValType → ℕ → ℕ → ℕ
left_value t x y = computed op.Or (sized_value t op_w.Srlw op.Srl x (computed op.Sub 0 y)) (sized_value t op_w.Sllw op.Sll x y)

abbrev right_value : ValType → ℕ → ℕ → ℕ
right_value t x y = computed op.Or (sized_value t op_w.Sllw op.Sll x (computed op.Sub 0 y)) (sized_value t op_w.Srlw op.Srl x y)

left_computes : (t : ValType) (r : Registers) → reg (after_all (binary_body Rotl t) r) t0 ≡ left_value t (reg r t0) (reg r t1)
left_computes I32 r = refl
left_computes I64 r = refl

right_computes : (t : ValType) (r : Registers) → reg (after_all (binary_body Rotr t) r) t0 ≡ right_value t (reg r t0) (reg r t1)
right_computes I32 r = refl
right_computes I64 r = refl

pub left_alone : (t : ValType) → all_compute is_scratch (binary_body Rotl t) ≡ true
left_alone I32 = refl
left_alone I64 = refl

pub right_alone : (t : ValType) → all_compute is_scratch (binary_body Rotr t) ≡ true
right_alone I32 = refl
right_alone I64 = refl

-- ---- shifts of an i32, by what is in a register

shifted_down : (a y k : ℕ) → a < 2 ^ 32 → y % 32 ≡ k → computed_w op_w.Srlw (word I32 a) y ≡ word I32 (a / 2 ^ k)
unfolding computed_word
shifted_down a y k ha e =
    let amount : y % 2 ^ 32 % 32 ≡ k = omega arith in
    ap₂ (λ (x n : ℕ). extended 32 (x / 2 ^ n)) (low_word a ha) amount

shifted_up : (a y k : ℕ) → a < 2 ^ 32 → y % 32 ≡ k → computed_w op_w.Sllw (word I32 a) y ≡ word I32 ((a * 2 ^ k) % 2 ^ 32)
unfolding computed_word
shifted_up a y k ha e =
    let amount : y % 2 ^ 32 % 32 ≡ k = omega arith in
    ap₂ (λ (x n : ℕ). extended 32 ((x * 2 ^ n) % 2 ^ 32)) (low_word a ha) amount

forth : (b : ℕ) → b < 2 ^ 32 → word I32 b % 32 ≡ b % 32
forth b hb = omega (arith, low_word b hb)

back : (b : ℕ) → b < 2 ^ 32 → computed op.Sub 0 (word I32 b) % 32 ≡ (32 - b % 32) % 32
unfolding computed
back b hb = omega (arith, low_word b hb, word_below I32 b hb)

module _ (a b : ℕ) (ha : a < 2 ^ 32) (hb : b < 2 ^ 32) where
  left_narrow : left_value I32 (word I32 a) (word I32 b) ≡ word I32 (irotl I32 a b)
  unfolding computed
  left_narrow =
      ap₂ bit_or (shifted_down a (computed op.Sub 0 (word I32 b)) ((32 - b % 32) % 32) ha (back b hb)) (shifted_up a (word I32 b) (b % 32) ha (forth b hb))
      ∙ or_word (a / 2 ^ ((32 - b % 32) % 32)) ((a * 2 ^ (b % 32)) % 2 ^ 32) (lt_of_le_of_lt (shr_le a ((32 - b % 32) % 32)) ha) (omega arith)
      ∙ ap (word I32) (rotated_left 32 (b % 32) a (omega arith) ha)

  right_narrow : right_value I32 (word I32 a) (word I32 b) ≡ word I32 (irotr I32 a b)
  unfolding computed
  right_narrow =
      ap₂ bit_or (shifted_up a (computed op.Sub 0 (word I32 b)) ((32 - b % 32) % 32) ha (back b hb)) (shifted_down a (word I32 b) (b % 32) ha (forth b hb))
      ∙ or_word ((a * 2 ^ ((32 - b % 32) % 32)) % 2 ^ 32) (a / 2 ^ (b % 32)) (omega arith) (lt_of_le_of_lt (shr_le a (b % 32)) ha)
      ∙ ap (word I32) (rotated_right 32 (b % 32) a (omega arith) ha)

-- ---- of an i64

back_wide : (b : ℕ) → b < 2 ^ 64 → computed op.Sub 0 b % 64 ≡ (64 - b % 64) % 64
unfolding computed
back_wide b hb = omega arith

module _ (a b : ℕ) (ha : a < 2 ^ 64) (hb : b < 2 ^ 64) where
  left_wide : left_value I64 a b ≡ irotl I64 a b
  unfolding computed
  left_wide = ap (λ (k : ℕ). bit_or (a / 2 ^ k) ((a * 2 ^ (b % 64)) % 2 ^ 64)) (back_wide b hb) ∙ rotated_left 64 (b % 64) a (omega arith) ha

  right_wide : right_value I64 a b ≡ irotr I64 a b
  unfolding computed
  right_wide = ap (λ (k : ℕ). bit_or ((a * 2 ^ k) % 2 ^ 64) (a / 2 ^ (b % 64))) (back_wide b hb) ∙ rotated_right 64 (b % 64) a (omega arith) ha

-- ---- of both

left_is : (t : ValType) (a b : ℕ) → a < modulus t → b < modulus t → left_value t (word t a) (word t b) ≡ word t (irotl t a b)
left_is I32 a b ha hb = left_narrow a b ha hb
left_is I64 a b ha hb = left_wide a b ha hb

right_is : (t : ValType) (a b : ℕ) → a < modulus t → b < modulus t → right_value t (word t a) (word t b) ≡ word t (irotr t a b)
right_is I32 a b ha hb = right_narrow a b ha hb
right_is I64 a b ha hb = right_wide a b ha hb

pub left_gives : (t : ValType) (a b : ℕ) → a < modulus t → b < modulus t → (r : Registers) → reg r t0 ≡ word t a → reg r t1 ≡ word t b → reg (after_all (binary_body Rotl t) r) t0 ≡ word t (irotl t a b)
left_gives t a b ha hb r x y = left_computes t r ∙ ap₂ (left_value t) x y ∙ left_is t a b ha hb

pub right_gives : (t : ValType) (a b : ℕ) → a < modulus t → b < modulus t → (r : Registers) → reg r t0 ≡ word t a → reg r t1 ≡ word t b → reg (after_all (binary_body Rotr t) r) t0 ≡ word t (irotr t a b)
right_gives t a b ha hb r x y = right_computes t r ∙ ap₂ (right_value t) x y ∙ right_is t a b ha hb
