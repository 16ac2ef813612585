-- The results of operations are below the modulus of their type.
use Rattle.std.proofs.Common.{◌≡◌, ℕ, ◌-◌, ◌*◌, ◌/◌, ◌%◌, ◌==◌, ◌^◌, ◌<◌, ◌≤◌, Bool, true, false, if◌then◌else◌, inl, inr, refl, sym, subst, ◌∙◌, arith, lt_of_le_of_lt}
use Rattle.std.specs.Prelude.{bit_and, bit_or, bit_xor, int_div, pos}
use Rattle.std.specs.Ordering.{int_eq}
use Rattle.std.proofs.lemmas.Bool.{cases_lt, cases_eq, eq-eqb, ne_eqb}
use Rattle.std.proofs.lemmas.Nat.{and_le_l, or_lt, xor_lt, shr_le}
use Rattle.rv_isa.specs.declared.operations.RegOp.{RegOp}
use Rattle.rv_isa.specs.declared.operations.RegOp.TheVariants as op
use Rattle.rv_isa.specs.declared.operations.RegOpW.{RegOpW}
use Rattle.rv_isa.specs.declared.operations.RegOpW.TheVariants as op_w
use Rattle.rv_isa.specs.Values.{computed_word}
use Rattle.rv_isa.proofs.ValueLaws.{computed_small, computed_w_small}
use Rattle.wasm_defs.specs.declared.types.ValType.{ValType}
use Rattle.wasm_defs.specs.declared.types.ValType.TheVariants.{I32, I64}
use Rattle.wasm_defs.specs.declared.operation.BinaryOp.TheVariants.{Add, Sub, Mul, DivS, DivU, RemS, RemU, And, Or, Xor, Shl, ShrS, ShrU, Rotl, Rotr}
use Rattle.wasm_defs.specs.declared.operation.CompareOp.TheVariants.{Eq, Ne, LtS, LtU, GtS, GtU, LeS, LeU, GeS, GeU}
use Rattle.wasm_defs.specs.declared.operation.ConvertOp.TheVariants.{Wrap, ExtendS, ExtendU}
use Rattle.wasm_defs.specs.Values.{modulus, signed, unsigned, word, bits}
use Rattle.wasm_defs.specs.Integers.{Computed, Number, DividesByZero, Overflows, flag, irotl, irotr, idiv_s}
use Rattle.simulation.specs.IntegerLaws.{BinaryRangeLaw, CompareRangeLaw, UnaryRangeLaw, TestRangeLaw, ConvertRangeLaw}
use Rattle.simulation.proofs.Integers.Extensions.{narrow, word_below}
use Rattle.simulation.proofs.Integers.Sized.{exact_value, add_is, sub_is, mul_is, shl_is, shr_u_is, shr_s_is, div_u_is, rem_u_is, div_s_is, rem_s_is}
use Rattle.simulation.proofs.Integers.Rotations.{rotated_left, rotated_right}
use Rattle.simulation.proofs.Integers.Conversions.{extended_is}
use Rattle.simulation.proofs.Integers.Counts.{unary_small}
use Rattle.frame_layout.proofs.WordLaws.{word_large}

-- ---- operations on two operands

number_same : (m n : ℕ) → Number m ≡ Number n → m ≡ n
number_same m n e = cc

-- where a trap doesn't come first
number_else : (trap : Computed) (c : Bool) (m n : ℕ) → ((k : ℕ) → trap ≡ Number k → ⊥) → (if c then trap else Number m) ≡ Number n → m ≡ n
number_else trap true m n none e = absurd (none n e)
number_else trap false m n none e = number_same m n e

zero_is_none : (k : ℕ) → DividesByZero ≡ Number k → ⊥
zero_is_none k e = cc

overflow_is_none : (k : ℕ) → Overflows ≡ Number k → ⊥
overflow_is_none k e = cc

-- and the divisor isn't zero
divisor_some : (b : ℕ) (c : Computed) (n : ℕ) → (if b == 0 then DividesByZero else c) ≡ Number n → (b ≡ 0 → ⊥) × (c ≡ Number n)
divisor_some b c n e =
    elim (cases_eq b 0) [
      | inl zero ↦
          let first : (if b == 0 then DividesByZero else c) ≡ DividesByZero = rw (eq-eqb b 0 zero) refl in
          absurd (zero_is_none n (sym first ∙ e))
      | inr ne ↦
          let next : (if b == 0 then DividesByZero else c) ≡ c = rw (ne_eqb b 0 ne) refl in
          (ne, sym next ∙ e)
    ]

-- a number whose word has 64 bits has 32
narrow_below : (n : ℕ) → word I32 n < 2 ^ 64 → n < 2 ^ 32
narrow_below n h =
    elim (cases_lt n (2 ^ 31)) [
      | inl p ↦ omega arith
      | inr p ↦ omega (arith, word_large n p)
    ]

exact_below : (t : ValType) (o : RegOpW) (wide : RegOp) (a b : ℕ) → a < modulus t → b < modulus t → exact_value t o wide a b < modulus t
exact_below I32 o wide a b ha hb =
    narrow_below (computed_word o a b) (subst (λ (x : ℕ). x < 2 ^ 64) (narrow o a b ha hb) (computed_w_small o (word I32 a) (word I32 b)))
exact_below I64 o wide a b ha hb = computed_small a b ha hb wide

-- the bits of a type
bits_above : (t : ValType) (n : ℕ) → n < modulus t → n < 2 ^ bits t
bits_above I32 n h = h
bits_above I64 n h = h

bits_below : (t : ValType) (n : ℕ) → n < 2 ^ bits t → n < modulus t
bits_below I32 n h = h
bits_below I64 n h = h

rotl_below : (t : ValType) (a b : ℕ) → a < modulus t → irotl t a b < modulus t
rotl_below I32 a b h =
    let k = b % 32 in
    subst (λ (n : ℕ). n < 2 ^ 32) (rotated_left 32 k a (omega arith) h)
    (or_lt 32 (a / 2 ^ ((32 - k) % 32)) ((a * 2 ^ k) % 2 ^ 32) (lt_of_le_of_lt (shr_le a ((32 - k) % 32)) h) (omega arith))
rotl_below I64 a b h =
    let k = b % 64 in
    subst (λ (n : ℕ). n < 2 ^ 64) (rotated_left 64 k a (omega arith) h)
    (or_lt 64 (a / 2 ^ ((64 - k) % 64)) ((a * 2 ^ k) % 2 ^ 64) (lt_of_le_of_lt (shr_le a ((64 - k) % 64)) h) (omega arith))

rotr_below : (t : ValType) (a b : ℕ) → a < modulus t → irotr t a b < modulus t
rotr_below I32 a b h =
    let k = b % 32 in
    subst (λ (n : ℕ). n < 2 ^ 32) (rotated_right 32 k a (omega arith) h)
    (or_lt 32 ((a * 2 ^ ((32 - k) % 32)) % 2 ^ 32) (a / 2 ^ k) (omega arith) (lt_of_le_of_lt (shr_le a k) h))
rotr_below I64 a b h =
    let k = b % 64 in
    subst (λ (n : ℕ). n < 2 ^ 64) (rotated_right 64 k a (omega arith) h)
    (or_lt 64 ((a * 2 ^ ((64 - k) % 64)) % 2 ^ 64) (a / 2 ^ k) (omega arith) (lt_of_le_of_lt (shr_le a k) h))

module _ (t : ValType) (a b : ℕ) (ha : a < modulus t) (hb : b < modulus t) where
  -- a result of the machine's operation of the type's width
  sized_below : (o : RegOpW) (wide : RegOp) (m n : ℕ) → exact_value t o wide a b ≡ m → Number m ≡ Number n → n < modulus t
  sized_below o wide m n is e = subst (λ (x : ℕ). x < modulus t) (is ∙ number_same m n e) (exact_below t o wide a b ha hb)

  guarded_below : (o : RegOpW) (wide : RegOp) (m n : ℕ) → ((b ≡ 0 → ⊥) → exact_value t o wide a b ≡ m) → (if b == 0 then DividesByZero else Number m) ≡ Number n → n < modulus t
  guarded_below o wide m n is e = let parts = divisor_some b (Number m) n e in sized_below o wide m n (is parts.0) parts.1

  signed_below : (n : ℕ) → idiv_s t a b ≡ Number n → n < modulus t
  signed_below n e =
      let q = int_div (signed t a) (signed t b) in
      let m = unsigned t q in
      let c = int_eq q (pos (modulus t / 2)) in
      let parts = divisor_some b (if c then Overflows else Number m) n e in
      let same = number_else Overflows c m n overflow_is_none parts.1 in
      subst (λ (x : ℕ). x < modulus t) (div_s_is t a b parts.0 ∙ same) (exact_below t op_w.Divw op.Div a b ha hb)

  number_below : (m n : ℕ) → m < modulus t → Number m ≡ Number n → n < modulus t
  number_below m n h e = subst (λ (x : ℕ). x < modulus t) (number_same m n e) h

pub binary_is_below : BinaryRangeLaw
binary_is_below t Add a b n ha hb e = sized_below t a b ha hb op_w.Addw op.Add _ n (add_is t a b) e
binary_is_below t Sub a b n ha hb e = sized_below t a b ha hb op_w.Subw op.Sub _ n (sub_is t a b) e
binary_is_below t Mul a b n ha hb e = sized_below t a b ha hb op_w.Mulw op.Mul _ n (mul_is t a b) e
binary_is_below t DivS a b n ha hb e = signed_below t a b ha hb n e
binary_is_below t DivU a b n ha hb e = guarded_below t a b ha hb op_w.Divuw op.Divu _ n (div_u_is t a b) e
binary_is_below t RemS a b n ha hb e = guarded_below t a b ha hb op_w.Remw op.Rem _ n (rem_s_is t a b) e
binary_is_below t RemU a b n ha hb e = guarded_below t a b ha hb op_w.Remuw op.Remu _ n (rem_u_is t a b) e
binary_is_below t And a b n ha hb e = number_below t a b ha hb (bit_and a b) n (lt_of_le_of_lt (and_le_l a b) ha) e
binary_is_below t Or a b n ha hb e = number_below t a b ha hb (bit_or a b) n (bits_below t _ (or_lt (bits t) a b (bits_above t a ha) (bits_above t b hb))) e
binary_is_below t Xor a b n ha hb e = number_below t a b ha hb (bit_xor a b) n (bits_below t _ (xor_lt (bits t) a b (bits_above t a ha) (bits_above t b hb))) e
binary_is_below t Shl a b n ha hb e = sized_below t a b ha hb op_w.Sllw op.Sll _ n (shl_is t a b) e
binary_is_below t ShrS a b n ha hb e = sized_below t a b ha hb op_w.Sraw op.Sra _ n (shr_s_is t a b) e
binary_is_below t ShrU a b n ha hb e = sized_below t a b ha hb op_w.Srlw op.Srl _ n (shr_u_is t a b) e
binary_is_below t Rotl a b n ha hb e = number_below t a b ha hb (irotl t a b) n (rotl_below t a b ha) e
binary_is_below t Rotr a b n ha hb e = number_below t a b ha hb (irotr t a b) n (rotr_below t a b ha) e

-- ---- comparisons and the test for zero

flag_below : (c : Bool) → flag c < 2 ^ 32
flag_below true = omega arith
flag_below false = omega arith

pub compare_is_below : CompareRangeLaw
compare_is_below t Eq a b = flag_below _
compare_is_below t Ne a b = flag_below _
compare_is_below t LtS a b = flag_below _
compare_is_below t LtU a b = flag_below _
compare_is_below t GtS a b = flag_below _
compare_is_below t GtU a b = flag_below _
compare_is_below t LeS a b = flag_below _
compare_is_below t LeU a b = flag_below _
compare_is_below t GeS a b = flag_below _
compare_is_below t GeU a b = flag_below _

pub test_is_below : TestRangeLaw
test_is_below a = flag_below (a == 0)

-- ---- counts of bits

few_below : (t : ValType) (n : ℕ) → n ≤ 64 → n < modulus t
few_below I32 n h = omega arith
few_below I64 n h = omega arith

pub unary_is_below : UnaryRangeLaw
unary_is_below t o a h = few_below t _ (unary_small t o a h)

-- ---- conversions

pub convert_is_below : ConvertRangeLaw
convert_is_below Wrap a h = omega arith
convert_is_below ExtendS a h = subst (λ (n : ℕ). n < 2 ^ 64) (sym (extended_is a h)) (word_below I32 a h)
convert_is_below ExtendU a h = omega arith
