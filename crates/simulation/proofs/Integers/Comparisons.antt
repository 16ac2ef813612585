-- Comparisons and the test for zero, by SLT, SLTU, SLTIU and XORI.
use Rattle.std.proofs.Common.{◌≡◌, ℕ, ◌==◌, ◌^◌, ◌<◌, ℤ, pos, negsuc, Bool, true, false, not, inl, inr, refl, sym, ap, ap₂, ◌∙◌, arith}
use Rattle.std.specs.Prelude.{nat_lt, nat_le, int_lt, int_le, bit_xor}
use Rattle.std.specs.Int.{w64, cast_signed}
use Rattle.std.proofs.lemmas.Bool.{cases_lt, cases_eq, lt-ltb, le-ltb, le-leb, lt-leb, eq-eqb, ne_eqb}
use Rattle.rv_isa.specs.declared.operations.RegOp.TheVariants as op
use Rattle.rv_isa.specs.Values.{computed}
use Rattle.rv_isa.specs.Steps.{Registers, reg}
use Rattle.rv_isa.specs.Runs.{all_compute, after_all}
use Rattle.wasm_defs.specs.declared.types.ValType.{ValType}
use Rattle.wasm_defs.specs.declared.types.ValType.TheVariants.{I32, I64}
use Rattle.wasm_defs.specs.declared.operation.CompareOp.{CompareOp}
use Rattle.wasm_defs.specs.declared.operation.CompareOp.TheVariants.{Eq, Ne, LtS, LtU, GtS, GtU, LeS, LeU, GeS, GeU}
use Rattle.wasm_defs.specs.Values.{modulus, signed, word}
use Rattle.wasm_defs.specs.Integers.{flag, compare, ieqz}
use Rattle.frame_layout.specs.Macros.{t0, t1}
use Rattle.frame_layout.specs.Bodies.{test_body, compare_body}
use Rattle.frame_layout.specs.Laws.{is_scratch}
use Rattle.simulation.specs.IntegerLaws.{CompareLaw, TestLaw}
use Rattle.simulation.proofs.Integers.Extensions.{word_below, eq_word, lt_word, signed_word}
use Rattle.simulation.proofs.Integers.Runs.{two_does, one_does}

leb_is : (a b : ℕ) → nat_le a b ≡ not (nat_lt b a)
leb_is a b =
    elim (cases_lt b a) [
      | inl p ↦ lt-leb a b p ∙ sym (ap not (lt-ltb b a p))
      | inr p ↦ le-leb a b p ∙ sym (ap not (le-ltb b a p))
    ]

int_le_is : (a b : ℤ) → int_le a b ≡ not (int_lt b a)
int_le_is (pos a) (pos b) = leb_is a b
int_le_is (pos a) (negsuc b) = refl
int_le_is (negsuc a) (pos b) = refl
int_le_is (negsuc a) (negsuc b) = leb_is b a

-- the words of flags
flipped : (t : Bool) → bit_xor (flag t) 1 ≡ flag (not t)
flipped true = refl
flipped false = refl

pub flag_word : (t : Bool) → flag t ≡ word I32 (flag t)
flag_word true = refl
flag_word false = refl

-- ---- differences

module _ (x y : ℕ) (hx : x < 2 ^ 64) (hy : y < 2 ^ 64) where
  difference_is_zero : nat_lt (computed op.Sub x y) 1 ≡ (x == y)
  unfolding computed
  difference_is_zero =
      elim (cases_eq x y) [
        | inl e ↦ lt-ltb (computed op.Sub x y) 1 (omega arith) ∙ sym (eq-eqb x y e)
        | inr n ↦ le-ltb (computed op.Sub x y) 1 (omega arith) ∙ sym (ne_eqb x y n)
      ]

  difference_is_more : nat_lt 0 (computed op.Sub x y) ≡ not (x == y)
  unfolding computed
  difference_is_more =
      elim (cases_eq x y) [
        | inl e ↦ le-ltb 0 (computed op.Sub x y) (omega arith) ∙ sym (ap not (eq-eqb x y e))
        | inr n ↦ lt-ltb 0 (computed op.Sub x y) (omega arith) ∙ sym (ap not (ne_eqb x y n))
      ]

-- ---- what the bodies compute

-- from what is in the registers
abbrev compared : CompareOp → ℕ → ℕ → ℕ
compared Eq x y = computed op.Sltu (computed op.Sub x y) 1
compared Ne x y = computed op.Sltu 0 (computed op.Sub x y)
compared LtS x y = computed op.Slt x y
compared LtU x y = computed op.Sltu x y
compared GtS x y = computed op.Slt y x
compared GtU x y = computed op.Sltu y x
compared LeS x y = computed op.Xor (computed op.Slt y x) 1
compared LeU x y = computed op.Xor (computed op.Sltu y x) 1
compared GeS x y = computed op.Xor (computed op.Slt x y) 1
compared GeU x y = computed op.Xor (computed op.Sltu x y) 1

body_compares : (o : CompareOp) (r : Registers) → reg (after_all (compare_body o) r) t0 ≡ compared o (reg r t0) (reg r t1)
body_compares Eq r = refl
body_compares Ne r = refl
body_compares LtS r = refl
body_compares LtU r = refl
body_compares GtS r = refl
body_compares GtU r = refl
body_compares LeS r = refl
body_compares LeU r = refl
body_compares GeS r = refl
body_compares GeU r = refl

all_computes : (o : CompareOp) → all_compute is_scratch (compare_body o) ≡ true
all_computes Eq = refl
all_computes Ne = refl
all_computes LtS = refl
all_computes LtU = refl
all_computes GtS = refl
all_computes GtU = refl
all_computes LeS = refl
all_computes LeU = refl
all_computes GeS = refl
all_computes GeU = refl

-- ---- on words

module _ (t : ValType) (a b : ℕ) (ha : a < modulus t) (hb : b < modulus t) where
  less : int_lt (cast_signed w64 (word t a)) (cast_signed w64 (word t b)) ≡ int_lt (signed t a) (signed t b)
  less = ap₂ int_lt (signed_word t a ha) (signed_word t b hb)

  more : int_lt (cast_signed w64 (word t b)) (cast_signed w64 (word t a)) ≡ int_lt (signed t b) (signed t a)
  more = ap₂ int_lt (signed_word t b hb) (signed_word t a ha)

  compared_is : (o : CompareOp) → compared o (word t a) (word t b) ≡ compare o t a b
  unfolding computed
  compared_is Eq = ap flag (difference_is_zero (word t a) (word t b) (word_below t a ha) (word_below t b hb) ∙ eq_word t a b ha hb)
  compared_is Ne = ap flag (difference_is_more (word t a) (word t b) (word_below t a ha) (word_below t b hb) ∙ ap not (eq_word t a b ha hb))
  compared_is LtS = ap flag less
  compared_is LtU = ap flag (lt_word t a b ha hb)
  compared_is GtS = ap flag more
  compared_is GtU = ap flag (lt_word t b a hb ha)
  compared_is LeS = flipped _ ∙ ap flag (ap not more ∙ sym (int_le_is (signed t a) (signed t b)))
  compared_is LeU = flipped _ ∙ ap flag (ap not (lt_word t b a hb ha) ∙ sym (leb_is a b))
  compared_is GeS = flipped _ ∙ ap flag (ap not less ∙ sym (int_le_is (signed t b) (signed t a)))
  compared_is GeU = flipped _ ∙ ap flag (ap not (lt_word t a b ha hb) ∙ sym (leb_is b a))

  compare_word : (o : CompareOp) → compare o t a b ≡ word I32 (compare o t a b)
  compare_word Eq = flag_word _
  compare_word Ne = flag_word _
  compare_word LtS = flag_word _
  compare_word LtU = flag_word _
  compare_word GtS = flag_word _
  compare_word GtU = flag_word _
  compare_word LeS = flag_word _
  compare_word LeU = flag_word _
  compare_word GeS = flag_word _
  compare_word GeU = flag_word _

pub compare_does : CompareLaw
compare_does w code s i base h t o a b has at frame two inside ha hb a_is b_is =
    two_does w code s i base h (compare_body o) at frame inside has two (word t a) (word t b) (word I32 (compare o t a b)) a_is b_is (all_computes o)
    (λ r x y. body_compares o r ∙ ap₂ (compared o) x y ∙ compared_is t a b ha hb o ∙ compare_word t a b ha hb o)

-- ---- the test for zero

below_one : (a : ℕ) → nat_lt a 1 ≡ (a == 0)
below_one a =
    elim (cases_eq a 0) [
      | inl e ↦ lt-ltb a 1 (omega arith) ∙ sym (eq-eqb a 0 e)
      | inr n ↦ le-ltb a 1 (omega arith) ∙ sym (ne_eqb a 0 n)
    ]

zero_word : (t : ValType) (a : ℕ) → a < modulus t → nat_lt (word t a) 1 ≡ nat_lt a 1
zero_word I32 a h = lt_word I32 a 1 h (omega arith)
zero_word I64 a h = refl

tested_is : (t : ValType) (a : ℕ) → a < modulus t → computed op.Sltu (word t a) 1 ≡ word I32 (ieqz a)
unfolding computed
tested_is t a h = ap flag (zero_word t a h ∙ below_one a) ∙ flag_word (a == 0)

pub test_does : TestLaw
test_does w code s i base h t a has at frame one inside ha a_is =
    one_does w code s i base h test_body at frame inside has (word t a) (word I32 (ieqz a)) a_is refl
    (λ r x. ap (λ (y : ℕ). computed op.Sltu y 1) x ∙ tested_is t a ha)
