-- Low bits extended by their sign.
use Rattle.std.proofs.Common.{◌≡◌, ℕ, suc, ◌+◌, ◌-◌, ◌*◌, ◌%◌, ◌^◌, ◌<◌, ◌≤◌, pos, negsuc, inl, inr, List, length, Option, refl, sym, ap, ◌∙◌, arith}
use Rattle.std.specs.Int.{w8, w16, w32, cast_signed}
use Rattle.std.proofs.lemmas.Bool.{cases_lt, lt-ltb, le-ltb}
use Rattle.rv_isa.specs.declared.operations.RegOp.TheVariants.{Sll, Sra}
use Rattle.rv_isa.specs.declared.operations.RegOpW.TheVariants.{Addw}
use Rattle.rv_isa.specs.declared.operations.Op.{Op}
use Rattle.rv_isa.specs.Values.{extended, computed, computed_w}
use Rattle.rv_isa.specs.Steps.{State}
use Rattle.rv_isa.specs.Runs.{place, HasAt}
use Rattle.wasm_defs.specs.declared.types.ValType.{ValType}
use Rattle.wasm_defs.specs.declared.types.ValType.TheVariants.{I32, I64}
use Rattle.wasm_defs.specs.declared.operation.ExtendOp.TheVariants.{I32Extend8S, I32Extend16S, I64Extend8S, I64Extend16S, I64Extend32S}
use Rattle.wasm_defs.specs.Values.{modulus, unsigned, word}
use Rattle.wasm_defs.specs.Integers.{extend_8, extend_16, extend_32}
use Rattle.wasm_defs.specs.Configurations.{max_slots}
use Rattle.frame_layout.specs.Slots.{operand}
use Rattle.frame_layout.specs.Bodies.{shifts, extend_body}
use Rattle.frame_layout.specs.Templates.{EmitContext, on_one}
use Rattle.frame_layout.specs.Laws.{slot_at, with_slot, IsFrame, Does}
use Rattle.frame_layout.proofs.WordLaws.{low_word, word_small, word_large}
use Rattle.simulation.specs.IntegerLaws.{ExtendLaw, ExtendRangeLaw}
use Rattle.simulation.proofs.Integers.Conversions.{wrapped, extended_is}
use Rattle.simulation.proofs.Integers.Runs.{one_does}

-- ---- the instruction word of a small signed number

word_pos : (t : ValType) (n : ℕ) → n < 2 ^ 31 → word t (unsigned t (pos n)) ≡ n
word_pos I32 n h = word_small n h
word_pos I64 n h = refl

word_neg : (t : ValType) (n : ℕ) → n < 2 ^ 31 → word t (unsigned t (negsuc n)) ≡ 2 ^ 64 - suc n
word_neg I32 n h = word_large (2 ^ 32 - suc n) (omega arith) ∙ omega arith
word_neg I64 n h = refl

-- ---- shifts

shifted_8 : (x : ℕ) → computed Sra (computed Sll x 56) 56 ≡ extended 8 (x % 2 ^ 8)
unfolding computed
shifted_8 x =
    elim (cases_lt (x % 2 ^ 8) (2 ^ 7)) [
      | inl h ↦ rw (lt-ltb (x % 2 ^ 8) (2 ^ 7) h, lt-ltb ((x * 2 ^ 56) % 2 ^ 64) (2 ^ 63) (omega arith)) (omega arith)
      | inr h ↦ rw (le-ltb (x % 2 ^ 8) (2 ^ 7) h, le-ltb ((x * 2 ^ 56) % 2 ^ 64) (2 ^ 63) (omega arith)) (omega arith)
    ]

shifted_16 : (x : ℕ) → computed Sra (computed Sll x 48) 48 ≡ extended 16 (x % 2 ^ 16)
unfolding computed
shifted_16 x =
    elim (cases_lt (x % 2 ^ 16) (2 ^ 15)) [
      | inl h ↦ rw (lt-ltb (x % 2 ^ 16) (2 ^ 15) h, lt-ltb ((x * 2 ^ 48) % 2 ^ 64) (2 ^ 63) (omega arith)) (omega arith)
      | inr h ↦ rw (le-ltb (x % 2 ^ 16) (2 ^ 15) h, le-ltb ((x * 2 ^ 48) % 2 ^ 64) (2 ^ 63) (omega arith)) (omega arith)
    ]

-- ---- the numbers' instruction words

extended_8 : (t : ValType) (n : ℕ) → n < 2 ^ 8 → extended 8 n ≡ word t (unsigned t (cast_signed w8 n))
extended_8 t n small =
    elim (cases_lt n (2 ^ 7)) [
      | inl h ↦ rw (lt-ltb n (2 ^ 7) h) (sym (word_pos t n (omega arith)))
      | inr h ↦ rw (le-ltb n (2 ^ 7) h) (omega (arith, word_neg t (2 ^ 8 - suc n) (omega arith)))
    ]

extended_16 : (t : ValType) (n : ℕ) → n < 2 ^ 16 → extended 16 n ≡ word t (unsigned t (cast_signed w16 n))
extended_16 t n small =
    elim (cases_lt n (2 ^ 15)) [
      | inl h ↦ rw (lt-ltb n (2 ^ 15) h) (sym (word_pos t n (omega arith)))
      | inr h ↦ rw (le-ltb n (2 ^ 15) h) (omega (arith, word_neg t (2 ^ 16 - suc n) (omega arith)))
    ]

low_8 : (t : ValType) (a : ℕ) → a < modulus t → word t a % 2 ^ 8 ≡ a % 2 ^ 8
low_8 I32 a h = omega (arith, low_word a h)
low_8 I64 a h = refl

low_16 : (t : ValType) (a : ℕ) → a < modulus t → word t a % 2 ^ 16 ≡ a % 2 ^ 16
low_16 I32 a h = omega (arith, low_word a h)
low_16 I64 a h = refl

-- ---- the instruction words

-- a body on one operand gives a function of its number
abbrev Extends : ValType → List Op → (ℕ → ℕ) → Type 0
Extends t body result =
    (w : EmitContext) (code : List (Option Op)) (s : State) (i base h a : ℕ) → HasAt code i (on_one w h body) → s.pc ≡ place i
    → IsFrame base s → 1 ≤ h → base + operand w.layout (h - 1) < max_slots → a < modulus t → slot_at s.bytes (base + operand w.layout (h - 1)) ≡ word t a
    → Does code (length (on_one w h body)) (length (on_one w h body)) s (with_slot s.bytes (base + operand w.layout (h - 1)) (word t (result a)))

does_8 : (t : ValType) → Extends t (shifts 56) (extend_8 t)
does_8 t w code s i base h a has at frame one inside ha a_is =
    one_does w code s i base h (shifts 56) at frame inside has (word t a) (word t (extend_8 t a)) a_is refl
    (λ r x. ap (λ (y : ℕ). computed Sra (computed Sll y 56) 56) x ∙ shifted_8 (word t a) ∙ ap (extended 8) (low_8 t a ha) ∙ extended_8 t (a % 2 ^ 8) (omega arith))

does_16 : (t : ValType) → Extends t (shifts 48) (extend_16 t)
does_16 t w code s i base h a has at frame one inside ha a_is =
    one_does w code s i base h (shifts 48) at frame inside has (word t a) (word t (extend_16 t a)) a_is refl
    (λ r x. ap (λ (y : ℕ). computed Sra (computed Sll y 48) 48) x ∙ shifted_16 (word t a) ∙ ap (extended 16) (low_16 t a ha) ∙ extended_16 t (a % 2 ^ 16) (omega arith))

does_32 : Extends I64 (extend_body I64Extend32S) (extend_32 I64)
does_32 w code s i base h a has at frame one inside ha a_is =
    one_does w code s i base h (extend_body I64Extend32S) at frame inside has a (extend_32 I64 a) a_is refl
    (λ r x. ap (λ (y : ℕ). computed_w Addw y 0) x ∙ wrapped a ∙ sym (extended_is (a % 2 ^ 32) (omega arith)))

pub extend_does : ExtendLaw
extend_does w code s i base h I32Extend8S a = does_8 I32 w code s i base h a
extend_does w code s i base h I32Extend16S a = does_16 I32 w code s i base h a
extend_does w code s i base h I64Extend8S a = does_8 I64 w code s i base h a
extend_does w code s i base h I64Extend16S a = does_16 I64 w code s i base h a
extend_does w code s i base h I64Extend32S a = does_32 w code s i base h a

-- ---- ranges

pub below_8 : (t : ValType) (n : ℕ) → n < 2 ^ 8 → unsigned t (cast_signed w8 n) < modulus t
below_8 I32 n small = elim (cases_lt n (2 ^ 7)) [ inl h ↦ rw (lt-ltb n (2 ^ 7) h) (omega arith) | inr h ↦ rw (le-ltb n (2 ^ 7) h) (omega arith) ]
below_8 I64 n small = elim (cases_lt n (2 ^ 7)) [ inl h ↦ rw (lt-ltb n (2 ^ 7) h) (omega arith) | inr h ↦ rw (le-ltb n (2 ^ 7) h) (omega arith) ]

pub below_16 : (t : ValType) (n : ℕ) → n < 2 ^ 16 → unsigned t (cast_signed w16 n) < modulus t
below_16 I32 n small = elim (cases_lt n (2 ^ 15)) [ inl h ↦ rw (lt-ltb n (2 ^ 15) h) (omega arith) | inr h ↦ rw (le-ltb n (2 ^ 15) h) (omega arith) ]
below_16 I64 n small = elim (cases_lt n (2 ^ 15)) [ inl h ↦ rw (lt-ltb n (2 ^ 15) h) (omega arith) | inr h ↦ rw (le-ltb n (2 ^ 15) h) (omega arith) ]

pub below_32 : (n : ℕ) → n < 2 ^ 32 → unsigned I64 (cast_signed w32 n) < 2 ^ 64
below_32 n small = elim (cases_lt n (2 ^ 31)) [ inl h ↦ rw (lt-ltb n (2 ^ 31) h) (omega arith) | inr h ↦ rw (le-ltb n (2 ^ 31) h) (omega arith) ]

pub extend_is_below : ExtendRangeLaw
extend_is_below I32Extend8S a = below_8 I32 (a % 2 ^ 8) (omega arith)
extend_is_below I32Extend16S a = below_16 I32 (a % 2 ^ 16) (omega arith)
extend_is_below I64Extend8S a = below_8 I64 (a % 2 ^ 8) (omega arith)
extend_is_below I64Extend16S a = below_16 I64 (a % 2 ^ 16) (omega arith)
extend_is_below I64Extend32S a = below_32 (a % 2 ^ 32) (omega arith)
