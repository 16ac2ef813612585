-- One operation of the machine, on instruction words of the type's width.
use Rattle.std.proofs.Common.{◌≡◌, ℕ, ◌/◌, ◌%◌, ◌<◌, true, refl}
use Rattle.std.specs.Prelude.{int_div, int_rem}
use Rattle.std.proofs.lemmas.Bool.{ne_eqb}
use Rattle.rv_isa.specs.declared.operations.RegOp.{RegOp}
use Rattle.rv_isa.specs.declared.operations.RegOp.TheVariants as op
use Rattle.rv_isa.specs.declared.operations.RegOpW.{RegOpW}
use Rattle.rv_isa.specs.declared.operations.RegOpW.TheVariants as op_w
use Rattle.rv_isa.specs.Values.{computed, computed_w, computed_word}
use Rattle.rv_isa.specs.Steps.{Registers, reg}
use Rattle.rv_isa.specs.Runs.{all_compute, after_all}
use Rattle.wasm_defs.specs.declared.types.ValType.{ValType}
use Rattle.wasm_defs.specs.declared.types.ValType.TheVariants.{I32, I64}
use Rattle.wasm_defs.specs.Values.{modulus, signed, unsigned, word}
use Rattle.wasm_defs.specs.Integers.{iadd, isub, imul, ishl, ishr_u, ishr_s}
use Rattle.frame_layout.specs.Macros.{t0, t1}
use Rattle.frame_layout.specs.Bodies.{both}
use Rattle.frame_layout.specs.Laws.{is_scratch}
use Rattle.simulation.proofs.Integers.Extensions.{narrow}

-- what the operation gives, of registers and of numbers
abbrev pub sized_value : ValType → RegOpW → RegOp → ℕ → ℕ → ℕ
sized_value I32 o wide x y = computed_w o x y
sized_value I64 o wide x y = computed wide x y

abbrev pub exact_value : ValType → RegOpW → RegOp → ℕ → ℕ → ℕ
exact_value I32 o wide a b = computed_word o a b
exact_value I64 o wide a b = computed wide a b

pub both_computes : (t : ValType) (o : RegOpW) (wide : RegOp) (r : Registers) → reg (after_all (both t o wide) r) t0 ≡ sized_value t o wide (reg r t0) (reg r t1)
both_computes I32 o wide r = refl
both_computes I64 o wide r = refl

pub both_alone : (t : ValType) (o : RegOpW) (wide : RegOp) → all_compute is_scratch (both t o wide) ≡ true
both_alone I32 o wide = refl
both_alone I64 o wide = refl

pub sized_word : (t : ValType) (o : RegOpW) (wide : RegOp) (a b : ℕ) → a < modulus t → b < modulus t → sized_value t o wide (word t a) (word t b) ≡ word t (exact_value t o wide a b)
sized_word I32 o wide a b ha hb = narrow o a b ha hb
sized_word I64 o wide a b ha hb = refl

-- ---- the operations of the language

pub add_is : (t : ValType) (a b : ℕ) → exact_value t op_w.Addw op.Add a b ≡ iadd t a b
unfolding computed computed_word
add_is I32 a b = refl
add_is I64 a b = refl

pub sub_is : (t : ValType) (a b : ℕ) → exact_value t op_w.Subw op.Sub a b ≡ isub t a b
unfolding computed computed_word
sub_is I32 a b = refl
sub_is I64 a b = refl

pub mul_is : (t : ValType) (a b : ℕ) → exact_value t op_w.Mulw op.Mul a b ≡ imul t a b
unfolding computed computed_word
mul_is I32 a b = refl
mul_is I64 a b = refl

pub shl_is : (t : ValType) (a b : ℕ) → exact_value t op_w.Sllw op.Sll a b ≡ ishl t a b
unfolding computed computed_word
shl_is I32 a b = refl
shl_is I64 a b = refl

pub shr_u_is : (t : ValType) (a b : ℕ) → exact_value t op_w.Srlw op.Srl a b ≡ ishr_u t a b
unfolding computed computed_word
shr_u_is I32 a b = refl
shr_u_is I64 a b = refl

pub shr_s_is : (t : ValType) (a b : ℕ) → exact_value t op_w.Sraw op.Sra a b ≡ ishr_s t a b
unfolding computed computed_word
shr_s_is I32 a b = refl
shr_s_is I64 a b = refl

-- ---- divisions, where the divisor isn't zero

pub div_u_is : (t : ValType) (a b : ℕ) → (b ≡ 0 → ⊥) → exact_value t op_w.Divuw op.Divu a b ≡ a / b
unfolding computed computed_word
div_u_is I32 a b ne = rw (ne_eqb b 0 ne) refl
div_u_is I64 a b ne = rw (ne_eqb b 0 ne) refl

pub rem_u_is : (t : ValType) (a b : ℕ) → (b ≡ 0 → ⊥) → exact_value t op_w.Remuw op.Remu a b ≡ a % b
unfolding computed computed_word
rem_u_is I32 a b ne = rw (ne_eqb b 0 ne) refl
rem_u_is I64 a b ne = rw (ne_eqb b 0 ne) refl

pub div_s_is : (t : ValType) (a b : ℕ) → (b ≡ 0 → ⊥) → exact_value t op_w.Divw op.Div a b ≡ unsigned t (int_div (signed t a) (signed t b))
unfolding computed computed_word
div_s_is I32 a b ne = rw (ne_eqb b 0 ne) refl
div_s_is I64 a b ne = rw (ne_eqb b 0 ne) refl

pub rem_s_is : (t : ValType) (a b : ℕ) → (b ≡ 0 → ⊥) → exact_value t op_w.Remw op.Rem a b ≡ unsigned t (int_rem (signed t a) (signed t b))
unfolding computed computed_word
rem_s_is I32 a b ne = rw (ne_eqb b 0 ne) refl
rem_s_is I64 a b ne = rw (ne_eqb b 0 ne) refl
