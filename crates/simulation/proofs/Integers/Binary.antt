-- One law for all operations on two operands.
use Rattle.std.proofs.Common.{◌≡◌, ℕ, ◌+◌, ◌-◌, ◌<◌, ◌≤◌, true, List, length, Option, refl, ap, ap₂, ◌∙◌, arith}
use Rattle.std.specs.Prelude.{bit_and, bit_or, bit_xor}
use Rattle.rv_isa.specs.declared.operations.RegOp.{RegOp}
use Rattle.rv_isa.specs.declared.operations.RegOp.TheVariants as op
use Rattle.rv_isa.specs.declared.operations.RegOpW.{RegOpW}
use Rattle.rv_isa.specs.declared.operations.RegOpW.TheVariants as op_w
use Rattle.rv_isa.specs.declared.operations.Op.{Op}
use Rattle.rv_isa.specs.Values.{computed}
use Rattle.rv_isa.specs.Steps.{Registers, reg, State}
use Rattle.rv_isa.specs.Runs.{place, HasAt, all_compute, after_all}
use Rattle.wasm_defs.specs.declared.types.ValType.{ValType}
use Rattle.wasm_defs.specs.declared.types.ValType.TheVariants.{I32, I64}
use Rattle.wasm_defs.specs.declared.operation.BinaryOp.TheVariants.{Add, Sub, Mul, DivS, DivU, RemS, RemU, And, Or, Xor, Shl, ShrS, ShrU, Rotl, Rotr}
use Rattle.wasm_defs.specs.Values.{modulus, word}
use Rattle.wasm_defs.specs.Integers.{Number, irotl, irotr}
use Rattle.wasm_defs.specs.Configurations.{max_slots}
use Rattle.frame_layout.specs.Slots.{operand}
use Rattle.frame_layout.specs.Macros.{t0, t1}
use Rattle.frame_layout.specs.Templates.{EmitContext, on_two}
use Rattle.frame_layout.specs.Bodies.{both, binary_body}
use Rattle.frame_layout.specs.Laws.{slot_at, IsFrame, is_scratch}
use Rattle.simulation.specs.IntegerLaws.{Comes, BinaryLaw}
use Rattle.simulation.proofs.Integers.Bits.{and_word, or_word, xor_word}
use Rattle.simulation.proofs.Integers.Runs.{two_does}
use Rattle.simulation.proofs.Integers.Sized.{exact_value, both_computes, both_alone, sized_value, sized_word, add_is, sub_is, mul_is, shl_is, shr_u_is, shr_s_is, div_u_is, rem_u_is, rem_s_is}
use Rattle.simulation.proofs.Integers.RotationWords.{left_alone, right_alone, left_gives, right_gives}
use Rattle.simulation.proofs.Integers.DivisionWords.{guarded_comes, signed_comes}

-- ---- bits

and_is : (t : ValType) (a b : ℕ) → a < modulus t → b < modulus t → computed op.And (word t a) (word t b) ≡ word t (bit_and a b)
unfolding computed
and_is I32 a b ha hb = and_word a b ha hb
and_is I64 a b ha hb = refl

or_is : (t : ValType) (a b : ℕ) → a < modulus t → b < modulus t → computed op.Or (word t a) (word t b) ≡ word t (bit_or a b)
unfolding computed
or_is I32 a b ha hb = or_word a b ha hb
or_is I64 a b ha hb = refl

xor_is : (t : ValType) (a b : ℕ) → a < modulus t → b < modulus t → computed op.Xor (word t a) (word t b) ≡ word t (bit_xor a b)
unfolding computed
xor_is I32 a b ha hb = xor_word a b ha hb
xor_is I64 a b ha hb = refl

module _ (w : EmitContext) (code : List (Option Op)) (s : State) (i base h : ℕ) (t : ValType) (a b : ℕ) (at : s.pc ≡ place i) (frame : IsFrame base s) (inside : base + operand w.layout (h - 1) < max_slots) (two : 2 ≤ h) (ha : a < modulus t) (hb : b < modulus t) (a_is : slot_at s.bytes (base + operand w.layout (h - 2)) ≡ word t a) (b_is : slot_at s.bytes (base + operand w.layout (h - 1)) ≡ word t b) where
  -- a body that only computes
  straight_comes : (body : List Op) (n : ℕ) → HasAt code i (on_two w h body) → all_compute is_scratch body ≡ true → ((r : Registers) → reg r t0 ≡ word t a → reg r t1 ≡ word t b → reg (after_all body r) t0 ≡ word t n) → Comes code (length (on_two w h body)) s (base + operand w.layout (h - 2)) t (Number n)
  straight_comes body n has alone is = (length (on_two w h body), omega arith, two_does w code s i base h body at frame inside has two (word t a) (word t b) (word t n) a_is b_is alone is)

  -- one operation of the type's width
  sized_comes : (o : RegOpW) (wide : RegOp) (n : ℕ) → HasAt code i (on_two w h (both t o wide)) → exact_value t o wide a b ≡ n → Comes code (length (on_two w h (both t o wide))) s (base + operand w.layout (h - 2)) t (Number n)
  sized_comes o wide n has is =
      straight_comes (both t o wide) n has (both_alone t o wide) (λ r x y. both_computes t o wide r ∙ ap₂ (sized_value t o wide) x y ∙ sized_word t o wide a b ha hb ∙ ap (word t) is)

pub binary_does : BinaryLaw
binary_does w code s i base h t Add a b has at frame two inside ha hb a_is b_is short = sized_comes w code s i base h t a b at frame inside two ha hb a_is b_is op_w.Addw op.Add _ has (add_is t a b)
binary_does w code s i base h t Sub a b has at frame two inside ha hb a_is b_is short = sized_comes w code s i base h t a b at frame inside two ha hb a_is b_is op_w.Subw op.Sub _ has (sub_is t a b)
binary_does w code s i base h t Mul a b has at frame two inside ha hb a_is b_is short = sized_comes w code s i base h t a b at frame inside two ha hb a_is b_is op_w.Mulw op.Mul _ has (mul_is t a b)
binary_does w code s i base h t DivS a b has at frame two inside ha hb a_is b_is short = signed_comes w code s i base h t a b at frame inside two ha hb a_is b_is short has
binary_does w code s i base h t DivU a b has at frame two inside ha hb a_is b_is short = guarded_comes w code s i base h t a b at frame inside two ha hb a_is b_is short op_w.Divuw op.Divu has _ (div_u_is t a b)
binary_does w code s i base h t RemS a b has at frame two inside ha hb a_is b_is short = guarded_comes w code s i base h t a b at frame inside two ha hb a_is b_is short op_w.Remw op.Rem has _ (rem_s_is t a b)
binary_does w code s i base h t RemU a b has at frame two inside ha hb a_is b_is short = guarded_comes w code s i base h t a b at frame inside two ha hb a_is b_is short op_w.Remuw op.Remu has _ (rem_u_is t a b)
binary_does w code s i base h t And a b has at frame two inside ha hb a_is b_is short = straight_comes w code s i base h t a b at frame inside two ha hb a_is b_is (binary_body And t) _ has refl (λ r x y. ap₂ (computed op.And) x y ∙ and_is t a b ha hb)
binary_does w code s i base h t Or a b has at frame two inside ha hb a_is b_is short = straight_comes w code s i base h t a b at frame inside two ha hb a_is b_is (binary_body Or t) _ has refl (λ r x y. ap₂ (computed op.Or) x y ∙ or_is t a b ha hb)
binary_does w code s i base h t Xor a b has at frame two inside ha hb a_is b_is short = straight_comes w code s i base h t a b at frame inside two ha hb a_is b_is (binary_body Xor t) _ has refl (λ r x y. ap₂ (computed op.Xor) x y ∙ xor_is t a b ha hb)
binary_does w code s i base h t Shl a b has at frame two inside ha hb a_is b_is short = sized_comes w code s i base h t a b at frame inside two ha hb a_is b_is op_w.Sllw op.Sll _ has (shl_is t a b)
binary_does w code s i base h t ShrS a b has at frame two inside ha hb a_is b_is short = sized_comes w code s i base h t a b at frame inside two ha hb a_is b_is op_w.Sraw op.Sra _ has (shr_s_is t a b)
binary_does w code s i base h t ShrU a b has at frame two inside ha hb a_is b_is short = sized_comes w code s i base h t a b at frame inside two ha hb a_is b_is op_w.Srlw op.Srl _ has (shr_u_is t a b)
binary_does w code s i base h t Rotl a b has at frame two inside ha hb a_is b_is short = straight_comes w code s i base h t a b at frame inside two ha hb a_is b_is (binary_body Rotl t) (irotl t a b) has (left_alone t) (left_gives t a b ha hb)
binary_does w code s i base h t Rotr a b has at frame two inside ha hb a_is b_is short = straight_comes w code s i base h t a b at frame inside two ha hb a_is b_is (binary_body Rotr t) (irotr t a b) has (right_alone t) (right_gives t a b ha hb)
