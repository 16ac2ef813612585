-- Three registers that hold operands, and what the words before the loops do with them.
use Rattle.std.proofs.Common.{◌≡◌, ℕ, suc, ◌+◌, ◌^◌, ◌<◌, ◌≤◌, true, List, [], ◌∷◌, ◌++◌, Option, refl, ap, ◌∙◌, arith}
use Rattle.std.specs.Prelude.{not, ◌≢◌}
use Rattle.std.proofs.lemmas.Bool.{eq-eqb, lt-ltb, le-ltb}
use Rattle.rv_isa.specs.declared.operations.BranchOp.TheVariants.{Bgeu}
use Rattle.rv_isa.specs.declared.operations.RegOp.TheVariants.{Add, Sll, Srl}
use Rattle.rv_isa.specs.declared.operations.Op.{Op}
use Rattle.rv_isa.specs.declared.operations.Op.TheVariants.{Branch, Reg}
use Rattle.rv_isa.specs.Values.{plus, computed, is_taken}
use Rattle.rv_isa.specs.Steps.{reg, State, Bytes}
use Rattle.rv_isa.specs.Runs.{place, HasAt, Reaches, Leaves}
use Rattle.wasm_defs.specs.declared.types.ValType.TheVariants.{I32}
use Rattle.wasm_defs.specs.Values.{word}
use Rattle.wasm_defs.specs.Configurations.{max_slots}
use Rattle.frame_layout.specs.Macros.{t0, t1, t2, s0, forward, trap, load_slot, zero_extend}
use Rattle.frame_layout.specs.Laws.{slot_at, IsFrame, is_scratch, Does, TrapsAt}
use Rattle.frame_layout.proofs.Standing.{has_first, has_rest}
use Rattle.frame_layout.proofs.Constants.{block_leaves}
use Rattle.frame_layout.proofs.SlotLaws.{load_slot_leaves}
use Rattle.frame_layout.proofs.Steps.{does_leave, does_then, does_with, does_nothing, leaves_then}
use Rattle.frame_layout.proofs.Jumps.{trap_traps, traps_after}
use Rattle.simulation.proofs.Memory.Tests.{moved, passes, turns, does_moved}
use Rattle.simulation.proofs.Memory.Addresses.{cleared}

-- ---- one register

-- an operand's number
pub number_into : (code : List (Option Op)) (s : State) (i base r k a : ℕ) → HasAt code i (load_slot (suc r) k ++ zero_extend (suc r)) → s.pc ≡ place i → IsFrame base s → s0 ≢ suc r → base + k < max_slots → slot_at s.bytes (base + k) ≡ word I32 a → a < 2 ^ 32 → Leaves code 5 s s.bytes (suc r) a
number_into code s i base r k a has at frame apart inside is small =
    let front = load_slot (suc r) k in
    let one = load_slot_leaves code s i base (suc r) k (has_first code i front (zero_extend (suc r)) has) at frame (λ e. absurd cc) apart inside in
    let pc_one = one.pc_is in
    let value : computed Srl (computed Sll (reg one.end.registers (suc r)) 32) 32 ≡ a = ap (λ (x : ℕ). computed Srl (computed Sll x 32) 32) (one.value_is ∙ is) ∙ cleared a small in
    let same = eq-eqb (suc r) (suc r) refl in
    leaves_then one (block_leaves code (zero_extend (suc r)) (i + 3) one.end (suc r) a (rw same refl) (has_rest code i front (zero_extend (suc r)) has) (omega arith) (rw same value))

-- a sum
pub sum_into : (code : List (Option Op)) (s : State) (i r a b v : ℕ) → HasAt code i (Reg Add (suc r) a b ∷ []) → s.pc ≡ place i → plus (reg s.registers a) (reg s.registers b) ≡ v → Leaves code 1 s s.bytes (suc r) v
unfolding computed
sum_into code s i r a b v has at is =
    let same = eq-eqb (suc r) (suc r) refl in
    block_leaves code (Reg Add (suc r) a b ∷ []) i s (suc r) v (rw same refl) has at (rw same is)

-- ---- three

pub record Three (code : List (Option Op)) (steps words : ℕ) (s : State) (x y z : ℕ) : Type 0 where
  pub does : Does code steps words s s.bytes
  pub t0_is : reg does.end.registers t0 ≡ x
  pub t1_is : reg does.end.registers t1 ≡ y
  pub t2_is : reg does.end.registers t2 ≡ z

abbrev pub begin : (code : List (Option Op)) (s : State) → Three code 0 0 s (reg s.registers t0) (reg s.registers t1) (reg s.registers t2)
begin code s = record { does = does_nothing code s; t0_is = refl; t1_is = refl; t2_is = refl }

module _ {code : List (Option Op)} {k a : ℕ} {s : State} {x y z : ℕ} (given : Three code k a s x y z) where
  abbrev end : State
  end = given.does.end

  -- one of them changes, or another scratch register
  abbrev pub sets_t0 : {b v : ℕ} → Leaves code b given.does.end given.does.end.bytes t0 v → Three code (k + b) (a + b) s v y z
  sets_t0 {b} {v} l = record {
    does = does_then given.does (does_with given.does.bytes_are (does_leave refl l));
    t0_is = l.value_is;
    t1_is = l.others t1 (λ e. absurd cc) ∙ given.t1_is;
    t2_is = l.others t2 (λ e. absurd cc) ∙ given.t2_is;
  }

  abbrev pub sets_t1 : {b v : ℕ} → Leaves code b given.does.end given.does.end.bytes t1 v → Three code (k + b) (a + b) s x v z
  sets_t1 {b} {v} l = record {
    does = does_then given.does (does_with given.does.bytes_are (does_leave refl l));
    t0_is = l.others t0 (λ e. absurd cc) ∙ given.t0_is;
    t1_is = l.value_is;
    t2_is = l.others t2 (λ e. absurd cc) ∙ given.t2_is;
  }

  abbrev pub sets_t2 : {b v : ℕ} → Leaves code b given.does.end given.does.end.bytes t2 v → Three code (k + b) (a + b) s x y v
  sets_t2 {b} {v} l = record {
    does = does_then given.does (does_with given.does.bytes_are (does_leave refl l));
    t0_is = l.others t0 (λ e. absurd cc) ∙ given.t0_is;
    t1_is = l.others t1 (λ e. absurd cc) ∙ given.t1_is;
    t2_is = l.value_is;
  }

  abbrev pub sets_other : {b v : ℕ} (r : ℕ) → is_scratch r ≡ true → t0 ≢ r → t1 ≢ r → t2 ≢ r → Leaves code b given.does.end given.does.end.bytes r v → Three code (k + b) (a + b) s x y z
  sets_other {b} {v} r free from_t0 from_t1 from_t2 l = record {
    does = does_then given.does (does_with given.does.bytes_are (does_leave free l));
    t0_is = l.others t0 from_t0 ∙ given.t0_is;
    t1_is = l.others t1 from_t1 ∙ given.t1_is;
    t2_is = l.others t2 from_t2 ∙ given.t2_is;
  }

  -- a branch keeps them
  abbrev pub goes : (words : ℕ) → Reaches code 1 given.does.end (moved given.does.end words) → Three code (k + 1) (a + words) s x y z
  goes words reaches = record {
    does = does_then given.does (does_with given.does.bytes_are (does_moved words reaches));
    t0_is = given.t0_is;
    t1_is = given.t1_is;
    t2_is = given.t2_is;
  }

pub leaves_as : {code : List (Option Op)} {b r v : ℕ} (v' : ℕ) {s : State} {bytes : Bytes} → v ≡ v' → Leaves code b s bytes r v → Leaves code b s bytes r v'
leaves_as {code} {b} {r} {v} v' {s} {bytes} same l = record {
  end = l.end;
  reaches = l.reaches;
  pc_is = l.pc_is;
  bytes_are = l.bytes_are;
  value_is = l.value_is ∙ same;
  others = l.others;
}

-- ---- a test of a sum

module _ (code : List (Option Op)) (e : State) (i left r v size : ℕ) (at : e.pc ≡ place i) (near : i < 2 ^ 26) (has : HasAt code i (Branch Bgeu left r (forward 16) ∷ trap 4)) (left_is : reg e.registers left ≡ size) (is : reg e.registers r ≡ v) where
  pub test_turns : v ≤ size → Reaches code 1 e (moved e 4)
  unfolding is_taken
  test_turns inside =
      let less : reg e.registers r ≤ reg e.registers left = omega arith in
      turns code e i at Bgeu left r (forward 16) (has.0, tt) 4 (ap not (le-ltb (reg e.registers left) (reg e.registers r) less)) (omega arith)

  pub test_traps : size < v → TrapsAt code 4 4 4 e
  unfolding is_taken
  test_traps outside =
      let more : reg e.registers left < reg e.registers r = omega arith in
      let passed = passes code e i at Bgeu left r (forward 16) (has.0, tt) (ap not (lt-ltb (reg e.registers left) (reg e.registers r) more)) in
      traps_after (does_moved 1 passed) (trap_traps code (moved e 1) (suc i) 4 has.1 (omega arith) (omega arith))
