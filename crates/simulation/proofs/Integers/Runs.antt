-- The instruction words of an instruction run: its operands are loaded, its body leaves a value in t0, and the
-- value is stored.
use Rattle.std.proofs.Common.{◌≡◌, ℕ, ◌+◌, ◌-◌, ◌<◌, ◌≤◌, true, List, ◌++◌, length, Option, refl, ◌∙◌, arith, length-append}
use Rattle.rv_isa.specs.declared.operations.Op.{Op}
use Rattle.rv_isa.specs.Steps.{Registers, reg, State}
use Rattle.rv_isa.specs.Runs.{place, HasAt, all_compute, after_all, behind, Leaves}
use Rattle.rv_isa.proofs.RunLaws.{blocks_run, blocks_keep}
use Rattle.wasm_defs.specs.Configurations.{max_slots}
use Rattle.frame_layout.specs.Slots.{operand}
use Rattle.frame_layout.specs.Macros.{t0, t1}
use Rattle.frame_layout.specs.Templates.{EmitContext, load_operand, store_operand, on_one, on_two}
use Rattle.frame_layout.specs.Laws.{slot_at, with_slot, IsFrame, is_scratch, Does}
use Rattle.frame_layout.proofs.Standing.{has_first, has_rest}
use Rattle.frame_layout.proofs.SlotLaws.{load_slot_leaves}
use Rattle.frame_layout.proofs.Steps.{does_leave, does_then, does_with, does_count}
use Rattle.frame_layout.proofs.Instructions.{Operands, operands_load, stored_does}

-- so many steps later, after so many words, t0 holds the value, and only scratch registers have changed
pub record Gives (code : List (Option Op)) (steps words : ℕ) (s : State) (v : ℕ) : Type 0 where
  pub does : Does code steps words s s.bytes
  pub value : reg does.end.registers t0 ≡ v

-- a body that only computes
pub block_gives : (code : List (Option Op)) (ops : List Op) (i : ℕ) (s : State) (v : ℕ) → all_compute is_scratch ops ≡ true → HasAt code i ops → s.pc ≡ place i → reg (after_all ops s.registers) t0 ≡ v → Gives code (length ops) (length ops) s v
block_gives code ops i s v alone has at is =
    record {
      does = record {
        end = behind ops s;
        reaches = blocks_run is_scratch code ops i s alone has at;
        pc_is = refl;
        bytes_are = refl;
        others = λ q kept. blocks_keep is_scratch ops s.registers q alone kept;
      };
      value = is;
    }

module _ (w : EmitContext) (code : List (Option Op)) (s : State) (i base h : ℕ) (body : List Op) (at : s.pc ≡ place i) (frame : IsFrame base s) (inside : base + operand w.layout (h - 1) < max_slots) where
  -- ---- two operands

  module _ (has : HasAt code i (on_two w h body)) (two : 2 ≤ h) where
    abbrev first_load : List Op
    first_load = load_operand w t0 (h - 2)

    abbrev second_load : List Op
    second_load = load_operand w t1 (h - 1)

    abbrev two_store : List Op
    two_store = store_operand w t0 (h - 2)

    near : base + operand w.layout (h - 2) < max_slots
    near = omega arith

    pub two_load : Operands code s (slot_at s.bytes (base + operand w.layout (h - 2))) (slot_at s.bytes (base + operand w.layout (h - 1)))
    two_load =
        operands_load code s i base (operand w.layout (h - 2)) (operand w.layout (h - 1)) (has_first code i first_load (second_load ++ (body ++ two_store)) has) (has_first code (i + 3) second_load (body ++ two_store) (has_rest code i first_load (second_load ++ (body ++ two_store)) has)) at frame near inside

    pub two_body : HasAt code (i + 6) body
    two_body = has_first code (i + 6) body two_store (has_rest code i (first_load ++ second_load) (body ++ two_store) has)

    two_end : HasAt code (i + 6 + length body) two_store
    two_end = has_rest code (i + 6) body two_store (has_rest code i (first_load ++ second_load) (body ++ two_store) has)

    -- with a body of so many steps
    pub two_store_does : (x y v steps : ℕ) → (given : Operands code s x y) → Gives code steps (length body) given.does.end v → Does code (steps + 9) (length (on_two w h body)) s (with_slot s.bytes (base + operand w.layout (h - 2)) v)
    two_store_does x y v steps given gives =
        let does = given.does in
        let pc_is = does.pc_is in
        let both = does_then does (does_with does.bytes_are gives.does) in
        let pc_both = both.pc_is in
        let stored = stored_does code s (i + 6 + length body) (6 + steps) (6 + length body) base (operand w.layout (h - 2)) v both gives.value two_end (omega arith) frame near in
        does_count (steps + 9) (length (on_two w h body)) (omega arith) (omega (arith, length-append body two_store)) stored

    -- with a body that only computes
    pub two_does : (x y v : ℕ) → slot_at s.bytes (base + operand w.layout (h - 2)) ≡ x → slot_at s.bytes (base + operand w.layout (h - 1)) ≡ y → all_compute is_scratch body ≡ true → ((r : Registers) → reg r t0 ≡ x → reg r t1 ≡ y → reg (after_all body r) t0 ≡ v) → Does code (length (on_two w h body)) (length (on_two w h body)) s (with_slot s.bytes (base + operand w.layout (h - 2)) v)
    two_does x y v x_is y_is alone is =
        let given = two_load in
        let does = given.does in
        let pc_is = does.pc_is in
        let first : reg does.end.registers t0 ≡ x = given.first ∙ x_is in
        let second : reg does.end.registers t1 ≡ y = given.second ∙ y_is in
        let gives = block_gives code body (i + 6) does.end v alone two_body (omega arith) (is does.end.registers first second) in
        does_count (length (on_two w h body)) (length (on_two w h body)) (omega (arith, length-append body two_store)) refl (two_store_does _ _ v (length body) given gives)

  -- ---- one operand

  module _ (has : HasAt code i (on_one w h body)) where
    abbrev one_load : List Op
    one_load = load_operand w t0 (h - 1)

    abbrev one_store : List Op
    one_store = store_operand w t0 (h - 1)

    one_leaves : Leaves code 3 s s.bytes t0 (slot_at s.bytes (base + operand w.layout (h - 1)))
    one_leaves = load_slot_leaves code s i base t0 (operand w.layout (h - 1)) (has_first code i one_load (body ++ one_store) has) at frame (λ e. absurd cc) (λ e. absurd cc) inside

    -- with a body that only computes
    pub one_does : (x v : ℕ) → slot_at s.bytes (base + operand w.layout (h - 1)) ≡ x → all_compute is_scratch body ≡ true → ((r : Registers) → reg r t0 ≡ x → reg (after_all body r) t0 ≡ v) → Does code (length (on_one w h body)) (length (on_one w h body)) s (with_slot s.bytes (base + operand w.layout (h - 1)) v)
    one_does x v x_is alone is =
        let given = one_leaves in
        let pc_is = given.pc_is in
        let does = does_leave refl given in
        let has_body = has_first code (i + 3) body one_store (has_rest code i one_load (body ++ one_store) has) in
        let has_end = has_rest code (i + 3) body one_store (has_rest code i one_load (body ++ one_store) has) in
        let first : reg given.end.registers t0 ≡ x = given.value_is ∙ x_is in
        let gives = block_gives code body (i + 3) given.end v alone has_body (omega arith) (is given.end.registers first) in
        let both = does_then does (does_with given.bytes_are gives.does) in
        let pc_both = both.pc_is in
        let stored = stored_does code s (i + 3 + length body) (3 + length body) (3 + length body) base (operand w.layout (h - 1)) v both gives.value has_end (omega arith) frame inside in
        does_count (length (on_one w h body)) (length (on_one w h body)) (omega (arith, length-append body one_store)) (omega (arith, length-append body one_store)) stored
