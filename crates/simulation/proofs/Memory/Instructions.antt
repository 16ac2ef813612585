-- What the instruction words of variable and parametric instructions do.
use Rattle.std.proofs.Common.{◌≡◌, ℕ, zero, suc, ◌+◌, ◌-◌, ◌^◌, ◌==◌, ◌<◌, ◌≤◌, List, [], ◌∷◌, ◌++◌, length, Option, refl, sym, ap, ◌∙◌, arith}
use Rattle.std.specs.Prelude.{not, ◌≢◌}
use Rattle.std.proofs.lemmas.Bool.{eq-eqb, ne_eqb, cond-false}
use Rattle.std.proofs.lemmas.Option.{slice_get_within}
use Rattle.rv_isa.specs.declared.operations.BranchOp.TheVariants.{Bne}
use Rattle.rv_isa.specs.declared.operations.Op.{Op}
use Rattle.rv_isa.specs.declared.operations.Op.TheVariants.{Branch}
use Rattle.rv_isa.specs.Values.{is_taken}
use Rattle.rv_isa.specs.Steps.{reg, Bytes, State}
use Rattle.rv_isa.specs.Runs.{place, HasAt, Leaves}
use Rattle.wasm_defs.specs.declared.types.ValType.TheVariants.{I32}
use Rattle.wasm_defs.specs.Configurations.{max_slots}
use Rattle.wasm_defs.specs.Values.{word}
use Rattle.frame_layout.specs.Slots.{operand}
use Rattle.frame_layout.specs.Macros.{x0, t0, forward}
use Rattle.frame_layout.specs.Templates.{EmitContext, load_operand, store_operand, select_words}
use Rattle.frame_layout.specs.Laws.{slot_at, with_slot, IsFrame, Does}
use Rattle.frame_layout.proofs.Standing.{has_first, has_rest}
use Rattle.frame_layout.proofs.SlotLaws.{load_slot_leaves}
use Rattle.frame_layout.proofs.Steps.{does_leave, does_then, does_with, frame_stays}
use Rattle.frame_layout.proofs.Instructions.{copied_does}
use Rattle.frame_layout.proofs.Jumps.{passed_does, taken_does}
use Rattle.frame_layout.proofs.WordLaws.{word_is_some}
use Rattle.simulation.specs.VariableLaws.{LocalSetLaw, chosen, Chooses, SelectLaw}

pub local_set_does : LocalSetLaw
local_set_does w code s i base h x has at frame near inside =
    copied_does code s i base (operand w.layout (h - 1)) x has at frame near inside

-- ---- select

module _ (w : EmitContext) (code : List (Option Op)) (s : State) (i base h : ℕ) (has : HasAt code i (select_words w h)) (at : s.pc ≡ place i) (short : length code ≤ 2 ^ 26) (frame : IsFrame base s)
    (three : 3 ≤ h) (inside : base + operand w.layout (h - 1) < max_slots) where
  abbrev test : List Op
  test = Branch Bne t0 x0 (forward 28) ∷ []

  abbrev moves : List Op
  moves = load_operand w t0 (h - 2) ++ store_operand w t0 (h - 3)

  -- the condition, into t0
  condition_leaves : Leaves code 3 s s.bytes t0 (slot_at s.bytes (base + operand w.layout (h - 1)))
  condition_leaves =
      load_slot_leaves code s i base t0 (operand w.layout (h - 1)) (has_first code i (load_operand w t0 (h - 1)) (test ++ moves) has) at frame (λ e. absurd cc) (λ e. absurd cc) inside

  has_test : HasAt code (i + 3) test
  has_test = has_first code (i + 3) test moves (has_rest code i (load_operand w t0 (h - 1)) (test ++ moves) has)

  -- the second operand is passed over
  first_stays : slot_at s.bytes (base + operand w.layout (h - 1)) ≢ 0 → Does code 4 10 s s.bytes
  unfolding is_taken
  first_stays some =
      let one = condition_leaves in
      let pc_one = one.pc_is in
      let near = slice_get_within code i _ has.0 in
      let differs : reg one.end.registers t0 ≢ 0 = λ e. some (sym one.value_is ∙ e) in
      let taken = taken_does code one.end (i + 3) (omega arith) Bne t0 x0 (forward 28) 7 has_test (ap not (ne_eqb (reg one.end.registers t0) 0 differs)) (omega arith) in
      does_then (does_leave refl one) (does_with one.bytes_are taken)

  -- the second operand comes into the slot of the first
  second_comes : slot_at s.bytes (base + operand w.layout (h - 1)) ≡ 0 → Does code 10 10 s (with_slot s.bytes (base + operand w.layout (h - 3)) (slot_at s.bytes (base + operand w.layout (h - 2))))
  unfolding is_taken
  second_comes none =
      let one = condition_leaves in
      let pc_one = one.pc_is in
      let passed = passed_does code one.end (i + 3) (omega arith) Bne t0 x0 (forward 28) has_test (ap not (eq-eqb (reg one.end.registers t0) 0 (one.value_is ∙ none))) in
      let tested = does_then (does_leave refl one) (does_with one.bytes_are passed) in
      let pc_tested = tested.pc_is in
      let has_moves = has_rest code i (load_operand w t0 (h - 1) ++ test) moves has in
      let moved = copied_does code tested.end (i + 4) base (operand w.layout (h - 2)) (operand w.layout (h - 3)) has_moves (omega arith) (frame_stays frame tested) (omega arith) (omega arith) in
      let same : with_slot tested.end.bytes (base + operand w.layout (h - 3)) (slot_at tested.end.bytes (base + operand w.layout (h - 2))) ≡ with_slot s.bytes (base + operand w.layout (h - 3)) (slot_at s.bytes (base + operand w.layout (h - 2))) =
      ap (λ (b : Bytes). with_slot b (base + operand w.layout (h - 3)) (slot_at b (base + operand w.layout (h - 2)))) tested.bytes_are in
      does_then tested (does_with same moved)

  selects : (condition second : ℕ) → slot_at s.bytes (base + operand w.layout (h - 2)) ≡ second → slot_at s.bytes (base + operand w.layout (h - 1)) ≡ word I32 condition
      → Chooses code 10 s (chosen condition second (base + operand w.layout (h - 3)) s.bytes)
  selects zero second second_is is =
      (10, omega arith, does_with (ap (with_slot s.bytes (base + operand w.layout (h - 3))) second_is) (second_comes is))
  selects (suc n) second second_is is =
      let same : s.bytes ≡ chosen (suc n) second (base + operand w.layout (h - 3)) s.bytes = sym (cond-false (suc n == 0) (with_slot s.bytes (base + operand w.layout (h - 3)) second) s.bytes (ne_eqb (suc n) 0 (λ e. absurd cc))) in
      (4, omega arith, does_with same (first_stays (λ e. word_is_some n (sym is ∙ e))))

pub select_does : SelectLaw
select_does w code s i base h condition second has at frame three inside second_is is short =
    selects w code s i base h has at short frame three inside condition second second_is is
