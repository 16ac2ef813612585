-- The fields of the operations of `call_indirect` fit their instruction words.
use Rattle.std.proofs.Common.{ℕ, ◌-◌, ◌*◌, List, [], ◌∷◌, ◌++◌, arith}
use Rattle.rv_isa.specs.declared.operations.Op.{Op}
use Rattle.rv_isa.specs.declared.operations.Op.TheVariants.{Branch, Load, Shift, Reg, Jalr}
use Rattle.rv_isa.specs.declared.operations.BranchOp.TheVariants.{Beq, Bne, Bltu}
use Rattle.rv_isa.specs.declared.operations.LoadOp.TheVariants.{Ld}
use Rattle.rv_isa.specs.declared.operations.ShiftOp.TheVariants.{Slli}
use Rattle.rv_isa.specs.declared.operations.RegOp.TheVariants.{Add, Sub}
use Rattle.rv_isa.specs.Words.{IsInRange}
use Rattle.rv_isa.specs.Runs.{AllInRange}
use Rattle.frame_layout.specs.Slots.{operand}
use Rattle.frame_layout.specs.Macros.{x0, ra, t0, t1, t2, s0, s4, forward, trap, zero_extend, const_32, shift, back}
use Rattle.frame_layout.specs.Templates.{EmitContext, load_operand, indirect_words}
use Rattle.simulation.proofs.MacroRanges.{both_in_range, load_in_range, const_in_range, extended_in_range, trap_in_range}

within_in_range : AllInRange (Branch Bltu t0 t1 (forward 16) ∷ [])
unfolding IsInRange
within_in_range = ((omega arith, omega arith, omega arith), tt)

row_in_range : AllInRange (Shift Slli t0 t0 4 ∷ Reg Add t0 t0 s4 ∷ Load Ld t1 t0 0 ∷ Branch Bne t1 x0 (forward 16) ∷ [])
unfolding IsInRange
row_in_range = ((omega arith, omega arith, omega arith), ((omega arith, omega arith, omega arith), ((omega arith, omega arith, omega arith), ((omega arith, omega arith, omega arith), tt))))

like_in_range : AllInRange (Load Ld t0 t0 8 ∷ [])
unfolding IsInRange
like_in_range = ((omega arith, omega arith, omega arith), tt)

same_in_range : AllInRange (Branch Beq t0 t2 (forward 16) ∷ [])
unfolding IsInRange
same_in_range = ((omega arith, omega arith, omega arith), tt)

up_in_range : AllInRange (Reg Add s0 s0 t0 ∷ [])
unfolding IsInRange
up_in_range = ((omega arith, omega arith, omega arith), tt)

down_in_range : AllInRange (Reg Sub s0 s0 t0 ∷ [])
unfolding IsInRange
down_in_range = ((omega arith, omega arith, omega arith), tt)

jump_in_range : AllInRange (Jalr ra t1 0 ∷ [])
unfolding IsInRange
jump_in_range = ((omega arith, omega arith, omega arith), tt)

module _ (w : EmitContext) where
  pub indirect_in_range : (h type arguments : ℕ) → AllInRange (indirect_words w h type arguments)
  indirect_in_range h type arguments =
      let slots = operand w.layout (h - 1 - arguments) in
      let jump : List Op = Jalr ra t1 0 ∷ [] in
      let last = shift slots ++ (jump ++ back slots) in
      let same : List Op = Branch Beq t0 t2 (forward 16) ∷ [] in
      let typed = Load Ld t0 t0 8 ∷ (const_32 t2 (w.like type) ++ (same ++ (trap 7 ++ last))) in
      let row : List Op = Shift Slli t0 t0 4 ∷ Reg Add t0 t0 s4 ∷ Load Ld t1 t0 0 ∷ Branch Bne t1 x0 (forward 16) ∷ [] in
      let tested = row ++ (trap 6 ++ typed) in
      let inside : List Op = Branch Bltu t0 t1 (forward 16) ∷ [] in
      both_in_range (load_operand w t0 (h - 1)) (zero_extend t0 ++ (const_32 t1 w.rows ++ (inside ++ (trap 5 ++ tested)))) (load_in_range t0 (operand w.layout (h - 1)) (omega arith)) (
      both_in_range (zero_extend t0) (const_32 t1 w.rows ++ (inside ++ (trap 5 ++ tested))) extended_in_range (
      both_in_range (const_32 t1 w.rows) (inside ++ (trap 5 ++ tested)) (const_in_range t1 w.rows (omega arith)) (
      both_in_range inside (trap 5 ++ tested) within_in_range (
      both_in_range (trap 5) tested (trap_in_range 5 (omega arith)) (
      both_in_range row (trap 6 ++ typed) row_in_range (
      both_in_range (trap 6) typed (trap_in_range 6 (omega arith)) (
      both_in_range (Load Ld t0 t0 8 ∷ []) (const_32 t2 (w.like type) ++ (same ++ (trap 7 ++ last))) like_in_range (
      both_in_range (const_32 t2 (w.like type)) (same ++ (trap 7 ++ last)) (const_in_range t2 (w.like type) (omega arith)) (
      both_in_range same (trap 7 ++ last) same_in_range (
      both_in_range (trap 7) last (trap_in_range 7 (omega arith)) (
      both_in_range (shift slots) (jump ++ back slots) (both_in_range (const_32 t0 (8 * slots)) (Reg Add s0 s0 t0 ∷ []) (const_in_range t0 (8 * slots) (omega arith)) up_in_range) (
      both_in_range jump (back slots) jump_in_range (both_in_range (const_32 t0 (8 * slots)) (Reg Sub s0 s0 t0 ∷ []) (const_in_range t0 (8 * slots) (omega arith)) down_in_range)))))))))))))
