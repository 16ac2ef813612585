-- The instruction words of an indirect call (WebAssembly Core 1.0, 4.4.5.11) in three parts, one after
-- the other.
use Rattle.std.specs.Prelude.{ℕ, List, ◌∷◌, ◌++◌}
use Rattle.rv_isa.specs.declared.operations.BranchOp.TheVariants.{Beq, Bne, Bltu}
use Rattle.rv_isa.specs.declared.operations.LoadOp.TheVariants.{Ld}
use Rattle.rv_isa.specs.declared.operations.ShiftOp.TheVariants.{Slli}
use Rattle.rv_isa.specs.declared.operations.RegOp.TheVariants.{Add}
use Rattle.rv_isa.specs.declared.operations.Op.{Op}
use Rattle.rv_isa.specs.declared.operations.Op.TheVariants.{Branch, Load, Shift, Reg, Jalr}
use Rattle.frame_layout.specs.Macros.{x0, ra, t0, t1, t2, s4, forward, load_slot, const_32, trap, zero_extend, shift, back}

-- the index comes from its slot into t0; they trap where the table hasn't so many rows
abbrev pub index_words : (slot rows : ℕ) → List Op
index_words slot rows = load_slot t0 slot ++ (zero_extend t0 ++ (const_32 t1 rows ++ (Branch Bltu t0 t1 (forward 16) ∷ trap 5)))

-- its row's function comes into t1; they trap where it has none, or one of another type
abbrev pub row_words : (like : ℕ) → List Op
row_words like =
    Shift Slli t0 t0 4 ∷ Reg Add t0 t0 s4 ∷ Load Ld t1 t0 0 ∷ Branch Bne t1 x0 (forward 16) ∷ trap 6
    ++ (Load Ld t0 t0 8 ∷ const_32 t2 like ++ (Branch Beq t0 t2 (forward 16) ∷ trap 7))

-- the function runs in a frame that begins so many slots on
abbrev pub going_words : (slots : ℕ) → List Op
going_words slots = shift slots ++ (Jalr ra t1 0 ∷ back slots)
