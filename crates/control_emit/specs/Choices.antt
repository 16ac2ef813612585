-- The parts of a table's first part.
use Rattle.std.specs.Prelude.{ℕ, List, [], ◌∷◌, ◌++◌}
use Rattle.rv_isa.specs.declared.operations.BranchOp.TheVariants.{Bltu}
use Rattle.rv_isa.specs.declared.operations.ImmOp.TheVariants.{Addi}
use Rattle.rv_isa.specs.declared.operations.RegOp.TheVariants.{Add}
use Rattle.rv_isa.specs.declared.operations.Op.{Op}
use Rattle.rv_isa.specs.declared.operations.Op.TheVariants as op
use Rattle.frame_layout.specs.Macros.{x0, t0, t1, forward, const_32, zero_extend}

-- an index in t0 becomes the count where it is no less
abbrev pub count_words : (count : ℕ) → List Op
count_words count = zero_extend t0 ++ (const_32 t1 count ++ (op.Branch Bltu t0 t1 (forward 8) ∷ op.Imm Addi t0 t1 0 ∷ []))

-- so many bytes on
abbrev pub choice_words : List Op
choice_words = op.Auipc t1 0 ∷ op.Reg Add t1 t1 t0 ∷ op.Jalr x0 t1 12 ∷ []
