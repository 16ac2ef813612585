-- What the laws of simulation ask of instructions: that their immediates are small.
use Rattle.std.specs.Prelude.{◌^◌, ◌<◌}
use Rattle.wasm_defs.specs.declared.token.Plain.{Plain}
use Rattle.wasm_defs.specs.declared.token.Plain.TheVariants.{Unreachable, Br, BrIf, BrTable, Return, Call, CallIndirect, Load, Store, Const}
use Rattle.wasm_defs.specs.Trees.{Sort, Part, Nothing, Simple, Block, Loop, If, Else}
use Rattle.wasm_defs.specs.Values.{modulus, unsigned}

-- instructions that neither branch nor call: numeric, parametric, variable and memory ones, and `nop`; a constant is one of its
-- type, and an offset has 32 bits
abbrev pub IsStraightStep : Plain → Type 0
IsStraightStep Unreachable = ⊥
IsStraightStep (Br l) = ⊥
IsStraightStep (BrIf l) = ⊥
IsStraightStep (BrTable ls l) = ⊥
IsStraightStep Return = ⊥
IsStraightStep (Call f) = ⊥
IsStraightStep (CallIndirect i table) = ⊥
IsStraightStep (Load op m) = m.offset < 2 ^ 32
IsStraightStep (Store op m) = m.offset < 2 ^ 32
IsStraightStep (Const t n) = unsigned t n < modulus t
IsStraightStep p = Unit {0}

abbrev pub IsCoveredStep : Plain → Type 0
IsCoveredStep (Load op m) = m.offset < 2 ^ 32
IsCoveredStep (Store op m) = m.offset < 2 ^ 32
IsCoveredStep (Const t n) = unsigned t n < modulus t
IsCoveredStep p = Unit {0}

abbrev pub IsCovered : {sort : Sort} → Part sort → Type 0
IsCovered Nothing = Unit {0}
IsCovered (Simple p rest) = IsCoveredStep p × IsCovered rest
IsCovered (Block type body rest) = IsCovered body × IsCovered rest
IsCovered (Loop type body rest) = IsCovered body × IsCovered rest
IsCovered (If type body other rest) = IsCovered body × IsCovered other × IsCovered rest
IsCovered (Else other) = IsCovered other
