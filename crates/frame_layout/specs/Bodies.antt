-- The instruction words of integer operations (WebAssembly Core 1.0, 4.3.2 and 4.3.4; sign extension: Core 2.0, 4.3.2) on registers: the first
-- operand is in t0, the second in t1, and the result comes into t0. An i32 is kept extended by its sign.
use Rattle.std.specs.Prelude.{ℕ, List, [], ◌∷◌, ◌++◌}
use Rattle.rv_isa.specs.declared.operations.BranchOp.TheVariants.{Bne}
use Rattle.rv_isa.specs.declared.operations.ImmOp.TheVariants.{Addi, Sltiu, Xori}
use Rattle.rv_isa.specs.declared.operations.ShiftOp.TheVariants.{Slli, Srli, Srai}
use Rattle.rv_isa.specs.declared.operations.RegOp.{RegOp}
use Rattle.rv_isa.specs.declared.operations.RegOp.TheVariants as reg
use Rattle.rv_isa.specs.declared.operations.RegOpW.{RegOpW}
use Rattle.rv_isa.specs.declared.operations.RegOpW.TheVariants as word
use Rattle.rv_isa.specs.declared.operations.Op.{Op}
use Rattle.rv_isa.specs.declared.operations.Op.TheVariants.{Lui, Branch, Imm, Shift, Addiw, Reg, RegW}
use Rattle.wasm_defs.specs.declared.types.ValType.{ValType}
use Rattle.wasm_defs.specs.declared.types.ValType.TheVariants.{I32, I64}
use Rattle.wasm_defs.specs.declared.operation.UnaryOp.{UnaryOp}
use Rattle.wasm_defs.specs.declared.operation.UnaryOp.TheVariants.{Clz, Ctz, Popcnt}
use Rattle.wasm_defs.specs.declared.operation.BinaryOp.{BinaryOp}
use Rattle.wasm_defs.specs.declared.operation.BinaryOp.TheVariants as binary
use Rattle.wasm_defs.specs.declared.operation.CompareOp.{CompareOp}
use Rattle.wasm_defs.specs.declared.operation.CompareOp.TheVariants as compare
use Rattle.wasm_defs.specs.declared.operation.ConvertOp.{ConvertOp}
use Rattle.wasm_defs.specs.declared.operation.ConvertOp.TheVariants.{Wrap, ExtendS, ExtendU}
use Rattle.wasm_defs.specs.declared.operation.ExtendOp.{ExtendOp}
use Rattle.wasm_defs.specs.declared.operation.ExtendOp.TheVariants.{I32Extend8S, I32Extend16S, I64Extend8S, I64Extend16S, I64Extend32S}
use Rattle.wasm_defs.specs.Values.{bits}
use Rattle.frame_layout.specs.Macros.{x0, t0, t1, t2, forward, minus_one, const_64, trap, zero_extend}

-- an operation of a width: on the low 32 bits, or on all
abbrev pub sized : ValType → RegOpW → RegOp → (rd rs1 rs2 : ℕ) → Op
sized I32 narrow wide rd rs1 rs2 = RegW narrow rd rs1 rs2
sized I64 narrow wide rd rs1 rs2 = Reg wide rd rs1 rs2

abbrev pub both : ValType → RegOpW → RegOp → List Op
both t narrow wide = sized t narrow wide t0 t0 t1 ∷ []

-- the bits that leave at one end come in at the other: t1 is the amount
abbrev pub rotation : (onward back : ℕ → ℕ → ℕ → Op) → List Op
rotation onward back = onward t2 t0 t1 ∷ Reg reg.Sub t1 x0 t1 ∷ back t0 t0 t1 ∷ Reg reg.Or t0 t0 t2 ∷ []

-- past the trap where the divisor isn't zero
abbrev pub guard : List Op
guard = Branch Bne t1 x0 (forward 16) ∷ trap 2

-- past the trap where the divisor isn't -1, or the dividend isn't the least number
abbrev pub overflow_guard : ValType → List Op
overflow_guard I32 =
    Imm Addi t2 x0 minus_one ∷ Branch Bne t1 t2 (forward 24) ∷ Lui t2 0x80000 ∷ Branch Bne t0 t2 (forward 16) ∷ trap 3
overflow_guard I64 =
    Imm Addi t2 x0 minus_one ∷ Branch Bne t1 t2 (forward 28) ∷ Imm Addi t2 x0 1 ∷ Shift Slli t2 t2 63 ∷ Branch Bne t0 t2 (forward 16) ∷ trap 3

abbrev pub binary_body : BinaryOp → ValType → List Op
binary_body binary.Add t = both t word.Addw reg.Add
binary_body binary.Sub t = both t word.Subw reg.Sub
binary_body binary.Mul t = both t word.Mulw reg.Mul
binary_body binary.DivS t = guard ++ (overflow_guard t ++ both t word.Divw reg.Div)
binary_body binary.DivU t = guard ++ both t word.Divuw reg.Divu
binary_body binary.RemS t = guard ++ both t word.Remw reg.Rem
binary_body binary.RemU t = guard ++ both t word.Remuw reg.Remu
binary_body binary.And t = Reg reg.And t0 t0 t1 ∷ []
binary_body binary.Or t = Reg reg.Or t0 t0 t1 ∷ []
binary_body binary.Xor t = Reg reg.Xor t0 t0 t1 ∷ []
binary_body binary.Shl t = both t word.Sllw reg.Sll
binary_body binary.ShrS t = both t word.Sraw reg.Sra
binary_body binary.ShrU t = both t word.Srlw reg.Srl
binary_body binary.Rotl t = rotation (sized t word.Sllw reg.Sll) (sized t word.Srlw reg.Srl)
binary_body binary.Rotr t = rotation (sized t word.Srlw reg.Srl) (sized t word.Sllw reg.Sll)

abbrev pub test_body : List Op
test_body = Imm Sltiu t0 t0 1 ∷ []

-- the opposite of a test
abbrev pub negated : List Op → List Op
negated ops = ops ++ Imm Xori t0 t0 1 ∷ []

abbrev pub compare_body : CompareOp → List Op
compare_body compare.Eq = Reg reg.Sub t0 t0 t1 ∷ Imm Sltiu t0 t0 1 ∷ []
compare_body compare.Ne = Reg reg.Sub t0 t0 t1 ∷ Reg reg.Sltu t0 x0 t0 ∷ []
compare_body compare.LtS = Reg reg.Slt t0 t0 t1 ∷ []
compare_body compare.LtU = Reg reg.Sltu t0 t0 t1 ∷ []
compare_body compare.GtS = Reg reg.Slt t0 t1 t0 ∷ []
compare_body compare.GtU = Reg reg.Sltu t0 t1 t0 ∷ []
compare_body compare.LeS = negated (Reg reg.Slt t0 t1 t0 ∷ [])
compare_body compare.LeU = negated (Reg reg.Sltu t0 t1 t0 ∷ [])
compare_body compare.GeS = negated (Reg reg.Slt t0 t0 t1 ∷ [])
compare_body compare.GeU = negated (Reg reg.Sltu t0 t0 t1 ∷ [])

-- ---- counts of bits

-- each pair of bits becomes the number of its ones, then each four, then each byte; a product gathers the bytes in the uppermost
abbrev pub population : List Op
population =
    const_64 t2 0x5555_5555_5555_5555
    ++ (Shift Srli t1 t0 1 ∷ Reg reg.And t1 t1 t2 ∷ Reg reg.Sub t0 t0 t1 ∷ const_64 t2 0x3333_3333_3333_3333
    ++ (Shift Srli t1 t0 2 ∷ Reg reg.And t1 t1 t2 ∷ Reg reg.And t0 t0 t2 ∷ Reg reg.Add t0 t0 t1 ∷ const_64 t2 0x0F0F_0F0F_0F0F_0F0F
    ++ (Shift Srli t1 t0 4 ∷ Reg reg.Add t0 t0 t1 ∷ Reg reg.And t0 t0 t2 ∷ const_64 t2 0x0101_0101_0101_0101
    ++ (Reg reg.Mul t0 t0 t2 ∷ Shift Srli t0 t0 56 ∷ []))))

-- the bits of an i32 without those that extend it
abbrev pub cut : ValType → List Op
cut I32 = zero_extend t0
cut I64 = []

-- each bit copied onto those below it
abbrev pub smear : (amount : ℕ) → List Op
smear amount = Shift Srli t1 t0 amount ∷ Reg reg.Or t0 t0 t1 ∷ []

abbrev pub last_smear : ValType → List Op
last_smear I32 = []
last_smear I64 = smear 32

abbrev pub unary_body : UnaryOp → ValType → List Op
unary_body Clz t =
    cut t ++ (smear 1 ++ (smear 2 ++ (smear 4 ++ (smear 8 ++ (smear 16 ++ (last_smear t ++ (population
    ++ (Imm Addi t1 x0 (bits t) ∷ Reg reg.Sub t0 t1 t0 ∷ []))))))))
unary_body Ctz t = Imm Xori t1 t0 minus_one ∷ Imm Addi t0 t0 minus_one ∷ Reg reg.And t0 t0 t1 ∷ cut t ++ population
unary_body Popcnt t = cut t ++ population

-- ---- conversions: an extension by the sign needs no words

abbrev pub convert_body : ConvertOp → List Op
convert_body Wrap = Addiw t0 t0 0 ∷ []
convert_body ExtendS = []
convert_body ExtendU = zero_extend t0

-- ---- sign extension: the bits above go out upward, and the sign comes in

abbrev pub shifts : (amount : ℕ) → List Op
shifts amount = Shift Slli t0 t0 amount ∷ Shift Srai t0 t0 amount ∷ []

abbrev pub extend_body : ExtendOp → List Op
extend_body I32Extend8S = shifts 56
extend_body I32Extend16S = shifts 48
extend_body I64Extend8S = shifts 56
extend_body I64Extend16S = shifts 48
extend_body I64Extend32S = Addiw t0 t0 0 ∷ []
