-- Which bytes are the code of a body (WebAssembly Core 1.0, 5.4 and 5.5.13): encodings joined one after the other, with no
-- reader, and no count of the blocks that are open. How tokens nest is said in Trees.
use Rattle.std.specs.Prelude.{◌≡◌, ℕ, ℤ, pos, Bool, true, List, [], ◌∷◌, length}
use Rattle.wasm_defs.specs.declared.types.ValType.{ValType}
use Rattle.wasm_defs.specs.declared.token.BlockType.{BlockType}
use Rattle.wasm_defs.specs.declared.token.BlockType.TheVariants.{Empty, Value, Index}
use Rattle.wasm_defs.specs.declared.token.MemArg.{MemArg}
use Rattle.wasm_defs.specs.declared.token.BulkOp.TheVariants.{Fill, Copy, Init}
use Rattle.wasm_defs.specs.declared.token.Plain.{Plain}
use Rattle.wasm_defs.specs.declared.token.Plain.TheVariants.{Unreachable, Nop, Br, BrIf, BrTable, Return, Call, CallIndirect, Drop, Select, LocalGet, LocalSet, LocalTee, GlobalGet, GlobalSet, Load, Store, MemorySize, MemoryGrow, Bulk, DataDrop, Const, Numeric}
use Rattle.wasm_defs.specs.declared.token.Token.{Token}
use Rattle.wasm_defs.specs.declared.token.Token.TheVariants as token
use Rattle.wasm_defs.specs.Numbers.{Spells}
use Rattle.wasm_defs.specs.Opcodes.{load_code, store_code, operation_code}
use Rattle.wasm_defs.specs.Entries.{const_opcode}
use Rattle.wasm_defs.specs.Bodies.{Group}
use Rattle.wasm_defs.specs.Items.{Spelling, ◌then◌, exactly, each_is, listed_type_is, listed_index_is}
use Rattle.wasm_defs.specs.Values.{bits}

-- ---- immediates, without their offsets

-- a count, and so many of a kind (5.1.3)
abbrev pub listed_vector_is : {A : Type 0} → (A → Spelling) → List A → Spelling
listed_vector_is p xs = listed_index_is (length xs) then each_is p xs

-- the type of a block (Core 2.0, 5.4.1), one of the module by its index as a signed number
abbrev pub block_type_is : BlockType → Spelling
block_type_is Empty = exactly (0x40 ∷ [])
block_type_is (Value ty) = listed_type_is ty
block_type_is (Index i) = λ at bytes. Spells (pos i) 33 true bytes

-- an alignment and an offset (5.4.4)
abbrev pub mem_arg_is : MemArg → Spelling
mem_arg_is m = listed_index_is m.align then listed_index_is m.offset

-- a number as a signed one (5.4.5)
abbrev pub signed_is : ValType → ℤ → Spelling
signed_is ty n = λ at bytes. Spells n (bits ty) true bytes

-- ---- instructions (5.4)

-- instructions on data segments are there only where the module counts them (Core 2.0, 5.5.16)
abbrev pub if_counted : Bool → Spelling → Spelling
if_counted counted p = λ at bytes. (counted ≡ true) × p at bytes

abbrev pub plain_is : Bool → Plain → Spelling
plain_is counted Unreachable = exactly (0x00 ∷ [])
plain_is counted Nop = exactly (0x01 ∷ [])
plain_is counted (Br l) = exactly (0x0C ∷ []) then listed_index_is l
plain_is counted (BrIf l) = exactly (0x0D ∷ []) then listed_index_is l
plain_is counted (BrTable labels last) = exactly (0x0E ∷ []) then listed_vector_is listed_index_is labels then listed_index_is last
plain_is counted Return = exactly (0x0F ∷ [])
plain_is counted (Call x) = exactly (0x10 ∷ []) then listed_index_is x
plain_is counted (CallIndirect ty table) = exactly (0x11 ∷ []) then listed_index_is ty then listed_index_is table
plain_is counted Drop = exactly (0x1A ∷ [])
plain_is counted Select = exactly (0x1B ∷ [])
plain_is counted (LocalGet x) = exactly (0x20 ∷ []) then listed_index_is x
plain_is counted (LocalSet x) = exactly (0x21 ∷ []) then listed_index_is x
plain_is counted (LocalTee x) = exactly (0x22 ∷ []) then listed_index_is x
plain_is counted (GlobalGet x) = exactly (0x23 ∷ []) then listed_index_is x
plain_is counted (GlobalSet x) = exactly (0x24 ∷ []) then listed_index_is x
plain_is counted (Load op m) = exactly (load_code op ∷ []) then mem_arg_is m
plain_is counted (Store op m) = exactly (store_code op ∷ []) then mem_arg_is m
plain_is counted MemorySize = exactly (0x3F ∷ []) then exactly (0x00 ∷ [])
plain_is counted MemoryGrow = exactly (0x40 ∷ []) then exactly (0x00 ∷ [])
plain_is counted (Bulk Fill) = exactly (0xFC ∷ []) then listed_index_is 11 then exactly (0x00 ∷ [])
plain_is counted (Bulk Copy) = exactly (0xFC ∷ []) then listed_index_is 10 then exactly (0x00 ∷ []) then exactly (0x00 ∷ [])
plain_is counted (Bulk (Init x)) = if_counted counted (exactly (0xFC ∷ []) then listed_index_is 8 then listed_index_is x then exactly (0x00 ∷ []))
plain_is counted (DataDrop x) = if_counted counted (exactly (0xFC ∷ []) then listed_index_is 9 then listed_index_is x)
plain_is counted (Const ty n) = exactly (const_opcode ty ∷ []) then signed_is ty n
plain_is counted (Numeric op) = exactly (operation_code op ∷ [])

-- with those that open a block, `else` and `end` (5.4.1)
abbrev pub instruction_is : Bool → Token → Spelling
instruction_is counted (token.Plain p) = plain_is counted p
instruction_is counted (token.Block ty) = exactly (0x02 ∷ []) then block_type_is ty
instruction_is counted (token.Loop ty) = exactly (0x03 ∷ []) then block_type_is ty
instruction_is counted (token.If ty) = exactly (0x04 ∷ []) then block_type_is ty
instruction_is counted token.Else = exactly (0x05 ∷ [])
instruction_is counted token.End = exactly (0x0B ∷ [])

-- a token is at its offset
abbrev pub token_is : Bool → ℕ × Token → Spelling
token_is counted t = λ at bytes. (t.0 ≡ at) × instruction_is counted t.1 at bytes

-- ---- code (5.5.13): so many locals of a type, in groups, and then tokens

abbrev pub group_is : Group → Spelling
group_is g = listed_index_is g.count then listed_type_is g.ty

abbrev pub Code : Bool → List Group → List (ℕ × Token) → Spelling
Code counted groups tokens = listed_vector_is group_is groups then each_is (token_is counted) tokens
