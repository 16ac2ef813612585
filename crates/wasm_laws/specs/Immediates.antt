-- The immediates that bytes encode (WebAssembly Core 1.0, 5.3.2 and 5.4): block types, indices, alignments and offsets, and
-- the numbers of constants.
use Rattle.std.specs.Prelude.{ℕ, ◌<◌, ◌^◌, List, [], ◌∷◌, FitsSigned}
use Rattle.std.specs.Int.{w32, w64}
use Rattle.wasm_defs.specs.declared.types.ValType.TheVariants.{I32, I64}
use Rattle.wasm_defs.specs.declared.token.BlockType.{BlockType}
use Rattle.wasm_defs.specs.declared.token.BlockType.TheVariants.{Index}
use Rattle.wasm_defs.specs.declared.token.BulkOp.TheVariants.{Init}
use Rattle.wasm_defs.specs.declared.token.Plain.{Plain}
use Rattle.wasm_defs.specs.declared.token.Plain.TheVariants.{Br, BrIf, BrTable, Call, CallIndirect, LocalGet, LocalSet, LocalTee, GlobalGet, GlobalSet, Load, Store, Bulk, DataDrop, Const}
use Rattle.wasm_defs.specs.declared.token.Token.{Token}
use Rattle.wasm_defs.specs.declared.token.Token.TheVariants as token
use Rattle.wasm_defs.specs.Trees.{Sort, Part, Nothing, Simple, Block, Loop, If, Else}

-- a block's type that bytes encode: where it is one of the module's types, its index has 32 bits
abbrev pub IsSpelledType : BlockType → Type 0
IsSpelledType (Index x) = x < 2 ^ 32
IsSpelledType _ = Unit {0}

abbrev pub AreIndices : List ℕ → Type 0
AreIndices [] = Unit {0}
AreIndices (i ∷ is) = (i < 2 ^ 32) × AreIndices is

-- indices, alignments and offsets of 32 bits, and a signed number of the type's bits
abbrev pub IsInRange : Plain → Type 0
IsInRange (Br l) = l < 2 ^ 32
IsInRange (BrIf l) = l < 2 ^ 32
IsInRange (BrTable ls l) = AreIndices ls × (l < 2 ^ 32)
IsInRange (Call f) = f < 2 ^ 32
IsInRange (CallIndirect t table) = (t < 2 ^ 32) × (table < 2 ^ 32)
IsInRange (LocalGet x) = x < 2 ^ 32
IsInRange (LocalSet x) = x < 2 ^ 32
IsInRange (LocalTee x) = x < 2 ^ 32
IsInRange (GlobalGet x) = x < 2 ^ 32
IsInRange (GlobalSet x) = x < 2 ^ 32
IsInRange (Load op m) = (m.align < 2 ^ 32) × (m.offset < 2 ^ 32)
IsInRange (Store op m) = (m.align < 2 ^ 32) × (m.offset < 2 ^ 32)
IsInRange (Bulk (Init x)) = x < 2 ^ 32
IsInRange (DataDrop x) = x < 2 ^ 32
IsInRange (Const I32 n) = FitsSigned w32 n
IsInRange (Const I64 n) = FitsSigned w64 n
IsInRange _ = Unit {0}

abbrev pub TokenIsInRange : Token → Type 0
TokenIsInRange (token.Plain p) = IsInRange p
TokenIsInRange (token.Block t) = IsSpelledType t
TokenIsInRange (token.Loop t) = IsSpelledType t
TokenIsInRange (token.If t) = IsSpelledType t
TokenIsInRange _ = Unit {0}

abbrev pub TokensAreInRange : List Token → Type 0
TokensAreInRange [] = Unit {0}
TokensAreInRange (t ∷ ts) = TokenIsInRange t × TokensAreInRange ts

abbrev pub TreeIsInRange : {sort : Sort} → Part sort → Type 0
TreeIsInRange Nothing = Unit {0}
TreeIsInRange (Simple p rest) = IsInRange p × TreeIsInRange rest
TreeIsInRange (Block type body rest) = IsSpelledType type × TreeIsInRange body × TreeIsInRange rest
TreeIsInRange (Loop type body rest) = IsSpelledType type × TreeIsInRange body × TreeIsInRange rest
TreeIsInRange (If type body other rest) = IsSpelledType type × TreeIsInRange body × TreeIsInRange other × TreeIsInRange rest
TreeIsInRange (Else other) = TreeIsInRange other
