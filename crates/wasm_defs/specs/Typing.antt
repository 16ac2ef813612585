-- Which sequences of instructions take which operands to which (Core 3.3). Types of operands are listed topmost first.
use Rattle.std.specs.Prelude.{◌≡◌, ◌↔◌, ℕ, Bool, true, false, ◌&&◌, List, [], ◌∷◌, ◌++◌, reverse, Option, None, Some, slice_get, nat_lt, nat_le}
use Rattle.wasm_defs.specs.declared.types.ValType.{ValType}
use Rattle.wasm_defs.specs.declared.types.ValType.TheVariants.{I32, I64}
use Rattle.wasm_defs.specs.declared.types.FuncType.{FuncType}
use Rattle.wasm_defs.specs.declared.context.GlobalType.{GlobalType}
use Rattle.wasm_defs.specs.declared.token.BlockType.{BlockType}
use Rattle.wasm_defs.specs.declared.token.BlockType.TheVariants.{Empty, Value, Index}
use Rattle.wasm_defs.specs.declared.operation.ConvertOp.{ConvertOp}
use Rattle.wasm_defs.specs.declared.operation.ExtendOp.{ExtendOp}
use Rattle.wasm_defs.specs.declared.operation.Operation.{Operation}
use Rattle.wasm_defs.specs.declared.operation.Operation.TheVariants.{Unary, Test, Binary, Compare, Convert, Extend}
use Rattle.wasm_defs.specs.declared.operation.Operands.{Operands}
use Rattle.wasm_defs.specs.declared.operation.Operands.TheVariants.{One, Two}
use Rattle.wasm_defs.specs.declared.operation.NumericType.{NumericType}
use Rattle.wasm_defs.specs.declared.operation.Access.TheVariants as access
use Rattle.wasm_defs.specs.declared.operation.LoadOp.{LoadOp}
use Rattle.wasm_defs.specs.declared.operation.StoreOp.{StoreOp}
use Rattle.wasm_defs.specs.declared.token.BulkOp.{BulkOp}
use Rattle.wasm_defs.specs.declared.token.BulkOp.TheVariants.{Fill, Copy, Init}
use Rattle.wasm_defs.specs.declared.token.Plain.{Plain}
use Rattle.wasm_defs.specs.declared.token.Plain.TheVariants.{Unreachable, Nop, Br, BrIf, BrTable, Return, Call, CallIndirect, Drop, Select, LocalGet, LocalSet, LocalTee, GlobalGet, GlobalSet, Load, Store, MemorySize, MemoryGrow, Bulk, DataDrop, Const, Numeric}
use Rattle.wasm_defs.specs.Opcodes.{row_type, row_access}
use Rattle.wasm_defs.specs.Trees.{Sort, Part, Seq, Nothing, Simple, Block, Loop, If, Else}

abbrev pub Types : Type 0
Types = List ValType

-- what an instruction takes from the operands, and what it leaves in their place
pub record Signature : Type 0 where
  pub params : Types
  pub results : Types

-- of a function type: its last value is topmost
abbrev pub signature_of : FuncType → Signature
signature_of f = record { params = reverse f.params; results = reverse f.results }

-- what the instructions of a body may name (Core 3.1): functions by the indices of their types, the imported ones first;
-- how many tables and memories there are; and how many data segments they may name
pub record Context : Type 0 where
  pub types : List FuncType
  pub functions : List ℕ
  pub tables : ℕ
  pub memories : ℕ
  pub segments : ℕ
  pub globals : List GlobalType
  pub locals : Types
  pub results : Types
  pub labels : List Types

-- the context of a block's body
abbrev pub inside : Context → Types → Context
inside c label = record c { labels = label ∷ c.labels }

abbrev pub same_type : ValType → ValType → Bool
same_type I32 I32 = true
same_type I64 I64 = true
same_type I32 I64 = false
same_type I64 I32 = false

abbrev pub same_types : Types → Types → Bool
same_types [] [] = true
same_types (t ∷ ts) [] = false
same_types [] (u ∷ us) = false
same_types (t ∷ ts) (u ∷ us) = same_type t u && same_types ts us

-- the types of two functions are the same
abbrev pub same_function_types : FuncType → FuncType → Bool
same_function_types f g = same_types f.params g.params && same_types f.results g.results

-- the test says whether two lists are one
abbrev pub TypesAreCompared : Type 0
TypesAreCompared = (ts us : Types) → (same_types ts us ≡ true) ↔ (ts ≡ us)

-- the types of a plain instruction
pub data Rule : Type 0 where
  -- none
  Untyped : Rule
  -- [from] -> [to]
  Fixed : (from to : Types) → Rule
  -- [below from] -> [to], for all below and to
  Stops : (from : Types) → Rule
  -- [t] -> [], for all t
  Discards : Rule
  -- [t t i32] -> [t], for all t
  Selects : Rule

abbrev pub with_type : {T : Type 0} → Option T → (T → Rule) → Rule
with_type None rule = Untyped
with_type (Some t) rule = rule t

abbrev pub are_these : Types → Option Types → Bool
are_these types None = false
are_these types (Some others) = same_types others types

-- each of the labels takes these types
abbrev pub are_labels : List Types → Types → List ℕ → Bool
are_labels taken types [] = true
are_labels taken types (l ∷ ls) = are_these types (slice_get taken l) && are_labels taken types ls

-- ---- numeric instructions (Core 3.3.1)

-- topmost first
abbrev pub operand_types : Operands → Types
operand_types (One t) = t ∷ []
operand_types (Two t u) = u ∷ t ∷ []

abbrev pub signature_in : NumericType → Signature
signature_in t = record { params = operand_types t.operands; results = t.result ∷ [] }

-- of those that no group gives a type, as their rows have it
abbrev pub converted : ConvertOp → Signature
converted op = signature_in (row_type (Convert op))

-- the type of the operand of a sign extension, and of what it gives
abbrev pub extend_type : ExtendOp → ValType
extend_type op = (row_type (Extend op)).result

abbrev pub operated : Operation → Signature
operated (Unary t op) = record { params = t ∷ []; results = t ∷ [] }
operated (Test t) = record { params = t ∷ []; results = I32 ∷ [] }
operated (Binary t op) = record { params = t ∷ t ∷ []; results = t ∷ [] }
operated (Compare t op) = record { params = t ∷ t ∷ []; results = I32 ∷ [] }
operated (Convert op) = converted op
operated (Extend op) = record { params = extend_type op ∷ []; results = extend_type op ∷ [] }

-- ---- memory instructions (Core 3.3.4)

-- the type of the value, and the greatest alignment: so many bytes are loaded or stored, as a power of two
abbrev pub load_type : LoadOp → ValType
load_type op = (row_access (access.Load op)).value

abbrev pub load_alignment : LoadOp → ℕ
load_alignment op = (row_access (access.Load op)).alignment

abbrev pub store_type : StoreOp → ValType
store_type op = (row_access (access.Store op)).value

abbrev pub store_alignment : StoreOp → ℕ
store_alignment op = (row_access (access.Store op)).alignment

-- an instruction that wants a condition to hold
abbrev pub only_if : Bool → Rule → Rule
only_if true rule = rule
only_if false rule = Untyped

-- there is a memory, and the alignment isn't larger than what is accessed
abbrev pub accesses : Context → ℕ → ℕ → Bool
accesses c align most = nat_lt 0 c.memories && nat_le align most

-- the segment that is read, if one is, is there (Core 2.0, 3.3.7)
abbrev pub reads_segment : Context → BulkOp → Bool
reads_segment c Fill = true
reads_segment c Copy = true
reads_segment c (Init x) = nat_lt x c.segments

-- the type of a function
abbrev pub function_type : Context → ℕ → Option FuncType
function_type c f = type_at c (slice_get c.functions f)
  where
    type_at : Context → Option ℕ → Option FuncType
    type_at c None = None
    type_at c (Some i) = slice_get c.types i

abbrev pub called : Types → FuncType → Rule
called on_top f = Fixed (on_top ++ (signature_of f).params) (signature_of f).results

-- one row for each instruction or group (Core 3.3.1 to 3.3.5)
abbrev pub rule_of : Context → Plain → Rule
rule_of c Unreachable = Stops []
rule_of c Nop = Fixed [] []
rule_of c (Br l) = with_type (slice_get c.labels l) Stops
rule_of c (BrIf l) = with_type (slice_get c.labels l) (λ ts. Fixed (I32 ∷ ts) ts)
rule_of c (BrTable ls l) =
    with_type (slice_get c.labels l) (λ ts. only_if (are_labels c.labels ts ls) (Stops (I32 ∷ ts)))
rule_of c Return = Stops c.results
rule_of c (Call f) = with_type (function_type c f) (called [])
rule_of c (CallIndirect i table) = only_if (nat_lt table c.tables) (with_type (slice_get c.types i) (called (I32 ∷ [])))
rule_of c Drop = Discards
rule_of c Select = Selects
rule_of c (LocalGet x) = with_type (slice_get c.locals x) (λ t. Fixed [] (t ∷ []))
rule_of c (LocalSet x) = with_type (slice_get c.locals x) (λ t. Fixed (t ∷ []) [])
rule_of c (LocalTee x) = with_type (slice_get c.locals x) (λ t. Fixed (t ∷ []) (t ∷ []))
rule_of c (GlobalGet x) = with_type (slice_get c.globals x) (λ g. Fixed [] (g.ty ∷ []))
rule_of c (GlobalSet x) = with_type (slice_get c.globals x) (λ g. only_if g.mutable (Fixed (g.ty ∷ []) []))
rule_of c (Load op m) = only_if (accesses c m.align (load_alignment op)) (Fixed (I32 ∷ []) (load_type op ∷ []))
rule_of c (Store op m) = only_if (accesses c m.align (store_alignment op)) (Fixed (store_type op ∷ I32 ∷ []) [])
rule_of c MemorySize = only_if (nat_lt 0 c.memories) (Fixed [] (I32 ∷ []))
rule_of c MemoryGrow = only_if (nat_lt 0 c.memories) (Fixed (I32 ∷ []) (I32 ∷ []))
rule_of c (Bulk op) = only_if (nat_lt 0 c.memories && reads_segment c op) (Fixed (I32 ∷ I32 ∷ I32 ∷ []) [])
rule_of c (DataDrop x) = only_if (nat_lt x c.segments) (Fixed [] [])
rule_of c (Const t n) = Fixed [] (t ∷ [])
rule_of c (Numeric op) = Fixed (operated op).params (operated op).results

-- the instances of a rule
abbrev pub Allows : Rule → Types → Types → Type 0
Allows Untyped from to = ⊥
Allows (Fixed params results) from to = (from ≡ params) × (to ≡ results)
Allows (Stops params) from to = (below : Types) × (from ≡ params ++ below)
Allows Discards from to = (t : ValType) × (from ≡ t ∷ []) × (to ≡ [])
Allows Selects from to = (t : ValType) × (from ≡ I32 ∷ t ∷ t ∷ []) × (to ≡ t ∷ [])

-- an instruction in a sequence: it leaves the operands below untouched (Core 3.3.6)
pub record Moves (rule : Rule) (from to : Types) : Type 0 where
  pub taken : Types
  pub left : Types
  pub below : Types
  pub before : from ≡ taken ++ below
  pub after : to ≡ left ++ below
  pub allowed : Allows rule taken left

abbrev pub option_signature : Option FuncType → Option Signature
option_signature None = None
option_signature (Some f) = Some (signature_of f)

-- a block's type, by an index too (Core 2.0, 2.4.8 and 3.2.2)
abbrev pub block_type : Context → BlockType → Option Signature
block_type c Empty = Some (record { params = []; results = [] })
block_type c (Value t) = Some (record { params = []; results = t ∷ [] })
block_type c (Index i) = option_signature (slice_get c.types i)

-- a sequence takes the operands `from` to the operands `to`; without a second branch they stay
abbrev pub Typed : {sort : Sort} → Context → Part sort → Types → Types → Type 0
Typed c Nothing from to = from ≡ to
Typed c (Simple p rest) from to = (mid : Types) × Moves (rule_of c p) from mid × Typed c rest mid to
Typed c (Block type body rest) from to =
    (f : Signature) × (below : Types) × (block_type c type ≡ Some f) × (from ≡ f.params ++ below)
    × Typed (inside c f.results) body f.params f.results × Typed c rest (f.results ++ below) to
Typed c (Loop type body rest) from to =
    (f : Signature) × (below : Types) × (block_type c type ≡ Some f) × (from ≡ f.params ++ below)
    × Typed (inside c f.params) body f.params f.results × Typed c rest (f.results ++ below) to
Typed c (If type body other rest) from to =
    (f : Signature) × (below : Types) × (block_type c type ≡ Some f) × (from ≡ I32 ∷ f.params ++ below)
    × Typed (inside c f.results) body f.params f.results × Typed (inside c f.results) other f.params f.results
    × Typed c rest (f.results ++ below) to
Typed c (Else other) from to = Typed c other from to

-- a function's body: its label and its results are the function's (Core 3.4.1)
abbrev pub IsBody : Context → Seq → Type 0
IsBody c tree = Typed (inside c c.results) tree [] c.results
