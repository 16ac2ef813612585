-- Where the traps among a function's instruction words are. A trap is an ECALL after the operation that gives a7 the number of
-- traps.
use Rattle.std.specs.Prelude.{ℕ, ◌+◌, ◌≤◌, ◌==◌, ◌&&◌, Bool, true, false, List, [], ◌∷◌, if◌then◌else◌}
use Rattle.rv_isa.specs.declared.compiled.TrapSite.{TrapSite}
use Rattle.rv_isa.specs.declared.operations.ImmOp.TheVariants.{Addi}
use Rattle.rv_isa.specs.declared.operations.Op.{Op}
use Rattle.rv_isa.specs.declared.operations.Op.TheVariants.{Imm, Ecall}
use Rattle.wasm_defs.specs.declared.types.ValType.{ValType}
use Rattle.wasm_defs.specs.declared.types.ValType.TheVariants.{I32, I64}
use Rattle.wasm_defs.specs.declared.operation.Operation.{Operation}
use Rattle.wasm_defs.specs.declared.operation.Operation.TheVariants.{Binary}
use Rattle.wasm_defs.specs.declared.operation.BinaryOp.{BinaryOp}
use Rattle.wasm_defs.specs.declared.operation.BinaryOp.TheVariants.{DivS, DivU, RemS, RemU}
use Rattle.wasm_defs.specs.declared.token.BulkOp.{BulkOp}
use Rattle.wasm_defs.specs.declared.token.BulkOp.TheVariants.{Fill, Copy, Init}
use Rattle.wasm_defs.specs.declared.token.Plain.{Plain}
use Rattle.wasm_defs.specs.declared.token.Plain.TheVariants.{Unreachable, CallIndirect, Load, Store, Bulk, Numeric}
use Rattle.frame_layout.specs.Macros.{x0, a7}

-- ---- among any operations

-- a7 gets the number of traps
abbrev pub is_number : Op → Bool
is_number (Imm Addi rd rs1 imm) = rd == a7 && (rs1 == x0 && imm == 1)
is_number op = false

abbrev pub is_call : Op → Bool
is_call Ecall = true
is_call op = false

-- the indices of the traps, where the first operation is at an index, and the one before it gives a7 that number or not
abbrev pub found : (asks : Bool) → (here : ℕ) → List Op → List ℕ
found asks here [] = []
found asks here (op ∷ ops) =
    let more = found (is_number op) (here + 1) ops in
    if asks && is_call op then here ∷ more else more

abbrev pub traps_in : List Op → List ℕ
traps_in ops = found false 0 ops

-- ---- among those of each instruction: the law of traps says that these are all

-- by zero; and of a signed division also where the quotient can't be represented
abbrev pub overflow_place : ValType → ℕ
overflow_place I32 = 16
overflow_place I64 = 17

abbrev pub division_places : ValType → BinaryOp → List ℕ
division_places t DivS = 9 ∷ overflow_place t ∷ []
division_places t DivU = 9 ∷ []
division_places t RemS = 9 ∷ []
division_places t RemU = 9 ∷ []
division_places t op = []

abbrev pub operation_places : Operation → List ℕ
operation_places (Binary t op) = division_places t op
operation_places op = []

-- the end of the memory comes first, or the end of the source
abbrev pub bulk_places : BulkOp → List ℕ
bulk_places Fill = 14 ∷ []
bulk_places Copy = 19 ∷ 24 ∷ []
bulk_places (Init x) = 22 ∷ 27 ∷ []

-- an indirect call: past the table, of a row without a function, of a function of another type
abbrev pub trap_places : Plain → List ℕ
trap_places Unreachable = 2 ∷ []
trap_places (CallIndirect i table) = 13 ∷ 20 ∷ 30 ∷ []
trap_places (Load o m) = 15 ∷ []
trap_places (Store o m) = 15 ∷ []
trap_places (Bulk op) = bulk_places op
trap_places (Numeric op) = operation_places op
trap_places p = []

-- and where the stack has no room, at the beginning of a function or of an import's stub
abbrev pub room_trap : ℕ
room_trap = 9

-- ---- as they are noted

-- the trap of a word after an index, with its offset in the module
abbrev pub site_at : (here offset word : ℕ) → TrapSite
site_at here offset word = record { place = here + word; offset = offset }

-- ---- no trap's words are those of another: each has three, of which the ECALL is the last

-- the traps' words are from one index on, one after the other, and before another
abbrev pub AreSpaced : (from : ℕ) → List ℕ → (to : ℕ) → Type 0
AreSpaced from [] to = from ≤ to
AreSpaced from (p ∷ ps) to = (from + 2 ≤ p) × AreSpaced (p + 1) ps to
