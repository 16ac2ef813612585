-- The opcodes of operations, loads and stores, and their types, a row for each (WebAssembly Core 1.0, 5.4.4 and 5.4.5; sign extension:
-- Core 2.0, 5.4.7).
use Rattle.std.specs.Prelude.{ℕ, suc, Bool, false, ◌&&◌, ◌==◌, if◌then◌else◌, List, [], ◌∷◌, Option, None, Some}
use denote.Enum.Declared.{tag_of}
use Rattle.wasm_defs.specs.declared.types.ValType.{ValType}
use Rattle.wasm_defs.specs.declared.types.ValType.TheVariants.{I32}
use Rattle.wasm_defs.specs.declared.operation.Operation.{Operation}
use Rattle.wasm_defs.specs.declared.operation.Operation.TheVariants.{Unary, Test, Binary, Compare, Convert, Extend}
use Rattle.wasm_defs.specs.declared.operation.Operands.TheVariants.{One}
use Rattle.wasm_defs.specs.declared.operation.NumericType.{NumericType}
use Rattle.wasm_defs.specs.declared.operation.AccessType.{AccessType}
use Rattle.wasm_defs.specs.declared.operation.Access.{Access}
use Rattle.wasm_defs.specs.declared.operation.Access.TheVariants.{Load, Store}
use Rattle.wasm_defs.specs.declared.operation.LoadOp.{LoadOp}
use Rattle.wasm_defs.specs.declared.operation.StoreOp.{StoreOp}
use Rattle.wasm_defs.specs.declared.opcodes.TheConstants.{OPERATIONS, OPERATION_TYPES, ACCESSES, ACCESS_TYPES}
use Rattle.wasm_defs.specs.contracts.types.ValType as type
use Rattle.wasm_defs.specs.contracts.operation.UnaryOp as unary
use Rattle.wasm_defs.specs.contracts.operation.BinaryOp as binary
use Rattle.wasm_defs.specs.contracts.operation.CompareOp as compare
use Rattle.wasm_defs.specs.contracts.operation.ConvertOp as convert
use Rattle.wasm_defs.specs.contracts.operation.ExtendOp as extend
use Rattle.wasm_defs.specs.contracts.operation.LoadOp as load
use Rattle.wasm_defs.specs.contracts.operation.StoreOp as store

-- the operations of the opcodes from 0x45 to 0xC4; none where the opcode is one of floats
abbrev pub operations : List (Option Operation)
operations = OPERATIONS

-- the loads and stores of the opcodes from 0x28 to 0x3E; none where the opcode is one of floats
abbrev pub accesses : List (Option Access)
accesses = ACCESSES

-- ---- the opcode of an operation is that of its row

-- by the numbers of the variants, in the order of their enums
abbrev pub is_type : ValType → ValType → Bool
is_type t u = tag_of type.the_type t == tag_of type.the_type u

abbrev pub is_operation : Operation → Operation → Bool
is_operation (Unary t a) (Unary u b) = is_type t u && (tag_of unary.the_type a == tag_of unary.the_type b)
is_operation (Test t) (Test u) = is_type t u
is_operation (Binary t a) (Binary u b) = is_type t u && (tag_of binary.the_type a == tag_of binary.the_type b)
is_operation (Compare t a) (Compare u b) = is_type t u && (tag_of compare.the_type a == tag_of compare.the_type b)
is_operation (Convert a) (Convert b) = tag_of convert.the_type a == tag_of convert.the_type b
is_operation (Extend a) (Extend b) = tag_of extend.the_type a == tag_of extend.the_type b
is_operation a b = false

abbrev pub is_access : Access → Access → Bool
is_access (Load a) (Load b) = tag_of load.the_type a == tag_of load.the_type b
is_access (Store a) (Store b) = tag_of store.the_type a == tag_of store.the_type b
is_access a b = false

-- the number of the first row that is so, where the rows are counted from n on
abbrev pub row_that : {A : Type 0} → (A → Bool) → ℕ → List (Option A) → ℕ
row_that is n [] = n
row_that is n (None ∷ rows) = row_that is (suc n) rows
row_that is n (Some x ∷ rows) = if is x then n else row_that is (suc n) rows

unfoldable pub operation_code : Operation → ℕ
operation_code op = row_that (is_operation op) 0x45 operations

unfoldable pub load_code : LoadOp → ℕ
load_code op = row_that (is_access (Load op)) 0x28 accesses

unfoldable pub store_code : StoreOp → ℕ
store_code op = row_that (is_access (Store op)) 0x28 accesses

-- ---- the type of an operation, and what a load or store accesses, is what its row states

-- what a second list has where the first one has the first row that is so; where there is none, what is given
abbrev pub beside : {A B : Type 0} → (A → Bool) → B → List (Option A) → List (Option B) → B
beside is given [] values = given
beside is given (x ∷ rows) [] = given
beside is given (None ∷ rows) (y ∷ values) = beside is given rows values
beside is given (Some x ∷ rows) (None ∷ values) = beside is given rows values
beside is given (Some x ∷ rows) (Some y ∷ values) = if is x then y else beside is given rows values

-- each operation has a row, and each load and store, so these are no row's
abbrev no_type : NumericType
no_type = record { operands = One I32; result = I32 }

abbrev no_access : AccessType
no_access = record { value = I32; alignment = 0 }

abbrev pub row_type : Operation → NumericType
row_type op = beside (is_operation op) no_type operations OPERATION_TYPES

abbrev pub row_access : Access → AccessType
row_access a = beside (is_access a) no_access accesses ACCESS_TYPES
