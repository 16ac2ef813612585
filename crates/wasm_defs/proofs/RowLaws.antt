-- What the rows of the tables of opcodes state is so: by one clause for the first of a sort, and one for all others.
use Rattle.std.proofs.Common.{◌≡◌, refl}
use Rattle.wasm_defs.specs.declared.types.ValType.TheVariants.{I32, I64}
use Rattle.wasm_defs.specs.declared.operation.UnaryOp.{UnaryOp}
use Rattle.wasm_defs.specs.declared.operation.UnaryOp.TheVariants.{Clz}
use Rattle.wasm_defs.specs.declared.operation.BinaryOp.{BinaryOp}
use Rattle.wasm_defs.specs.declared.operation.BinaryOp.TheVariants.{Add}
use Rattle.wasm_defs.specs.declared.operation.CompareOp.{CompareOp}
use Rattle.wasm_defs.specs.declared.operation.CompareOp.TheVariants.{Eq}
use Rattle.wasm_defs.specs.declared.operation.ConvertOp.{ConvertOp}
use Rattle.wasm_defs.specs.declared.operation.ConvertOp.TheVariants.{Wrap}
use Rattle.wasm_defs.specs.declared.operation.ExtendOp.{ExtendOp}
use Rattle.wasm_defs.specs.declared.operation.ExtendOp.TheVariants.{I32Extend8S}
use Rattle.wasm_defs.specs.declared.operation.LoadOp.{LoadOp}
use Rattle.wasm_defs.specs.declared.operation.LoadOp.TheVariants.{I32Load}
use Rattle.wasm_defs.specs.declared.operation.StoreOp.{StoreOp}
use Rattle.wasm_defs.specs.declared.operation.StoreOp.TheVariants.{I32Store}
use Rattle.wasm_defs.specs.declared.operation.Operation.{Operation}
use Rattle.wasm_defs.specs.declared.operation.Operation.TheVariants.{Unary, Test, Binary, Compare, Convert, Extend}
use Rattle.wasm_defs.specs.Opcodes.{operation_code, load_code, store_code, row_type}
use Rattle.wasm_defs.specs.Typing.{signature_in, operated}
use Rattle.wasm_defs.specs.Rows.{OperationsAreInOrder, AccessesAreInOrder, OperationHasType, LoadHasType, StoreHasType}

pub operations_in_order : OperationsAreInOrder
operations_in_order = refl

pub accesses_in_order : AccessesAreInOrder
accesses_in_order = refl

unary_typed : (op : UnaryOp) → OperationHasType (Unary I32 op) × OperationHasType (Unary I64 op)
unfolding operation_code
unary_typed Clz = (refl, refl)
unary_typed op = (refl, refl)

binary_typed : (op : BinaryOp) → OperationHasType (Binary I32 op) × OperationHasType (Binary I64 op)
unfolding operation_code
binary_typed Add = (refl, refl)
binary_typed op = (refl, refl)

compare_typed : (op : CompareOp) → OperationHasType (Compare I32 op) × OperationHasType (Compare I64 op)
unfolding operation_code
compare_typed Eq = (refl, refl)
compare_typed op = (refl, refl)

convert_typed : (op : ConvertOp) → OperationHasType (Convert op)
unfolding operation_code
convert_typed Wrap = refl
convert_typed op = refl

extend_typed : (op : ExtendOp) → OperationHasType (Extend op)
unfolding operation_code
extend_typed I32Extend8S = refl
extend_typed op = refl

pub operation_typed : (op : Operation) → OperationHasType op
unfolding operation_code
operation_typed (Test I32) = refl
operation_typed (Test I64) = refl
operation_typed (Unary I32 op) = (unary_typed op).0
operation_typed (Unary I64 op) = (unary_typed op).1
operation_typed (Binary I32 op) = (binary_typed op).0
operation_typed (Binary I64 op) = (binary_typed op).1
operation_typed (Compare I32 op) = (compare_typed op).0
operation_typed (Compare I64 op) = (compare_typed op).1
operation_typed (Convert op) = convert_typed op
operation_typed (Extend op) = extend_typed op

pub load_typed : (op : LoadOp) → LoadHasType op
unfolding load_code
load_typed I32Load = refl
load_typed op = refl

pub store_typed : (op : StoreOp) → StoreHasType op
unfolding store_code
store_typed I32Store = refl
store_typed op = refl

-- ---- a numeric instruction has the type of its row

unary_row : (op : UnaryOp) → (operated (Unary I32 op) ≡ signature_in (row_type (Unary I32 op))) × (operated (Unary I64 op) ≡ signature_in (row_type (Unary I64 op)))
unary_row Clz = (refl, refl)
unary_row op = (refl, refl)

binary_row : (op : BinaryOp) → (operated (Binary I32 op) ≡ signature_in (row_type (Binary I32 op))) × (operated (Binary I64 op) ≡ signature_in (row_type (Binary I64 op)))
binary_row Add = (refl, refl)
binary_row op = (refl, refl)

compare_row : (op : CompareOp) → (operated (Compare I32 op) ≡ signature_in (row_type (Compare I32 op))) × (operated (Compare I64 op) ≡ signature_in (row_type (Compare I64 op)))
compare_row Eq = (refl, refl)
compare_row op = (refl, refl)

extend_row : (op : ExtendOp) → operated (Extend op) ≡ signature_in (row_type (Extend op))
extend_row I32Extend8S = refl
extend_row op = refl

pub operated_row : (op : Operation) → operated op ≡ signature_in (row_type op)
operated_row (Test I32) = refl
operated_row (Test I64) = refl
operated_row (Unary I32 op) = (unary_row op).0
operated_row (Unary I64 op) = (unary_row op).1
operated_row (Binary I32 op) = (binary_row op).0
operated_row (Binary I64 op) = (binary_row op).1
operated_row (Compare I32 op) = (compare_row op).0
operated_row (Compare I64 op) = (compare_row op).1
operated_row (Convert op) = refl
operated_row (Extend op) = extend_row op
