-- What the rows of the tables of opcodes say: each states its opcode, and the type of its instruction (WebAssembly Core 2.0, 3.3.1 and 3.3.7).
use Rattle.std.specs.Prelude.{◌≡◌, ℕ, zero, suc, ◌-◌, List, [], ◌∷◌, Some, slice_get, option_map}
use Rattle.wasm_defs.specs.declared.operation.Operation.{Operation}
use Rattle.wasm_defs.specs.declared.operation.LoadOp.{LoadOp}
use Rattle.wasm_defs.specs.declared.operation.StoreOp.{StoreOp}
use Rattle.wasm_defs.specs.declared.opcodes.TheConstants.{OPERATION_CODES, OPERATION_TYPES, ACCESS_CODES, ACCESS_TYPES}
use Rattle.wasm_defs.specs.Opcodes.{operation_code, load_code, store_code}
use Rattle.wasm_defs.specs.Typing.{signature_in, operated, load_type, load_alignment, store_type, store_alignment}

-- so many numbers, from n upward
abbrev pub upward : (n count : ℕ) → List ℕ
upward n zero = []
upward n (suc count) = n ∷ upward (suc n) count

-- the opcodes that the rows state are in order
abbrev pub OperationsAreInOrder : Type 0
OperationsAreInOrder = OPERATION_CODES ≡ upward 0x45 128

abbrev pub AccessesAreInOrder : Type 0
AccessesAreInOrder = ACCESS_CODES ≡ upward 0x28 23

-- the row at an operation's opcode has its type
abbrev pub OperationHasType : Operation → Type 0
OperationHasType op = option_map (option_map signature_in) (slice_get OPERATION_TYPES (operation_code op - 0x45)) ≡ Some (Some (operated op))

abbrev pub LoadHasType : LoadOp → Type 0
LoadHasType op = slice_get ACCESS_TYPES (load_code op - 0x28) ≡ Some (Some (record { value = load_type op; alignment = load_alignment op }))

abbrev pub StoreHasType : StoreOp → Type 0
StoreHasType op = slice_get ACCESS_TYPES (store_code op - 0x28) ≡ Some (Some (record { value = store_type op; alignment = store_alignment op }))
