-- The table of an instance (WebAssembly Core 1.0, 4.2.7) in a running image.
use Rattle.std.specs.Prelude.{◌≡◌, ℕ, ◌^◌, ◌<◌, [], length, Option, None, Some, slice_get}
use Rattle.rv_isa.specs.Steps.{Bytes}
use Rattle.wasm_defs.specs.declared.types.FuncType.{FuncType}
use Rattle.wasm_defs.specs.Context.{first_like}
use Rattle.wasm_defs.specs.Configurations.{Function, type_of, Instance}
use Rattle.simulation.specs.TableLaws.{TableStands}
use Rattle.simulation.specs.Functions.{TextPlaces}

-- a function that isn't there is taken to have no parameters and no result
abbrev pub type_in : Option Function → FuncType
type_in None = record { params = []; results = [] }
type_in (Some f) = type_of f

-- the least index of a type that equals the type of a function
abbrev pub like_in : Instance → (function : ℕ) → ℕ
like_in inst f = first_like inst.context.types (type_in (slice_get inst.functions f))

-- The rows are in the table's region, each with its function's address and the index that its type has. Their functions are there,
-- and indices of types have 32 bits.
pub record TableHolds (inst : Instance) (places : TextPlaces) (b : Bytes) : Type 0 where
  pub rows : TableStands inst.table places.function (like_in inst) b
  pub functions : (a f : ℕ) → slice_get inst.table a ≡ Some (Some f) → (h : Function) × (slice_get inst.functions f ≡ Some h)
  pub few_types : length inst.context.types < 2 ^ 32
