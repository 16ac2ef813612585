-- Limits that locals, bodies, tables, memories and globals keep to, and functions that exports name (WebAssembly Core 1.0, 3.2.2,
-- 3.4.10, 4.5.3 and 5.5.13).
use Rattle.std.specs.Prelude.{◌≡◌, ◌≤◌, ◌<◌, ℕ, ℤ, List, [], ◌∷◌, length, FitsSigned, IsSome, slice_get}
use Rattle.std.specs.Int.{w32, w64}
use Rattle.wasm_defs.specs.declared.item.Item.{Item}
use Rattle.wasm_defs.specs.declared.item.Item.TheVariants.{Global, Imported}
use Rattle.wasm_defs.specs.declared.types.FuncType.{FuncType}
use Rattle.wasm_defs.specs.declared.types.ValType.{ValType}
use Rattle.wasm_defs.specs.declared.types.ValType.TheVariants.{I32, I64}
use Rattle.wasm_defs.specs.Bodies.{Group}
use Rattle.wasm_defs.specs.Faults.{read_of}
use Rattle.wasm_defs.specs.Context.{data_count_of, declared_types, type_or_empty}
use Rattle.wasm_defs.specs.Entries.{or_zero}
use Rattle.wasm_defs.specs.Limits.{max_entries, max_locals, max_body, max_table, max_pages}
use Rattle.wasm_defs.specs.Instances.{rows_of, pages_of, cap_of, values_of}
use Rattle.wasm_defs.specs.Outside.{Body}
use Rattle.wasm_defs.specs.Typing.{Context, function_type}

-- locals that are declared
abbrev pub LocalsAreFew : List Group → Type 0
LocalsAreFew groups = length (declared_types groups) ≤ max_locals

-- a body's bytes, and its locals
pub record BodyIsSmall (b : Body) : Type 0 where
  pub least : 2 ≤ length b.bytes
  pub most : length b.bytes ≤ max_body
  pub locals : LocalsAreFew (read_of b).groups

abbrev pub BodiesAreSmall : List Body → Type 0
BodiesAreSmall [] = Unit {0}
BodiesAreSmall (b ∷ bodies) = BodyIsSmall b × BodiesAreSmall bodies

-- the rows of the table, the pages of the memory at first and at most, the globals that are declared, and the data count
pub record SpacesAreSmall (items : List Item) : Type 0 where
  pub rows : rows_of items ≤ max_table
  pub pages : pages_of items ≤ cap_of items
  pub cap : cap_of items ≤ max_pages
  pub globals : length (values_of items) ≤ max_entries
  pub segments : or_zero (data_count_of items) ≤ max_entries

-- a signed number of a type's bits
abbrev pub FitsType : ValType → ℤ → Type 0
FitsType I32 n = FitsSigned w32 n
FitsType I64 n = FitsSigned w64 n

-- the constants of globals are numbers of their types
abbrev pub ConstantsFit : List Item → Type 0
ConstantsFit [] = Unit {0}
ConstantsFit (Global ty mutable init ∷ xs) = FitsType ty.1 init.value.1 × ConstantsFit xs
ConstantsFit (_ ∷ xs) = ConstantsFit xs

-- an export's function is there, and so is its type
pub record IsThere (c : Context) (functions index : ℕ) : Type 0 where
  pub function : index < functions
  pub typed : IsSome (function_type c index)

-- so of each of these exports, names and indices
abbrev pub AreThere : Context → ℕ → List (List ℕ × ℕ) → Type 0
AreThere c functions [] = Unit {0}
AreThere c functions (e ∷ es) = IsThere c functions e.1 × AreThere c functions es

-- a function without parameters and results
pub record TakesNothing (f : FuncType) : Type 0 where
  pub params : f.params ≡ []
  pub results : f.results ≡ []

-- each import's type has one result at most
abbrev pub ImportsReturnOne : List FuncType → List Item → Type 0
ImportsReturnOne types [] = Unit {0}
ImportsReturnOne types (Imported from what kind type_index ∷ xs) = (length (type_or_empty (slice_get types type_index.1)).results ≤ 1) × ImportsReturnOne types xs
ImportsReturnOne types (_ ∷ xs) = ImportsReturnOne types xs
