-- Copies of types, by the indices of the types, that were made so far.
use Rattle.std.specs.Prelude.{◌≡◌, ℕ, List, Option, Some, slice_get}
use Rattle.wasm_defs.specs.declared.types.FuncType.{FuncType}

-- each copy that was made is the type of its index
abbrev pub AreOf : List FuncType → List (Option FuncType) → Type 0
AreOf types copies = (i : ℕ) (ty : FuncType) → slice_get copies i ≡ Some (Some ty) → slice_get types i ≡ Some ty
