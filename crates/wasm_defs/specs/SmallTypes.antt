-- Types that keep the limits of this implementation: their parameters, and their results.
use Rattle.std.specs.Prelude.{◌≤◌, List, [], ◌∷◌, length}
use Rattle.wasm_defs.specs.declared.types.FuncType.{FuncType}
use Rattle.wasm_defs.specs.Limits.{max_params, max_results}

-- a type's parameters, and its results
pub record TypeIsSmall (f : FuncType) : Type 0 where
  pub params : length f.params ≤ max_params
  pub results : length f.results ≤ max_results

abbrev pub TypesAreSmall : List FuncType → Type 0
TypesAreSmall [] = Unit {0}
TypesAreSmall (f ∷ fs) = TypeIsSmall f × TypesAreSmall fs
