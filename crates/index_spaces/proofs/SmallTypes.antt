-- One more type that keeps the limits, after others that do.
use Rattle.std.proofs.Common.{List, [], ◌∷◌, ◌++◌}
use Rattle.wasm_defs.specs.declared.types.FuncType.{FuncType}
use Rattle.wasm_defs.specs.SmallTypes.{TypeIsSmall, TypesAreSmall}

pub small-push : (types : List FuncType) (ty : FuncType) → TypesAreSmall types → TypeIsSmall ty → TypesAreSmall (types ++ ty ∷ [])
small-push [] ty small here = (here, tt)
small-push (t ∷ ts) ty small here = (small.0, small-push ts ty small.1 here)
