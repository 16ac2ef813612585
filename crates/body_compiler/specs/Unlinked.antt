-- The surroundings of a function before the link.
use Rattle.std.specs.Prelude.{◌≡◌, ℕ, List}
use Rattle.wasm_defs.specs.declared.types.FuncType.{FuncType}
use Rattle.wasm_defs.specs.Context.{like}
use Rattle.frame_layout.specs.Templates.{EmitContext}
use Rattle.frame_layout.specs.Functions.{no_distance}

-- in a module whose table has so many rows at first, and with these types; calls have no distances yet
pub record IsUnlinked (rows : ℕ) (types : List FuncType) (w : EmitContext) : Type 0 where
  pub near : w.distance_to ≡ no_distance
  pub rows_are : w.rows ≡ rows
  pub likes_are : w.like ≡ like types
