-- Cells and room, as contracts see them.
use Rattle.std.specs.Prelude.{ℕ, List}
use Rattle.atomic_table.specs.Seated.{TableId}

-- room: which one it is, and for how many instruction words it was made
pub record Site : Type 0 where
  pub table : TableId
  pub most : ℕ

-- so many instruction words of that room were taken
pub record Reserved : Type 0 where
  pub room : TableId
  pub words : ℕ

-- so many instruction words are left in that room, of which so many were taken before
pub record Short : Type 0 where
  pub room : TableId
  pub left : ℕ
  pub taken : ℕ

-- cells, by their names, and the room for their codes
pub record Store : Type 0 where
  pub names : List ℕ
  pub room : Site
