-- What a source over pieces has given and has still to give.
use Rattle.std.specs.Prelude.{ℕ, ◌≡◌, ◌+◌, ◌-◌, ◌<◌, ◌≤◌, List, [], ◌∷◌, Option, drop, length, slice_index, Vec}
use Rattle.std.specs.Global.{Global}
use Rattle.std.specs.List.{flat_map}
use Rattle.std.specs.Option.{ForSome}
use Rattle.io_edges.specs.Causes.{one_more}
use Rattle.io_edges.specs.declared.source.Got.{Got}
use Rattle.io_edges.specs.declared.source.Got.TheVariants.{Bytes, End, Failed}

pub record PiecesState : Type 0 where
  -- the bytes of all pieces
  pub whole : List ℕ
  -- where each piece ends in them
  pub ends : List ℕ
  -- how many bytes were given
  pub given : ℕ
  -- after how many bytes each read fails
  pub fails_at : Option ℕ
  pub faults : ℕ

abbrev pub bytes_left : PiecesState → List ℕ
bytes_left s = drop s.given s.whole

-- where each piece ends, if the first begins at an offset
abbrev pub ends_from : ℕ → List (Vec ℕ Global) → List ℕ
ends_from from [] = []
ends_from from (piece ∷ pieces) = (from + length piece.items) ∷ ends_from (from + length piece.items) pieces

-- before the first read
abbrev pub at_start : List (Vec ℕ Global) → Option ℕ → PiecesState
at_start pieces fails_at = record { whole = flat_map (λ piece. piece.items) pieces; ends = ends_from 0 pieces; given = 0; fails_at = fails_at; faults = 0 }

-- after a read that was answered so
abbrev pub after_read : Got → PiecesState → PiecesState
after_read (Bytes n) s = record s { given = s.given + n }
after_read End s = s
after_read Failed s = record s { faults = one_more s.faults }

-- what the offsets of a source over pieces keep
pub record IsPlaced (whole ends : List ℕ) (piece given : ℕ) (fails_at : Option ℕ) : Type 0 where
  pub within : given ≤ length whole
  pub limit : ForSome fails_at (λ most. given ≤ most)
  -- the last piece ends where the bytes do
  pub last : slice_index ends (length ends - 1) ≡ length whole
  pub ordered : (i j : ℕ) → i ≤ j → j < length ends → slice_index ends i ≤ slice_index ends j
  -- the pieces before this one are given
  pub passed : (i : ℕ) → i < piece → slice_index ends i ≤ given
