-- What follows from the contracts of those that read, settle and close, for any caller.
use Rattle.std.specs.Prelude.{◌≡◌, ◌⊎◌, ℕ, ◌<◌, ◌≤◌, List, [], length, map, slice_index, All, Contains, Option, None, MatchOption}
use Rattle.wasm_defs.specs.declared.fault.Refusal.{Refusal}
use Rattle.index_spaces.specs.Spaces.{Spaces}
use Rattle.result_cells.specs.Rooms.{Store}
use Rattle.cancel_drain.specs.declared.view.View.{View}
use Rattle.cancel_drain.specs.Handles.{Site, Sitter}
use Rattle.cancel_drain.specs.Keys.{key_of}
use Rattle.cancel_drain.specs.Views.{times}
use Rattle.cancel_drain.specs.Closing.{IsClosed, IsSettled, IsFaultBefore}
use Rattle.body_compiler.specs.declared.batch.row.Row.{Row}
use Rattle.body_compiler.specs.BatchRows.{IsRowOf}
use Rattle.batch_pool.specs.declared.ticket.Ticket.{Ticket}
use Rattle.batch_pool.specs.Working.{Grows, place_of, keys_of}
use Rattle.batch_pool.specs.Desks.{HasRead}

-- how many of the rows are of the batch with this number and start
abbrev pub rows_at : ℕ → ℕ → List Row → ℕ
rows_at b s rows = times b s (map place_of rows)

-- a batch has one row; or it has none, and was drained, since an error before its start was reported
abbrev pub HasRow : View → Option Refusal → List Row → ℕ → Type 0
HasRow last least rows b =
    let s = slice_index last.published b in
    (rows_at b s rows ≡ 1) ⊎ ((rows_at b s rows ≡ 0) × (times b s last.drained ≡ 1) × IsFaultBefore least s)

-- all rows of the batches that were published
pub record AreComplete (c : Spaces) (cells : Store) (last : View) (least : Option Refusal) (rows : List Row) : Type 0 where
  pub right : All (IsRowOf c cells) rows
  pub each : (b : ℕ) → b < length last.published → HasRow last least rows b
  -- where no error was reported, no row is missing
  pub all : least ≡ None → (b : ℕ) → b < length last.published → rows_at b (slice_index last.published b) rows ≡ 1
  -- no other batch has a row
  pub only : (b s : ℕ) → 0 < rows_at b s rows → (b < length last.published) × (s ≡ slice_index last.published b)
  -- the least error is the least of the rows' errors
  pub is_least : MatchOption least (keys_of rows ≡ []) (λ r. Contains (keys_of rows) (key_of r) × All (λ key. key_of r ≤ key) (keys_of rows))

-- The rows are complete once those that workers made are joined with those of settling, and the board is closed: `run_beside` gives the
-- first clause and `settle` the others
abbrev pub RowsAreComplete : Type 0
RowsAreComplete =
    (c : Spaces) (cells : Store) (board : Site) (first last : View) (seat : Sitter) (kept : List Ticket) (made rows : List Row) (least : Option Refusal) (states : List ℕ)
    → (first.done ≡ []) × (first.reported ≡ [])
    → HasRead c cells board first seat kept made
    → Grows c cells seat.view last made rows
    → IsClosed board.functions last least states
    → ((b : ℕ) → b < length last.published → IsSettled last least b)
    → AreComplete c cells last least rows
