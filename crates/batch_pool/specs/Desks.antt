-- What is known of the thread that reads, while it hands batches over.
use Rattle.std.specs.Prelude.{◌≡◌, ◌⊎◌, ℕ, ◌-◌, ◌<◌, ◌≤◌, true, List, [], ◌∷◌, ◌++◌, length, map, slice_index, All}
use Rattle.std.specs.Arc.{arc_value}
use Rattle.index_spaces.specs.Spaces.{Spaces}
use Rattle.result_cells.specs.Rooms.{Store}
use Rattle.body_cutter.specs.declared.batch.Batch.{Batch}
use Rattle.body_compiler.specs.declared.batch.row.Row.{Row}
use Rattle.batch_pool.specs.declared.ticket.Ticket.{Ticket}
use Rattle.batch_pool.specs.Hands.{Feeding}
use Rattle.body_compiler.specs.LowBatches.{IsLow}
use Rattle.batch_pool.specs.Queues.{puts}
use Rattle.body_compiler.specs.BatchRows.{IsRowOf, FitsBody}
use Rattle.batch_pool.specs.Working.{place_of, keys_of}
use Rattle.cancel_drain.specs.declared.view.View.{View}
use Rattle.cancel_drain.specs.Handles.{Site, Sitter}
use Rattle.cancel_drain.specs.Views.{publishes, IsAbove}
use Rattle.batch_pool.specs.declared.scope.desk.Desk.{Desk}
use Rattle.batch_pool.specs.Settling.{AreKept}

-- It feeds the board, runs no batch itself, and kept the tickets of all batches that it published; this is the last one's start
pub record IsDesk (c : Spaces) (board : Site) (d : Desk) : Type 0 where
  pub table : d.seat.table ≡ board.table
  pub feeder : d.seat.view.feeder ≡ true
  pub running : d.seat.view.running ≡ []
  pub kept : AreKept c board.functions d.seat.view.published d.kept.items
  pub last : 0 < length d.seat.view.published → slice_index d.seat.view.published (length d.seat.view.published - 1) ≡ d.last

-- A batch may be published next: it has a ticket, its number is the next one, its start is above the last one's, the board has room
-- for it, and each of its bodies has its function in the context
pub record IsNext (c : Spaces) (functions : ℕ) (d : Desk) (b : Batch) : Type 0 where
  pub low : IsLow b
  pub number : b.number ≡ length d.seat.view.published
  pub start : IsAbove d.seat.view.published b.start
  pub place : b.number < functions
  pub bodies : All (FitsBody c) b.bodies

-- a ticket of the module's batch was put into the queue; or nothing was, since as many as it was made for were put before
abbrev pub PutsIn : ℕ → Feeding → Batch → Feeding → Type 0
PutsIn m f b f' = ((t : Ticket) × (arc_value t.batch ≡ b) × (t.module ≡ m) × (f' ≡ record f { view = puts f.view (t ∷ []) })) ⊎ ((f' ≡ f) × (f.room ≤ length f.view.put))

-- the batch was published after the others, its ticket was kept after theirs, and one was put into the queue where it has room
pub record Hands (d : Desk) (f : Feeding) (b : Batch) (d' : Desk) (f' : Feeding) : Type 0 where
  pub of : d'.module ≡ d.module
  pub seat : d'.seat ≡ record d.seat { view = publishes d.seat.view b.start }
  pub ticket : Ticket
  pub batch : arc_value ticket.batch ≡ b
  pub kept : d'.kept.items ≡ d.kept.items ++ ticket ∷ []
  pub last : d'.last ≡ b.start
  pub feeder : PutsIn d.module f b f'

-- nothing was done or reported at the desk
pub record IsIdle (d d' : Desk) : Type 0 where
  pub done : d'.seat.view.done ≡ d.seat.view.done
  pub reported : d'.seat.view.reported ≡ d.seat.view.reported

-- nothing of the desk and of the queue has changed
pub record IsAsBefore (d : Desk) (f : Feeding) (d' : Desk) (f' : Feeding) : Type 0 where
  pub of : d'.module ≡ d.module
  pub seat : d'.seat ≡ d.seat
  pub feeder : f' ≡ f
  pub kept : d'.kept.items ≡ d.kept.items
  pub last : d'.last ≡ d.last

-- The last seat has what all others knew and as many parts as at first, the tickets are those of the batches that were published, and the
-- rows are right: they are those of the batches that were done since then, each once, and the errors that were reported are theirs
pub record HasRead (c : Spaces) (cells : Store) (board : Site) (first : View) (seat : Sitter) (kept : List Ticket) (rows : List Row) : Type 0 where
  pub table : seat.table ≡ board.table
  pub feeder : seat.view.feeder ≡ true
  pub running : seat.view.running ≡ []
  pub all : seat.view.parts ≡ first.parts
  pub tickets : AreKept c board.functions seat.view.published kept
  pub right : All (IsRowOf c cells) rows
  pub done : seat.view.done ≡ first.done ++ map place_of rows
  pub reported : seat.view.reported ≡ first.reported ++ keys_of rows
