-- What a worker makes of the tickets of several modules.
use Rattle.std.specs.Prelude.{◌≡◌, ◌⊎◌, ◌<◌, ℕ, ◌+◌, Bool, false, List, [], ◌++◌, length, slice_get, Some, All, Contains}
use Rattle.std.specs.Arc.{arc_value}
use Rattle.body_compiler.specs.declared.batch.row.Row.{Row}
use Rattle.batch_pool.specs.declared.ticket.Ticket.{Ticket}
use Rattle.batch_pool.specs.declared.lanes.lane.Lane.{Lane}
use Rattle.batch_pool.specs.declared.lanes.lane.LaneSeat.{LaneSeat}
use Rattle.batch_pool.specs.declared.lanes.lane.LaneDesk.{LaneDesk}
use Rattle.batch_pool.specs.Desks.{IsDesk, IsIdle, HasRead}
use Rattle.batch_pool.specs.Gathering.{IsFresh, Gathers}
use Rattle.batch_pool.specs.Working.{Grows, Fits, IsServed, AddsRowOf}

-- a seat at each lane's board
pub record AreSeated (lanes : List Lane) (seats : List LaneSeat) : Type 0 where
  pub count : length seats ≡ length lanes
  pub tables : (k : ℕ) (l : Lane) (s : LaneSeat) → slice_get lanes k ≡ Some l → slice_get seats k ≡ Some s → s.seat.table ≡ l.board.table

-- no two lanes are of one module
abbrev pub AreApart : List Lane → Type 0
AreApart lanes = (j k : ℕ) (l m : Lane) → slice_get lanes j ≡ Some l → slice_get lanes k ≡ Some m → l.module ≡ m.module → j ≡ k

-- the k-th lane is of this module
abbrev pub IsOfLane : List Lane → ℕ → ℕ → Type 0
IsOfLane lanes m k = (l : Lane) × (slice_get lanes k ≡ Some l) × (l.module ≡ m)

-- of each lane, and its seat or desk before and after
abbrev pub Each : {S : Type 0} → (Lane → S → S → Type 0) → List Lane → List S → List S → Type 0
Each {S} P lanes old new = (k : ℕ) (l : Lane) (s t : S) → slice_get lanes k ≡ Some l → slice_get old k ≡ Some s → slice_get new k ≡ Some t → P l s t

-- at one lane's seat rows were made under its context and cells, as a worker on that lane alone makes them
pub record Works (l : Lane) (s t : LaneSeat) : Type 0 where
  pub table : t.seat.table ≡ s.seat.table
  pub grows : Grows l.context.now l.cells s.seat.view t.seat.view s.rows.items t.rows.items

-- the same batches run as before
abbrev pub Runs : Lane → LaneSeat → LaneSeat → Type 0
Runs l s t = t.seat.view.running ≡ s.seat.view.running

-- where the ticket is of the lane's module and fits there, it was served
abbrev pub Serves : Ticket → Lane → LaneSeat → LaneSeat → Type 0
Serves u l s t = u.module ≡ l.module → Fits l.context.now l.board.functions u → IsServed s.seat.view t.seat.view u

-- the rows are as before, or there is one more, of the ticket's batch, and the ticket is of the lane's module
abbrev pub AddsIn : Ticket → Lane → LaneSeat → LaneSeat → Type 0
AddsIn u l s t = (t.rows.items ≡ s.rows.items) ⊎ ((u.module ≡ l.module) × AddsRowOf u s.rows.items t.rows.items)

-- its batch is that of one of the module's tickets
abbrev pub IsOfModule : List Ticket → ℕ → Row → Type 0
IsOfModule tickets m row = (u : Ticket) × Contains tickets u × (u.module ≡ m) × (arc_value row.batch ≡ arc_value u.batch)

-- the rows that were added are of the tickets of the lane's module
abbrev pub AddsOf : List Ticket → Lane → LaneSeat → LaneSeat → Type 0
AddsOf tickets l s t = (more : List Row) × (t.rows.items ≡ s.rows.items ++ more) × All (IsOfModule tickets l.module) more

-- a worker that began with these seats gives these back, where it starved or not
pub record IsWorkedMany (lanes : List Lane) (old new : List LaneSeat) (starved : Bool) : Type 0 where
  pub seated : AreSeated lanes new
  pub works : Each Works lanes old new
  pub running : starved ≡ false → Each Runs lanes old new

-- a seat of each lane's board that was split off, with one part, where no row was made
pub record AreFresh (lanes : List Lane) (seats : List LaneSeat) : Type 0 where
  pub seated : AreSeated lanes seats
  pub fresh : (k : ℕ) (l : Lane) (s : LaneSeat) → slice_get lanes k ≡ Some l → slice_get seats k ≡ Some s → IsFresh l.board.table s.seat × (s.rows.items ≡ [])

-- a desk at the lane's board, of its module
abbrev pub IsDeskOf : Lane → LaneDesk → Type 0
IsDeskOf l d = IsDesk l.context.now l.board d.desk × (d.desk.module ≡ l.module)

-- a desk at each lane's board
pub record AreDesks (lanes : List Lane) (desks : List LaneDesk) : Type 0 where
  pub count : length desks ≡ length lanes
  pub each : (k : ℕ) (l : Lane) (d : LaneDesk) → slice_get lanes k ≡ Some l → slice_get desks k ≡ Some d → IsDeskOf l d

-- no row was gathered there
abbrev pub HaveNoRows : List LaneDesk → Type 0
HaveNoRows desks = (k : ℕ) (d : LaneDesk) → slice_get desks k ≡ Some d → d.rows.items ≡ []

-- nothing of the desk has changed but its seat
abbrev pub IsAt : LaneDesk → LaneDesk → Type 0
IsAt d e = e.desk ≡ record d.desk { seat = e.desk.seat }

-- at one lane's desk the rows of some workers were gathered, so many of whose parts were joined
pub record GathersIn (n : ℕ) (l : Lane) (d e : LaneDesk) : Type 0 where
  pub at : IsAt d e
  pub table : e.desk.seat.table ≡ d.desk.seat.table
  pub parts : e.desk.seat.view.parts ≡ d.desk.seat.view.parts + n
  pub gathers : Gathers l.context.now l.cells d.desk.seat.view e.desk.seat.view d.rows.items e.rows.items

-- while batches are handed over nothing is done or reported at a desk, no row is gathered, and no part is split off or joined
pub record Reads (l : Lane) (d e : LaneDesk) : Type 0 where
  pub idle : IsIdle d.desk e.desk
  pub parts : e.desk.seat.view.parts ≡ d.desk.seat.view.parts
  pub rows : e.rows.items ≡ d.rows.items

-- of one lane what the thread that reads one module has once it joined the workers
abbrev pub HasReadIn : Lane → LaneDesk → LaneDesk → Type 0
HasReadIn l d e = HasRead l.context.now l.cells l.board d.desk.seat.view e.desk.seat e.desk.kept.items e.rows.items

-- each desk's seat has more parts than so many, and their number is one of 64 bits
abbrev pub HaveParts : ℕ → List LaneDesk → Type 0
HaveParts n desks = (k : ℕ) (d : LaneDesk) → slice_get desks k ≡ Some d → (n < d.desk.seat.view.parts) × (d.desk.seat.view.parts < 18446744073709551616)

-- with so many more parts each seat's number of parts is one of 64 bits
abbrev pub HaveRoom : ℕ → List LaneDesk → Type 0
HaveRoom n desks = (k : ℕ) (d : LaneDesk) → slice_get desks k ≡ Some d → d.desk.seat.view.parts + n < 18446744073709551616
