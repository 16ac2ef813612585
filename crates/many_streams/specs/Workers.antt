-- What workers make of the bodies of modules.
use Rattle.std.specs.Prelude.{◌≡◌, ◌<◌, ℕ, ◌+◌, Bool, true, List, [], length, slice_get, nat_lt, All, Option, Some, Result, Ok, Err}
use Rattle.body_compiler.specs.BatchRows.{IsRowOf}
use Rattle.batch_pool.specs.declared.lanes.lane.Lane.{Lane}
use Rattle.batch_pool.specs.declared.lanes.lane.LaneDesk.{LaneDesk}
use Rattle.batch_pool.specs.Settling.{AreKept}
use Rattle.batch_pool.specs.Lanes.{AreApart, IsDeskOf}
use Rattle.many_streams.specs.declared.member.Part.{Part}
use Rattle.many_streams.specs.declared.member.Member.{Member}
use Rattle.many_streams.specs.declared.member.Member.TheVariants as member
use Rattle.many_streams.specs.declared.streams.ManyStop.{ManyStop}
use Rattle.many_streams.specs.declared.working.Made.{Made}
use Rattle.many_streams.specs.declared.working.Done.{Done}
use Rattle.many_streams.specs.Flows.{members_with}
use Rattle.many_streams.specs.Many.{AreEach, ComesToMany}
use Rattle.many_streams.specs.Members.{IsEnded, IsJudged, AreRowsOf}

-- the lane is of the open module of its number
abbrev pub IsLaneOf : List Member → Lane → Type 0
IsLaneOf members l = (p : Part) × (slice_get members l.module ≡ Some (member.Open p)) × (l.context.now ≡ p.compilation.spaces)

-- a lane's desk that fed its board, where nothing runs and all parts are joined, the tickets of all batches that were published there, and
-- right rows
pub record IsRead (l : Lane) (d : LaneDesk) : Type 0 where
  pub table : d.desk.seat.table ≡ l.board.table
  pub feeder : d.desk.seat.view.feeder ≡ true
  pub running : d.desk.seat.view.running ≡ []
  pub parts : d.desk.seat.view.parts ≡ l.board.seats
  pub kept : AreKept l.context.now l.board.functions d.desk.seat.view.published d.desk.kept.items
  pub right : All (IsRowOf l.context.now l.cells) d.rows.items

-- lanes of open modules, each with such a desk
pub record AreRead (members : List Member) (lanes : List Lane) (desks : List LaneDesk) : Type 0 where
  pub count : length desks ≡ length lanes
  pub of : (k : ℕ) (l : Lane) → slice_get lanes k ≡ Some l → IsLaneOf members l
  pub read : (k : ℕ) (l : Lane) (d : LaneDesk) → slice_get lanes k ≡ Some l → slice_get desks k ≡ Some d → IsRead l d

-- a desk where no row was gathered, with a part for each worker and one more
pub record IsNewDesk (workers : ℕ) (l : Lane) (d : LaneDesk) : Type 0 where
  pub of : IsDeskOf l d
  pub rows : d.rows.items ≡ []
  pub parts : d.desk.seat.view.parts ≡ workers + 1
  pub all : l.board.seats ≡ workers + 1

-- lanes of some of the modules before this one, each with such a desk
pub record AreOpened (workers : ℕ) (members : List Member) (count : ℕ) (lanes : List Lane) (desks : List LaneDesk) : Type 0 where
  pub desks_count : length desks ≡ length lanes
  pub of : (k : ℕ) (l : Lane) → slice_get lanes k ≡ Some l → IsLaneOf members l
  pub desks_are : (k : ℕ) (l : Lane) (d : LaneDesk) → slice_get lanes k ≡ Some l → slice_get desks k ≡ Some d → IsNewDesk workers l d
  pub below : (k : ℕ) (l : Lane) → slice_get lanes k ≡ Some l → l.module < count
  pub apart : AreApart lanes

-- for each module what was made of its bodies: rows that are right for them
abbrev pub AreMade : List Member → List Made → Type 0
AreMade members made = (length made ≡ length members) × ((k : ℕ) (m : Member) (x : Made) → slice_get members k ≡ Some m → slice_get made k ≡ Some x → AreRowsOf x.cells x.rows.items m)

-- modules that have ended come to these
abbrev pub AreSettled : List Member → List Member → Type 0
AreSettled members judged = (keeps : Bool) (list : List (List ℕ)) → AreEach (IsEnded keeps) list members → AreEach (IsJudged keeps) list judged

-- the rest of the input was read; or it comes to nothing
abbrev pub ComesBeside : Option (List ℕ) → ℕ → Option (List ℕ) → ℕ → Bool → List Member → Result Done ManyStop → Type 0
ComesBeside first before left now keeps members (Ok d) = (length d.flows.items ≡ length members) × ComesToMany (IsEnded keeps) (nat_lt before now) first left (Ok (members_with members d.flows.items))
ComesBeside first before left now keeps members (Err e) = ComesToMany {E = Member} (IsEnded keeps) (nat_lt before now) first left (Err e)
