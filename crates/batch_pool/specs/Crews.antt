-- Workers for several modules, in threads of their own.
use Rattle.std.specs.Prelude.{◌≡◌, List}
use Rattle.cancel_drain.specs.Views.{split_from}
use Rattle.batch_pool.specs.declared.lanes.lane.Lane.{Lane}
use Rattle.batch_pool.specs.declared.lanes.lane.LaneDesk.{LaneDesk}
use Rattle.batch_pool.specs.declared.lanes.crew.Crew.{Crew}
use Rattle.batch_pool.specs.Lanes.{AreFresh}

-- one part of the seat at a lane's desk was split off
abbrev pub Splits : Lane → LaneDesk → LaneDesk → Type 0
Splits l d e = (e.desk ≡ record d.desk { seat = record d.desk.seat { view = split_from d.desk.seat.view } }) × (e.rows.items ≡ d.rows.items)

-- a promise for these lanes, of seats that were split off
abbrev pub IsOfCrew : {L : Type 0} → (L → List Lane) → List Lane → Crew L → Type 0
IsOfCrew all lanes p = (all p.lanes.now ≡ lanes) × AreFresh lanes p.seats.value.items
