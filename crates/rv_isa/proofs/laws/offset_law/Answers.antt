use Rattle.rv_isa.proofs.OffsetLaws.{parts_meet, parts_meet_down, loads_behind, stores_behind}
use Rattle.rv_isa.proofs.laws.offset_law.Goals as goal

pub returns : goal.returns
returns c = record { parts = parts_meet; parts_down = parts_meet_down; load = loads_behind; store = stores_behind }
