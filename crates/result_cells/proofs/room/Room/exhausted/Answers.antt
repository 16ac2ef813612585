use Rattle.std.proofs.Common.{rules}
use Rattle.result_cells.specs.Views.{seen_view}
use Rattle.result_cells.proofs.Kept.{looks_kept}
use Rattle.result_cells.proofs.room.Room.exhausted.Goals as goal

pub load_new_seat-left-requires : goal.load_new_seat-left-requires
load_new_seat-left-requires c = (search rules, looks_kept _ _ (seen_view 0))
