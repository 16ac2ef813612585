use Rattle.result_cells.proofs.Kept.{begins}
use Rattle.result_cells.proofs.room.Room.new.Goals as goal

pub of_words-requires : goal.of_words-requires
of_words-requires c = begins _
