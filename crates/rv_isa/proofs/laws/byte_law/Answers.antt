use Rattle.rv_isa.proofs.ByteLaws.{written_is_read, above_stays, below_stays}
use Rattle.rv_isa.proofs.laws.byte_law.Goals as goal

pub returns : goal.returns
returns c = record { same = written_is_read; above = above_stays; below = below_stays }
