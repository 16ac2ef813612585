use Rattle.rv_isa.proofs.SizeLaws.{steps_keep_sizes, runs_keep_sizes}
use Rattle.rv_isa.proofs.laws.size_law.Goals as goal

pub returns : goal.returns
returns c = record { step = steps_keep_sizes; run = runs_keep_sizes }
