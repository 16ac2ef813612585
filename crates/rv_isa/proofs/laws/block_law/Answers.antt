use Rattle.rv_isa.proofs.RunLaws.{blocks_run, blocks_keep}
use Rattle.rv_isa.proofs.laws.block_law.Goals as goal

pub returns : goal.returns
returns c = record { run = blocks_run; keep = blocks_keep }
