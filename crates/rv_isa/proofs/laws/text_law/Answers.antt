use Rattle.rv_isa.proofs.RunLaws.{words_stand}
use Rattle.rv_isa.proofs.laws.text_law.Goals as goal

pub returns : goal.returns
returns c = words_stand
