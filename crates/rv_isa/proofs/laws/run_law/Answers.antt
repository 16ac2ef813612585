use Rattle.rv_isa.proofs.RunLaws.{runs_go_on, calls_stay, faults_stay}
use Rattle.rv_isa.proofs.laws.run_law.Goals as goal

pub returns : goal.returns
returns c = record { go_on = runs_go_on; calls = calls_stay; faults = faults_stay }
