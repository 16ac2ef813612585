use Rattle.module_stream.proofs.Stopped.{fault_stays}
use Rattle.stream_compile.proofs.laws.faults_stay.Goals as goal

pub returns : goal.returns
returns c = λ bytes more r f other. fault_stays bytes more r f other
