use Rattle.module_stream.proofs.Once.{fault_of_once}
use Rattle.stream_compile.proofs.laws.faults_share_no_offset.Goals as goal

pub returns : goal.returns
returns c = λ bytes r s f g e. fault_of_once bytes r s f g e
