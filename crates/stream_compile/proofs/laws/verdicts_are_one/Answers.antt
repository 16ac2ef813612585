use Rattle.module_stream.proofs.Once.{verdict_once}
use Rattle.stream_compile.proofs.laws.verdicts_are_one.Goals as goal

pub returns : goal.returns
returns c = λ bytes v w p q. verdict_once bytes v w p q
