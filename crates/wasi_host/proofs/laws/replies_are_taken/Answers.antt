use Rattle.wasi_host.proofs.FittingLaws.{taken_or_exits}
use Rattle.wasi_host.proofs.laws.replies_are_taken.Goals as goal

pub returns : goal.returns
returns c = taken_or_exits
