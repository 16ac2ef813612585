use Rattle.module_stream.proofs.Stopped.{ended_is_owed}
use Rattle.stream_compile.proofs.laws.ended_is_owed.Goals as goal

pub returns : goal.returns
returns c = λ bytes r f k. ended_is_owed bytes r f k
