use Rattle.std.proofs.Common.{length}
use Rattle.many_streams.specs.Reading.{MayTake}
use Rattle.worker_tests.proofs.frames.error_of.Given as goal

abbrev pub invariant-loop-rest : goal.invariant-loop-rest
invariant-loop-rest l = MayTake l.reader

abbrev pub decreases-loop-rest : goal.decreases-loop-rest
decreases-loop-rest l = length l.rest
