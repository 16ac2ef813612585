use Rattle.std.proofs.Common.{None}
use Rattle.source_reading.proofs.Arriving.{none_given}
use Rattle.source_reading.proofs.reading.read_to_end.Goals as goal

pub returns-clause-settled : goal.returns-clause-settled
returns-clause-settled g c = λ first before low a. c.in-Some.ensures.reads None first before (none_given _) a low
