use Rattle.many_streams.proofs.Feeding.{may_end, decided}
use Rattle.many_streams.proofs.member.Part.finish.Goals as goal

pub finish-requires : goal.finish-requires
finish-requires c = let r = c.requires.fed in may_end r.0 c.args.self.now r.1 c.requires.none

pub returns-clause-decides : goal.returns-clause-decides
returns-clause-decides c = λ came i. decided came c.args.self.now i c.requires.none c.finish.result c.finish.new.self c.finish.ensures.decides
