use Rattle.std.proofs.Common.{Result, subst}
use Rattle.many_streams.specs.declared.streams.ManyStop.{ManyStop}
use Rattle.many_streams.specs.Rests.{HasArrived}
use Rattle.many_streams.proofs.working.work_beside.Goals as goal

pub returns-in-Ok-settle_all-clause-comes : goal.returns-in-Ok-settle_all-clause-comes
returns-in-Ok-settle_all-clause-comes g c = λ first before keeps a.
    let h = subst (λ (x : Result (Unit {0}) ManyStop). HasArrived first before (g.S.Source.left c.read_in_scope.new.source) (g.S.Source.faults c.read_in_scope.new.source) keeps c.args.members.now x c.in-Some.unsettled.rest) c.in-Ok.is
    (c.in-Some.ensures.arrived first before keeps a) in (h.count, h.comes)

pub returns-in-Err-clause-comes : goal.returns-in-Err-clause-comes
returns-in-Err-clause-comes g c = λ first before keeps a.
    (subst (λ (x : Result (Unit {0}) ManyStop). HasArrived first before (g.S.Source.left c.read_in_scope.new.source) (g.S.Source.faults c.read_in_scope.new.source) keeps c.args.members.now x c.in-Some.unsettled.rest) c.in-Err.is
    (c.in-Some.ensures.arrived first before keeps a)).comes
