use Rattle.many_streams.proofs.Feeding.{judged_already, ended_judged, open_so}
use Rattle.many_streams.proofs.member.Member.end.Goals as goal

pub returns-then-is_some : goal.returns-then-is_some
returns-then-is_some c = λ keeps came i. open_so keeps came c.args.self.now c.in-Open.part c.in-Open.is i

pub returns-in_ok-answer-in-Open : goal.returns-in_ok-answer-in-Open
returns-in_ok-answer-in-Open c = λ keeps came i.
    let o = open_so keeps came c.args.self.now c.in-Open.part c.in-Open.is i in
    ended_judged keeps came c.in_ok-answer-in-Open.answer (c.in_ok-answer-in-Open.ensures keeps came o.0 o.1)

pub returns-in-Refused : goal.returns-in-Refused
returns-in-Refused c = λ keeps came i. judged_already keeps came c.args.self.now c.in-Refused.field-0 c.in-Refused.is i
