use Rattle.std.proofs.Common.{subst}
use Rattle.std.proofs.lemmas.Result.{IfOk-weaker}
use Rattle.many_streams.specs.Members.{IsEnded, AreRowsOf}
use Rattle.many_streams.proofs.Feeding.{ended_open}
use Rattle.many_streams.proofs.member.Member.settle.Goals as goal

pub settle-requires-clause-fed : goal.settle-requires-clause-fed
settle-requires-clause-fed c =
    let r = c.requires.ended in
    (r.1, (ended_open r.0 r.1 c.args.self c.in-Open.part c.in-Open.is r.2).0)

pub settle-requires-clause-rows : goal.settle-requires-clause-rows
settle-requires-clause-rows c = subst (AreRowsOf c.args.cells.now c.args.rows.items) c.in-Open.is c.requires.rows

pub returns-in-Open : goal.returns-in-Open
returns-in-Open c =
    IfOk-weaker c.settle.result _ _
    (λ m judges keeps came i.
    let o = ended_open keeps came c.args.self c.in-Open.part c.in-Open.is i in
    judges keeps came o.0 o.1) c.settle.ensures

pub returns-in-Image : goal.returns-in-Image
returns-in-Image c = λ keeps came i. subst (IsEnded keeps came) c.in-Image.is i

pub returns-in-Valid : goal.returns-in-Valid
returns-in-Valid c = λ keeps came i. subst (IsEnded keeps came) c.in-Valid.is i

pub returns-in-Refused : goal.returns-in-Refused
returns-in-Refused c = λ keeps came i. subst (IsEnded keeps came) c.in-Refused.is i
