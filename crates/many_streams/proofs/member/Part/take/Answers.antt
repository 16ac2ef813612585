use Rattle.std.proofs.Common.{◌++◌, Option, subst}
use Rattle.many_streams.specs.declared.intake.Intake.{Intake}
use Rattle.many_streams.specs.Intakes.{Goes}
use Rattle.many_streams.proofs.member.Part.take.Goals as goal

pub compile-requires-clause-may : goal.compile-requires-clause-may
compile-requires-clause-may c =
    let r = c.requires in
    (r.0, r.1, subst (λ (o : Option Intake). Goes r.0 c.args.self.now.compilation o (c.args.part.now ++ r.1)) c.in-None.is r.2)

pub returns-in-None-clause-goes : goal.returns-in-None-clause-goes
returns-in-None-clause-goes c = λ bytes more g. c.compile.ensures.goes bytes more (subst (λ (o : Option Intake). Goes bytes c.args.self.now.compilation o (c.args.part.now ++ more)) c.in-None.is g)

pub returns-in-Ok-clause-goes : goal.returns-in-Ok-clause-goes
returns-in-Ok-clause-goes c = λ bytes more g.
    c.in-Ok.ensures bytes more c.args.self.now.compilation (subst (λ (o : Option Intake). Goes bytes c.args.self.now.compilation o (c.args.part.now ++ more)) c.in-Some.is g)
