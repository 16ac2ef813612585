use Rattle.std.proofs.Common.{ℕ, List, ◌++◌, Option, sym, subst, ◌∙◌}
use Rattle.many_streams.specs.declared.intake.Intake.{Intake}
use Rattle.many_streams.specs.Intakes.{Goes}
use Rattle.module_stream.specs.Streaming.{IsGoing}
use Rattle.many_streams.proofs.Feeding.{rest_of, all_or_bodies, took_all, stopped_so}
use Rattle.many_streams.proofs.member.Part.compile.Goals as goal

pub keep_bodies-requires-clause-all : goal.keep_bodies-requires-clause-all
keep_bodies-requires-clause-all c = λ none. rest_of c.in-Ok.taken c.args.part.now ∙ all_or_bodies c.args.part.now c.in-Ok.taken c.feed.new.self.cutter c.in-Ok.ensures.all.1 none

pub returns-then-waits-clause-goes : goal.returns-then-waits-clause-goes
returns-then-waits-clause-goes c = λ bytes more g.
    c.keep_bodies.ensures.goes bytes more (subst (λ (l : List ℕ). IsGoing bytes c.feed.new.self (l ++ more)) (sym (rest_of c.in-Ok.taken c.args.part.now)) (c.in-Ok.ensures.goes bytes more g))

pub returns-else-waits-clause-goes : goal.returns-else-waits-clause-goes
returns-else-waits-clause-goes c = λ bytes more g.
    subst (λ (o : Option Intake). Goes bytes c.feed.new.self o more) (sym c.requires.none)
    (took_all bytes c.args.part.now more c.in-Ok.taken c.feed.new.self (c.in-Ok.ensures.all.0 c.if-waits.false) (c.in-Ok.ensures.goes bytes more g))

pub returns-in-Err-clause-goes : goal.returns-in-Err-clause-goes
returns-in-Err-clause-goes c = λ bytes more g. stopped_so bytes c.args.part.now more c.in-Err.stop c.feed.new.self _ (c.in-Err.ensures.goes bytes more g)
