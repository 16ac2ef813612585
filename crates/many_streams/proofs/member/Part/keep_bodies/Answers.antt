use Rattle.std.proofs.Common.{◌≡◌, ◌++◌, Option, Some, None, sym, ap, subst, ◌∙◌, rules}
use Rattle.body_cutter.specs.Cuttings.{Cutting}
use Rattle.many_streams.specs.declared.intake.Intake.{Intake}
use Rattle.many_streams.specs.Intakes.{Goes}
use Rattle.many_streams.proofs.Intakes.{keeps_begun}
use Rattle.many_streams.proofs.Feeding.{kept_none}
use Rattle.many_streams.proofs.member.Part.keep_bodies.Goals as goal

pub returns-in_default-clause-goes : goal.returns-in_default-clause-goes
returns-in_default-clause-goes c = λ bytes more g.
    let s = c.args.self.now.compilation in
    let none : s.cutter ≡ None = search rules in
    subst (λ (o : Option Intake). Goes bytes c.take_cutter.new.self o more) (sym c.requires.none)
    (kept_none bytes c.args.piece.now more s c.take_cutter.new.self none c.take_cutter.ensures.rest (c.requires.all none) g)

pub returns-in-Ok-clause-goes : goal.returns-in-Ok-clause-goes
returns-in-Ok-clause-goes c = λ bytes more g.
    let i = c.new-intake.result in
    let some = sym c.take_cutter.ensures.cutter ∙ c.in-Some.is ∙ ap (λ (k : Cutting). Some k) (sym c.new-intake.ensures.cutter) in
    c.in-Ok.ensures bytes more c.take_cutter.new.self
    (keeps_begun bytes c.args.self.now.compilation c.take_cutter.new.self i (c.args.piece.now ++ more) some c.take_cutter.ensures.rest c.new-intake.ensures.kept c.new-intake.ensures.rest c.new-intake.ensures.error g)
