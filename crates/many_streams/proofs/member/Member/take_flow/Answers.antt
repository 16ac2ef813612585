use Rattle.std.proofs.Common.{rules, ◌≡◌, ◌∙◌, Option, None, sym, ap, refl, true≢false}
use Rattle.std.specs.Prelude.{is_some}
use Rattle.many_streams.specs.declared.intake.Intake.{Intake}
use Rattle.many_streams.proofs.member.Member.take_flow.Goals as goal

pub returns-in_ok-intake-in-Open-clause-lent : goal.returns-in_ok-intake-in-Open-clause-lent
returns-in_ok-intake-in-Open-clause-lent c = (_, refl)

pub returns-in_err-intake-in-Open-clause-lent : goal.returns-in_err-intake-in-Open-clause-lent
returns-in_err-intake-in-Open-clause-lent c =
    let none : c.in-Open.part.intake ≡ None = search rules in
    absurd (true≢false (sym (c.requires c.in-Open.part c.in-Open.is) ∙ ap (λ (o : Option Intake). is_some o) none))
