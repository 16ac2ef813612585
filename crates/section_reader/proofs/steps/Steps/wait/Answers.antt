use Rattle.std.proofs.Common.{subst, sym, ap, ◌∙◌}
use Rattle.section_reader.specs.declared.stage.Stage.{Stage}
use Rattle.section_reader.specs.declared.stage.Stage.TheVariants.{Contents}
use Rattle.section_reader.specs.Waits.{IsFree}
use Rattle.section_reader.proofs.Awaiting.{name_is_free}
use Rattle.section_reader.proofs.steps.Steps.wait.Goals as goal

pub returns-in-Contents-eq0-clause-free : goal.returns-in-Contents-eq0-clause-free
returns-in-Contents-eq0-clause-free c =
    let o = c.args.self.now in
    let there = c.in-Contents-eq0.is ∙ ap Contents (sym c.in-Contents-eq0.field-0-is ∙ c.in-Contents-eq0.field-0-test) in
    subst (λ (s : Stage). IsFree s o.seen c.args.fields.now c.name_wait.result) (sym there) (name_is_free o.seen c.args.fields.now c.name_wait.result (c.name_wait.ensures.awaits c.args.fields.now))
