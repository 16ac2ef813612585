use Rattle.std.proofs.Common.{subst, Option, Err}
use Rattle.wasm_defs.specs.declared.item.Item.{Item}
use Rattle.leb_feed.specs.declared.stop.Stop.{Stop}
use Rattle.std.specs.Prelude.{IfNone}
use Rattle.section_reader.specs.Near.{IsNear}
use Rattle.section_reader.specs.Stepped.{Goes, Stepped}
use Rattle.section_reader.proofs.Reaching.{goes_on, reaches_item, reaches_refusal}
use Rattle.section_reader.proofs.steps.Steps.until_item.Goals as goal

pub returns-in-Ok-Some-clause-reaches : goal.returns-in-Ok-Some-clause-reaches
returns-in-Ok-Some-clause-reaches c = reaches_item c.args.self.now c.steps.self c.step.new.self c.args.fields.now c.steps.fields c.step.new.fields c.in-Ok-Some.item c.steps.invariant.going (subst (λ (x : Option Item). Goes c.steps.self c.steps.fields x c.step.new.self c.step.new.fields) c.in-Ok-Some.field-0-is c.in-Ok-Some.ensures.stepped)

pub steps-preserved : goal.steps-preserved
steps-preserved c = record {
  going = goes_on c.args.self.now c.steps.self c.step.new.self c.args.fields.now c.steps.fields c.step.new.fields c.steps.invariant.going (subst (λ (x : Option Item). Goes c.steps.self c.steps.fields x c.step.new.self c.step.new.fields) c.in-Ok-None.field-0-is c.in-Ok-None.ensures.stepped);
  near = subst (λ (x : Option Item). IfNone x (IsNear c.args.most c.step.new.self.stage c.step.new.self.seen c.step.new.fields)) c.in-Ok-None.field-0-is c.in-Ok-None.ensures.on;
}

pub returns-in-Err-Refused-clause-reaches : goal.returns-in-Err-Refused-clause-reaches
returns-in-Err-Refused-clause-reaches c =
    let stepped = subst (λ (s : Stop). Stepped c.steps.self c.steps.fields (Err s) c.step.new.self c.step.new.fields) c.in-Err-Refused.field-0-is c.in-Err-Refused.ensures.stepped in
    rw c.in-Err-Refused.refusal-is (reaches_refusal c.args.self.now c.steps.self c.step.new.self c.args.fields.now c.steps.fields c.step.new.fields c.in-Err-Refused.refusal c.steps.invariant.going stepped)
