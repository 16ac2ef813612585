use Rattle.wasm_defs.specs.Bodies.{body_read}
use Rattle.wasm_laws.proofs.Verdicts.{valid_has_no_fault}
use Rattle.verdict_laws.proofs.Judged.{body_judged}
use Rattle.verdict_laws.proofs.verdicts.each_code_is_judged.Goals as goal

pub returns : goal.returns
returns c = record {
  one = body_judged;
  not_both = λ x counted first bytes tree r v f. valid_has_no_fault x (body_read counted first bytes).code tree r v f;
}
