use Rattle.module_stream.proofs.Once.{no_fault_of}
use Rattle.verdict_laws.proofs.Decided.{module_of, no_fault_is_spelled, spelled_has_no_fault}
use Rattle.verdict_laws.proofs.verdicts.no_fault_is_a_module.Goals as goal

pub returns : goal.returns
returns c = record {
  read = λ bytes. (module_of bytes, λ p r f. no_fault_of bytes p.0 r p.1 f);
  spelled = λ bytes fits. (no_fault_is_spelled bytes fits, λ p r f. spelled_has_no_fault bytes p.0 p.1 p.2 p.3 r f);
}
