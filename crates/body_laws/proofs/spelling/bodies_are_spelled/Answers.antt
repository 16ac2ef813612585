use Rattle.wasm_laws.proofs.Bytes.{each_byte}
use Rattle.body_laws.proofs.SpeltCodes.{read_is_spelled, spelled_is_read}
use Rattle.body_laws.proofs.spelling.bodies_are_spelled.Goals as goal

pub returns : goal.returns
returns c = λ counted first bytes groups tokens tree fits nests. (
  λ is. read_is_spelled counted first bytes groups tokens (each_byte bytes fits) is,
  λ s. spelled_is_read counted first bytes groups tokens tree nests s.0 s.1,
)
