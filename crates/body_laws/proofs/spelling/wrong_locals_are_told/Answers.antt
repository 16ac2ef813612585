use Rattle.wasm_laws.proofs.Bytes.{each_byte}
use Rattle.body_laws.proofs.WrongLocals.{wrong_locals}
use Rattle.body_laws.proofs.spelling.wrong_locals_are_told.Goals as goal

pub returns : goal.returns
returns c = λ counted first bytes fits none. wrong_locals counted first bytes (each_byte bytes fits) none
