use Rattle.body_validator.proofs.OperandLaws.{same_types-of, same_types-true}
use Rattle.body_validator.proofs.laws.types_are_compared.Goals as goal

pub returns : goal.returns
returns c = λ ts us. (same_types-true ts us, same_types-of ts us)
