use Rattle.body_laws.proofs.SpelledModules.{module_is_spelled, spelled_is_module}
use Rattle.body_laws.proofs.spelling.modules_have_spelled_bodies.Goals as goal

pub returns : goal.returns
returns c = λ bytes m fits. (λ is. module_is_spelled bytes m fits is, λ s. spelled_is_module bytes m s.0 s.1)
