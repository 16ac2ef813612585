use Rattle.wasm_laws.proofs.Constants.{constants_fit}
use Rattle.wasm_laws.proofs.Spaces.{spaces_are_small}
use Rattle.wasm_laws.proofs.laws.spaces_keep_limits.Goals as goal

pub returns : goal.returns
returns c = record { limits = spaces_are_small; constants = constants_fit }
