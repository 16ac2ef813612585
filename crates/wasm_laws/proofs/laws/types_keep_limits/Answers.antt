use Rattle.wasm_laws.proofs.Exports.{types_are_small}
use Rattle.wasm_laws.proofs.laws.types_keep_limits.Goals as goal

pub returns : goal.returns
returns c = types_are_small
