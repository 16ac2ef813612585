use Rattle.wasm_laws.proofs.Starts.{start_is_right}
use Rattle.wasm_laws.proofs.laws.start_functions_take_nothing.Goals as goal

pub returns : goal.returns
returns c = start_is_right
