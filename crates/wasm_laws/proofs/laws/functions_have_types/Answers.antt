use Rattle.wasm_laws.proofs.Typed as typed
use Rattle.wasm_laws.proofs.laws.functions_have_types.Goals as goal

pub returns : goal.returns
returns c = typed.functions_have_types
