use Rattle.wasm_laws.proofs.ImportTypes.{imports_return_one}
use Rattle.wasm_laws.proofs.laws.imports_return_one.Goals as goal

pub returns : goal.returns
returns c = imports_return_one
