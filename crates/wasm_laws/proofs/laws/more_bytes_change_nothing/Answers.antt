use Rattle.wasm_laws.proofs.Runs.{module_goes_on}
use Rattle.wasm_laws.proofs.laws.more_bytes_change_nothing.Goals as goal

pub returns : goal.returns
returns c = module_goes_on
