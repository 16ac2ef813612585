use Rattle.wasm_laws.proofs.Held.{module_holds}
use Rattle.wasm_laws.proofs.grammar.items_hold_few_bytes.Goals as goal

pub returns : goal.returns
returns c = module_holds
