use Rattle.wasm_laws.proofs.OneReading.{modules_are_one}
use Rattle.wasm_laws.proofs.grammar.items_are_one.Goals as goal

pub returns : goal.returns
returns c = modules_are_one
