use Rattle.wasm_defs.proofs.NumberLaws.{prefix_free}
use Rattle.wasm_defs.proofs.laws.numbers_are_prefix_free.Goals as goal

pub returns : goal.returns
returns c = prefix_free
