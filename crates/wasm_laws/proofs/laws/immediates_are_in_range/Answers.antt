use Rattle.wasm_laws.proofs.Bytes.{each_byte}
use Rattle.wasm_laws.proofs.Counting.{tokens_are_few}
use Rattle.wasm_laws.proofs.Ranges.{tree_is_in_range}
use Rattle.wasm_laws.proofs.laws.immediates_are_in_range.Goals as goal

pub returns : goal.returns
returns c = record { range = λ counted first bytes tree fits e. tree_is_in_range counted first bytes tree (each_byte bytes fits) e; count = tokens_are_few }
