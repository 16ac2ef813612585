use Rattle.wasm_laws.proofs.ShortOffsets.{offsets_are_short}
use Rattle.wasm_laws.proofs.laws.offsets_are_short.Goals as goal

pub returns : goal.returns
returns c = offsets_are_short
