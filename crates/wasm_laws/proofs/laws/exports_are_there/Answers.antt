use Rattle.wasm_laws.proofs.Exports as exports
use Rattle.wasm_laws.proofs.laws.exports_are_there.Goals as goal

pub returns : goal.returns
returns c = record { each = exports.exports_are_there; named = exports.named_is_there }
