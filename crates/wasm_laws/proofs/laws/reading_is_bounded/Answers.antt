use Rattle.wasm_laws.proofs.Bounded.{module_is_refused, module_stays}
use Rattle.wasm_laws.proofs.laws.reading_is_bounded.Goals as goal

pub returns : goal.returns
returns c = record { refused = module_is_refused; stays = module_stays }
