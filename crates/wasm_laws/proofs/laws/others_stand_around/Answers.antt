use Rattle.wasm_laws.proofs.Order.{around_body, around_section}
use Rattle.wasm_laws.proofs.laws.others_stand_around.Goals as goal

pub returns : goal.returns
returns c = record { body = around_body; section = around_section }
