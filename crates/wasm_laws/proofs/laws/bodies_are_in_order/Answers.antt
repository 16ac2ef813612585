use Rattle.wasm_laws.proofs.BodyOrder.{body_is_ordered}
use Rattle.wasm_laws.proofs.laws.bodies_are_in_order.Goals as goal

pub returns : goal.returns
returns c = body_is_ordered
