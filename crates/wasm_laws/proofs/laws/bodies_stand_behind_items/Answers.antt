use Rattle.wasm_laws.proofs.Behind.{bodies_stand_behind, bodies_are_valid}
use Rattle.wasm_laws.proofs.laws.bodies_stand_behind_items.Goals as goal

pub returns : goal.returns
returns c = record { behind = bodies_stand_behind; valid = bodies_are_valid }
