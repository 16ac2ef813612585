use Rattle.wasm_laws.proofs.Counts.{bodies_are_declared, bodies_match}
use Rattle.wasm_laws.proofs.laws.bodies_match_functions.Goals as goal

pub returns : goal.returns
returns c = record { declared = bodies_are_declared; whole = bodies_match }
