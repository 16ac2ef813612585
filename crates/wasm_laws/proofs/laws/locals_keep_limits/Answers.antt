use Rattle.wasm_laws.proofs.Locals.{locals_are_few, bodies_are_small}
use Rattle.wasm_laws.proofs.laws.locals_keep_limits.Goals as goal

pub returns : goal.returns
returns c = record { locals = locals_are_few; bodies = bodies_are_small }
