-- How many instruction words an instruction has.
use Rattle.std.proofs.Common.{leb, length, refl}
use Rattle.std.proofs.lemmas.Bool.{leb-true}
use Rattle.wasm_defs.specs.declared.operation.Operation.{Operation}
use Rattle.frame_layout.specs.Templates.{operate_words}
use Rattle.wasm_defs.proofs.EachOperation.{each_operation}
use Rattle.simulation.specs.IntegerLaws.{LengthLaw}

pub lengths_are_bounded : LengthLaw
lengths_are_bounded w h op = leb-true (length (operate_words w h op)) 76 (each_operation (λ (o : Operation). leb (length (operate_words w h o)) 76) refl op)
