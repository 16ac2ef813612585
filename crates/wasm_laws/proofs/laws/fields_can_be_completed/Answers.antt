use Rattle.wasm_laws.proofs.Completing.{byte_completes, number_completes, name_completes, fixed_completes}
use Rattle.wasm_laws.proofs.laws.fields_can_be_completed.Goals as goal

pub returns : goal.returns
returns c = record { byte = byte_completes; number = number_completes; name = name_completes; fixed = fixed_completes }
