use Rattle.wasm_laws.proofs.Cuts.{parts_are_cut}
use Rattle.wasm_laws.proofs.Order.{parts_before_fault, parts_in_module}
use Rattle.wasm_laws.proofs.laws.parts_are_in_order.Goals as goal

pub returns : goal.returns
returns c = record { before_fault = parts_before_fault; in_module = parts_in_module; cut = parts_are_cut }
