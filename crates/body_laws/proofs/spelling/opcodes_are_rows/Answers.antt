use Rattle.std.proofs.Common.{◌≡◌, ℕ, ◌-◌, Some, subst}
use Rattle.std.specs.Prelude.{slice_get}
use Rattle.wasm_defs.specs.declared.operation.Access.TheVariants.{Load, Store}
use Rattle.wasm_defs.specs.Opcodes.{accesses, operations}
use Rattle.wasm_defs.proofs.EachOperation.{operation_row}
use Rattle.body_laws.proofs.Rows.{operation_at, load_row, store_row, access_at}
use Rattle.body_laws.proofs.spelling.opcodes_are_rows.Goals as goal

pub returns : goal.returns
returns c = record {
  operations = λ b op ge. (λ h. operation_at b op ge h, λ e. subst (λ (k : ℕ). slice_get operations (k - 0x45) ≡ Some (Some op)) e (operation_row op));
  loads = λ b op ge. (λ h. access_at b (Load op) ge h, λ e. subst (λ (k : ℕ). slice_get accesses (k - 0x28) ≡ Some (Some (Load op))) e (load_row op));
  stores = λ b op ge. (λ h. access_at b (Store op) ge h, λ e. subst (λ (k : ℕ). slice_get accesses (k - 0x28) ≡ Some (Some (Store op))) e (store_row op));
}
