use Rattle.std.proofs.Common.{◌≡◌, ◌∙◌, [], ◌∷◌, sym, ap}
use Rattle.std.specs.Prelude.{reverse}
use Rattle.wasm_defs.specs.declared.operation.NumericType.{NumericType}
use Rattle.wasm_defs.specs.Typing.{Signature, operand_types, operated}
use Rattle.wasm_defs.proofs.RowLaws.{operated_row}
use Rattle.body_validator.proofs.instruction_types.operation.Goals as goal

pub returns : goal.returns
returns c =
    let params : reverse c.operand_types.result.now ≡ (operated c.args.op).params = c.operand_types.ensures ∙ ap (λ (t : NumericType). operand_types t.operands) c.ty-ty.ensures ∙ ap (λ (s : Signature). s.params) (sym (operated_row c.args.op)) in
    let results : reverse c.one.result.now ≡ (operated c.args.op).results = ap reverse c.one.ensures ∙ ap (λ (t : NumericType). t.result ∷ []) c.ty-ty.ensures ∙ ap (λ (s : Signature). s.results) (sym (operated_row c.args.op)) in
    rw (← params, ← results) c.fixed.ensures
