use Rattle.std.proofs.Common.{Bool, List, ◌∷◌, reverse, is_some, ap, ◌∙◌, sym, arith}
use Rattle.std.proofs.lemmas.List.{nil_from_length}
use Rattle.wasm_defs.specs.declared.types.ValType.TheVariants.{I32}
use Rattle.body_validator.specs.Checking.{Operand, take_all}
use Rattle.body_validator.specs.Exchange.{with_condition}
use Rattle.body_validator.proofs.Flat.{none_there}
use Rattle.body_validator.proofs.operands.finds.Goals as goal

pub returns-then-own-eq0 : goal.returns-then-own-eq0
returns-then-own-eq0 c =
    let types = reverse c.args.taken.types.now in
    sym (ap (λ (b : Bool). is_some (take_all c.args.unknown (with_condition b types) (reverse c.args.own.now))) c.if-not-taken.false
    ∙ ap (λ (x : List Operand). is_some (take_all c.args.unknown (I32 ∷ types) (reverse x))) (nil_from_length c.args.own.now c.if-own-eq0.true)
    ∙ none_there c.args.unknown (I32 ∷ types) (omega arith))
