use Rattle.std.proofs.Common.{◌≡◌, rules, ap, ◌∙◌, w64}
use mir.Val.{SFits, of_z}
use Rattle.std.proofs.lemmas.Int.{to_z-of_z}
use Rattle.integer_emit.proofs.constant.emit_const.Goals as goal

pub returns-in-I64-clause-ok : goal.returns-in-I64-clause-ok
returns-in-I64-clause-ok c = λ w same.
    let fits : SFits w64 c.in-I64.n = search rules in
    let bits : c.cast_unsigned.result ≡ of_z w64 c.in-I64.n = c.cast_unsigned.ensures ∙ ap (of_z w64) (to_z-of_z w64 c.in-I64.n fits) in
    rw (c.in-I64.is, same) (rw (c.const_64.ensures, c.slot_store.ensures, c.operand.ensures, bits) at c.append-in-I64.ensures.ok)
