use Rattle.std.proofs.Common.{◌&&◌, ◌-◌, ap, reverse, refl, ◌∙◌, sym, take, Bool, arith}
use Rattle.std.proofs.Math.Bool.{and_assoc}
use Rattle.std.proofs.lemmas.List.{length-reverse}
use Rattle.wasm_defs.specs.Typing.{same_types}
use Rattle.body_validator.proofs.Flat.{lengths_differ, next_same}
use Rattle.body_validator.proofs.operands.are_same.Goals as goal

pub returns-then-left-right : goal.returns-then-left-right
returns-then-left-right c =
    let left = c.args.left.now in
    let right = c.args.right.now in
    sym (lengths_differ (reverse left) (reverse right) (λ e. c.if-left-right.true (sym (length-reverse left) ∙ e ∙ length-reverse right)))

pub loop-owed-preserved : goal.loop-owed-preserved
loop-owed-preserved c =
    let l = c.loop-owed in
    let left = c.args.left.now in
    let right = c.args.right.now in
    let next = next_same left right l.owed _ _ c.is_same-same.result _ c.is_same-same.ensures refl (omega arith) l.invariant.left_within l.invariant.right_within in
    record {
      left_within = omega arith;
      right_within = omega arith;
      is_same = l.invariant.is_same ∙ ap (λ (b : Bool). l.same && b) next ∙ sym (and_assoc l.same c.is_same-same.result (same_types (reverse (take (l.owed - 1) left)) (reverse (take (l.owed - 1) right))));
    }
