use Rattle.std.proofs.Common.{◌≤◌, ◌∷◌, List, length, take, drop, sym, ap, ◌∙◌, arith}
use Rattle.body_validator.specs.declared.kept.Operands.{Operands}
use Rattle.body_validator.specs.Checking.{Operand, selected_of}
use Rattle.body_validator.specs.Stacks.{own_of}
use Rattle.body_validator.proofs.Frames.{part_own}
use Rattle.body_validator.proofs.Laying.{put_over, selected_seen, three_taken, put_one, below_over}
use Rattle.body_validator.proofs.kept.Operands.select.Goals as goal

pub returns-in_default-clause-own : goal.returns-in_default-clause-own
returns-in_default-clause-own c =
    let o = c.show.new.self in (
      ap (λ (x : List Operand). selected_of c.args.unknown (own_of x c.args.base)) (sym c.show.ensures.same)
          ∙ sym (selected_seen c.args.base c.args.unknown o c.show.ensures.seen c.in_ok-show.ensures.shown)
          ∙ ap (selected_of o.unknown) (sym (part_own c.deref.result.now o.singles.items o.start c.deref.ensures.value)) ∙ sym c.selected.ensures ∙ c.in_default.is,
      c.show.ensures.same,
    )

pub returns-clause-own : goal.returns-clause-own
returns-clause-own c =
    let o = c.show.new.self in
    let n : Operands = record o { singles = c.put.new.operands } in
    let t = c.in-Some.operand in
    let kept = c.remove.new.operands.items in
    let above : o.start ≤ length kept = omega (arith, c.remove.ensures.above, c.remove.new.operands.ok.0) in
    let over = put_over o c.put.new.operands kept t above (c.remove.ensures.below ∙ ap (take o.start) c.reserve.ensures.items) c.put.ensures in
    let own = ap (λ (x : List Operand). own_of x o.start) c.put.ensures ∙ put_one kept t o.start above
    ∙ ap (λ (x : List Operand). t ∷ x) (c.remove.ensures.own ∙ ap (λ (x : List Operand). drop 3 (own_of x o.start)) c.reserve.ensures.items) in (
      t,
      ap (λ (x : List Operand). selected_of c.args.unknown (own_of x c.args.base)) (sym c.show.ensures.same)
          ∙ sym (selected_seen c.args.base c.args.unknown o c.show.ensures.seen c.in_ok-show.ensures.shown)
          ∙ ap (selected_of o.unknown) (sym (part_own c.deref.result.now o.singles.items o.start c.deref.ensures.value)) ∙ sym c.selected.ensures ∙ c.in-Some.is,
      three_taken c.args.base c.args.unknown o n t c.show.ensures.seen c.in_ok-show.ensures.shown over own
          ∙ ap (λ (x : List Operand). t ∷ drop 3 (own_of x c.args.base)) c.show.ensures.same,
    )

pub returns-clause-below : goal.returns-clause-below
returns-clause-below c =
    let o = c.show.new.self in
    let n : Operands = record o { singles = c.put.new.operands } in
    let t = c.in-Some.operand in
    let kept = c.remove.new.operands.items in
    let above : o.start ≤ length kept = omega (arith, c.remove.ensures.above, c.remove.new.operands.ok.0) in
    let over = put_over o c.put.new.operands kept t above (c.remove.ensures.below ∙ ap (take o.start) c.reserve.ensures.items) c.put.ensures in
    below_over c.args.base c.args.unknown o n c.show.ensures.seen over ∙ ap (take c.args.base) c.show.ensures.same
