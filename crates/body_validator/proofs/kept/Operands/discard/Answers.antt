use Rattle.std.proofs.Common.{◌≡◌, List, length, take, drop, true, sym, ap, ◌∙◌, arith}
use Rattle.body_validator.specs.declared.kept.Operands.{Operands}
use Rattle.body_validator.specs.Checking.{Operand}
use Rattle.body_validator.specs.Stacks.{own_of}
use Rattle.body_validator.proofs.Laying.{singles_over, none_taken, one_taken, dropped_over, below_over}
use Rattle.body_validator.proofs.kept.Operands.discard.Goals as goal
use Rattle.body_validator.proofs.kept.Operands.discard.Goals.{else-len-self-via-then-len-self+else-not-self, else-len-self-via-else-len-self}

pub returns-then-not-self-clause-own : goal.returns-then-not-self-clause-own
returns-then-not-self-clause-own c =
    let o = c.show.new.self in
    let len : c.len.result ≡ length o.singles.items = omega (arith, c.len.ensures, o.singles.ok.0) in
    let none = none_taken c.args.base c.args.unknown o c.show.ensures.seen c.in_ok-show.ensures.shown (sym len ∙ c.if-len-self.true) c.if-not-self.true in
    (ap length (sym c.show.ensures.same) ∙ none.0, none.1, c.show.ensures.same)

pub returns-clause-own : goal.returns-clause-own
returns-clause-own c =
    let o = c.show.new.self in
    let n : Operands = record o { singles = c.remove.new.operands } in
    let over = singles_over o c.remove.new.operands c.remove.ensures.below (omega (arith, c.remove.ensures.above, c.remove.new.operands.ok.0)) in
    let len : c.len.result ≡ length o.singles.items = omega (arith, c.len.ensures, o.singles.ok.0) in
    let some : length o.singles.items ≡ o.start → o.unknown ≡ true = elim c.else-len-self.branch [
      | else-len-self-via-then-len-self+else-not-self w ↦ λ e. w.if-not-self.false
      | else-len-self-via-else-len-self w ↦ λ e. absurd (w.if-len-self.false (len ∙ e))
    ] in (
      dropped_over c.args.base 1 c.args.unknown o n c.show.ensures.seen c.in_ok-show.ensures.shown over c.remove.ensures.own
          ∙ ap (λ (x : List Operand). drop 1 (own_of x c.args.base)) c.show.ensures.same,
      λ e. one_taken c.args.base c.args.unknown o c.show.ensures.seen some (ap length c.show.ensures.same ∙ e),
    )

pub returns-clause-below : goal.returns-clause-below
returns-clause-below c =
    let o = c.show.new.self in
    let n : Operands = record o { singles = c.remove.new.operands } in
    let over = singles_over o c.remove.new.operands c.remove.ensures.below (omega (arith, c.remove.ensures.above, c.remove.new.operands.ok.0)) in
    below_over c.args.base c.args.unknown o n c.show.ensures.seen over ∙ ap (take c.args.base) c.show.ensures.same
