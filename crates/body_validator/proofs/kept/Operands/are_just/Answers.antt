use Rattle.std.proofs.Common.{◌+◌, List, reverse, subst, sym, ap, ◌∙◌}
use Rattle.std.proofs.lemmas.List.{length-reverse}
use Rattle.body_validator.specs.Checking.{Operand, take_all, none_left}
use Rattle.body_validator.specs.Stacks.{own_of}
use Rattle.body_validator.specs.Kept.{AreShown}
use Rattle.body_validator.proofs.Frames.{part_own}
use Rattle.body_validator.proofs.Laying.{just_seen}
use Rattle.body_validator.proofs.kept.Operands.are_just.Goals as goal

pub returns-clause-found : goal.returns-clause-found
returns-clause-found c =
    let o = c.show.new.self in
    let p = reverse c.args.types.now in
    let shown = subst (λ k. AreShown c.args.base (k + 1) o) (sym (length-reverse c.args.types.now)) c.in_ok-show.ensures.shown in
    c.are_just.ensures ∙ ap (λ (x : List Operand). none_left (take_all o.unknown p x)) (part_own c.deref.result.now o.singles.items o.start c.deref.ensures.value)
    ∙ just_seen c.args.base c.args.unknown p o c.show.ensures.seen shown
    ∙ ap (λ (x : List Operand). none_left (take_all c.args.unknown p (own_of x c.args.base))) c.show.ensures.same
