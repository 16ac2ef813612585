use Rattle.std.proofs.Common.{is_some, List, subst, ap, ◌∙◌}
use Rattle.body_validator.specs.Checking.{Operand, take_all}
use Rattle.body_validator.specs.Stacks.{own_of}
use Rattle.body_validator.specs.Exchange.{taken_types}
use Rattle.body_validator.specs.Kept.{AreShown}
use Rattle.body_validator.proofs.Frames.{part_own}
use Rattle.body_validator.proofs.Laying.{found_seen}
use Rattle.body_validator.proofs.kept.Operands.finds.Goals as goal

pub returns-clause-found : goal.returns-clause-found
returns-clause-found c =
    let o = c.show.new.self in
    let p = taken_types c.args.taken in
    let shown = subst (λ k. AreShown c.args.base k o) c.count_of-count.ensures c.in_ok-show.ensures.shown in
    c.finds.ensures ∙ ap (λ (x : List Operand). is_some (take_all o.unknown p x)) (part_own c.deref.result.now o.singles.items o.start c.deref.ensures.value)
    ∙ found_seen c.args.base c.args.unknown p o c.show.ensures.seen shown
    ∙ ap (λ (x : List Operand). is_some (take_all c.args.unknown p (own_of x c.args.base))) c.show.ensures.same
