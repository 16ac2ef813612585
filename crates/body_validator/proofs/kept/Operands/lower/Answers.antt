use Rattle.std.proofs.Common.{◌≡◌, ◌-◌, ◌≤◌, ◌++◌, length, reverse, map, take, drop, Some, ap, ◌∙◌, arith, length-append, length-drop}
use Rattle.std.proofs.lemmas.List.{length-take-le, take_all}
use Rattle.body_validator.specs.Kept.{spreads}
use Rattle.body_validator.proofs.Laying.{lowered_at, total_at, total_after, stacked_after, floor_at, floor_within}
use Rattle.body_validator.proofs.kept.Operands.lower.Goals as goal
use Rattle.body_validator.proofs.kept.Operands.lower.Goals.{then-most-count, else-most-count}

pub returns-clause-same : goal.returns-clause-same
returns-clause-same c =
    let o = c.args.self.now in
    let s = c.topmost-list.result in
    let left = c.if-most-count.left in
    let top = c.topmost-list.ensures in
    let types : take (length s.types.now - left) (drop left s.types.now) ≡ drop left s.types.now = take_all (length s.types.now - left) (drop left s.types.now) (omega (arith, length-drop left s.types.now)) in
    lowered_at (reverse (spreads o.lists)) (reverse (spreads c.shorten.new.self)) s o.singles.items c.insert_all.new.singles.items left top c.requires.kept.stacked
    (c.in_ok-insert_all.ensures.ok ∙ ap (λ x. take s.below o.singles.items ++ (map Some x ++ drop s.below o.singles.items)) types) c.shorten.ensures.short

pub returns-clause-kept : goal.returns-clause-kept
returns-clause-kept c =
    let o = c.args.self.now in
    let s = c.topmost-list.result in
    let left = c.if-most-count.left in
    let top = c.topmost-list.ensures in
    let few : left ≤ length s.types.now = elim c.if-most-count.branch [
      | then-most-count w ↦ omega (arith, w.left-is)
      | else-most-count w ↦ omega (arith, w.left-is)
    ] in
    let within : s.below ≤ length o.singles.items = omega (arith, floor_at (reverse (spreads o.lists)) s top, floor_within o c.requires.kept) in
    let long = ap length c.in_ok-insert_all.ensures.ok in
    let types = map Some (take (length s.types.now - left) (drop left s.types.now)) in
    let more = length-append (take s.below o.singles.items) (types ++ drop s.below o.singles.items) in
    let all = total_at (reverse (spreads o.lists)) s top in
    let after = total_after (reverse (spreads o.lists)) (reverse (spreads c.shorten.new.self)) s left top few c.shorten.ensures.short in
    record {
      stacked = stacked_after (reverse (spreads o.lists)) (reverse (spreads c.shorten.new.self)) s left (length o.singles.items) (length c.insert_all.new.singles.items) top c.requires.kept.stacked
          (omega (arith, long, more, length-take-le s.below o.singles.items within)) c.shorten.ensures.short;
      listed = omega (arith, all, after, few, c.requires.kept.listed);
      few = omega (arith, c.requires.kept.few);
    }
