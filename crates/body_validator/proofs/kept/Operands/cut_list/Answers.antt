use Rattle.std.proofs.Common.{◌≡◌, ◌+◌, ◌<◌, ◌≤◌, length, reverse, take, ap, ◌∙◌, arith}
use Rattle.std.proofs.lemmas.List.{length-take-le}
use Rattle.body_validator.specs.Kept.{spreads, laid_out, total}
use Rattle.body_validator.proofs.Laying.{cut_at, total_at, total_after, floor_at, floor_within, length-laid, some_lists}
use Rattle.body_validator.proofs.kept.Operands.cut_list.Goals as goal
use Rattle.body_validator.proofs.kept.Operands.cut_list.Goals.{then-lowest-height, else-lowest-height}

pub topmost-list-requires : goal.topmost-list-requires
topmost-list-requires c =
    let o = c.args.self.now in
    some_lists (spreads o.lists) o.listed c.args.height c.requires.kept.listed c.requires.above

pub shorten-requires : goal.shorten-requires
shorten-requires c =
    let o = c.args.self.now in
    some_lists (spreads o.lists) o.listed c.args.height c.requires.kept.listed c.requires.above

pub returns-clause-same : goal.returns-clause-same
returns-clause-same c =
    let o = c.args.self.now in
    let s = c.topmost-list.result in
    let left = c.if-lowest-height.left in
    let top = c.topmost-list.ensures in
    let floor = floor_at (reverse (spreads o.lists)) s top in
    let all = total_at (reverse (spreads o.lists)) s top in
    let few : left ≤ length s.types.now = elim c.if-lowest-height.branch [
      | then-lowest-height w ↦ omega (arith, w.left-is, floor, all, c.requires.above, c.requires.kept.listed)
      | else-lowest-height w ↦ omega (arith, w.left-is)
    ] in
    let none : left ≡ 0 → c.args.height ≤ s.below + total top.rest = elim c.if-lowest-height.branch [
      | then-lowest-height w ↦ λ e. absurd (omega (arith, w.left-is, w.if-lowest-height.true, e))
      | else-lowest-height w ↦ λ e. omega (arith, w.if-lowest-height.false, all, c.requires.kept.listed)
    ] in
    let some : 0 < left → c.args.height ≡ s.below + total top.rest + left = elim c.if-lowest-height.branch [
      | then-lowest-height w ↦ λ e. omega (arith, w.left-is, w.if-lowest-height.true, all, c.requires.kept.listed)
      | else-lowest-height w ↦ λ e. absurd (omega (arith, w.left-is, e))
    ] in
    ap (λ x. take c.args.height (laid_out (reverse (spreads c.shorten.new.self)) x)) c.truncate.ensures.items
    ∙ cut_at (reverse (spreads o.lists)) (reverse (spreads c.shorten.new.self)) s o.singles.items left c.args.height top c.requires.kept.stacked few none some c.shorten.ensures.short

pub returns-clause-within : goal.returns-clause-within
returns-clause-within c =
    let o = c.args.self.now in
    let s = c.topmost-list.result in
    let left = c.if-lowest-height.left in
    let top = c.topmost-list.ensures in
    let floor = floor_at (reverse (spreads o.lists)) s top in
    let all = total_at (reverse (spreads o.lists)) s top in
    let few : left ≤ length s.types.now = elim c.if-lowest-height.branch [
      | then-lowest-height w ↦ omega (arith, w.left-is, floor, all, c.requires.above, c.requires.kept.listed)
      | else-lowest-height w ↦ omega (arith, w.left-is)
    ] in
    let most : c.args.height ≤ s.below + total top.rest + left = elim c.if-lowest-height.branch [
      | then-lowest-height w ↦ omega (arith, w.left-is, all, c.requires.kept.listed)
      | else-lowest-height w ↦ omega (arith, w.if-lowest-height.false, all, c.requires.kept.listed)
    ] in
    let within : s.below ≤ length o.singles.items = omega (arith, floor, floor_within o c.requires.kept) in
    omega (
      arith,
      most,
      length-laid (reverse (spreads c.shorten.new.self)) c.truncate.new.self.items,
      ap length c.truncate.ensures.items,
      length-take-le s.below o.singles.items within,
      total_after (reverse (spreads o.lists)) (reverse (spreads c.shorten.new.self)) s left top few c.shorten.ensures.short,
    )
