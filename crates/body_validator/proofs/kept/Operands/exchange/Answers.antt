use Rattle.std.proofs.Common.{◌≡◌, ◌++◌, List, length, reverse, take, drop, map, is_some, true, Some, subst, sym, ap, ◌∙◌}
use Rattle.std.proofs.lemmas.List.{take-append-le}
use Rattle.body_validator.specs.Checking.{Operand, known, take_all}
use Rattle.body_validator.specs.Stacks.{own_of}
use Rattle.body_validator.specs.Exchange.{taken_types}
use Rattle.body_validator.specs.Kept.{flat, AreShown}
use Rattle.body_validator.proofs.Flat.{exchanged_all, put_own}
use Rattle.body_validator.proofs.Laying.{seen_same, shown_same, flat_same, base_seen}
use Rattle.body_validator.proofs.kept.Operands.exchange.Goals as goal

pub put-requires-clause-kept : goal.put-requires-clause-kept
put-requires-clause-kept c =
    let o = c.finds.new.self in
    let m = c.make_room.new.self in
    let count = length (taken_types c.args.taken) in
    let seen = seen_same c.args.base c.args.unknown o m c.finds.ensures.seen c.make_room.ensures.same in
    let shown = shown_same c.args.base c.count_of.result o m (subst (λ k. AreShown c.args.base k o) (sym c.count_of.ensures) c.in_ok-finds.ensures.shown) c.make_room.ensures.same in
    (c.remove.ensures.taken c.args.base c.args.unknown seen shown).2.kept

pub returns-clause-seen : goal.returns-clause-seen
returns-clause-seen c =
    let o = c.finds.new.self in
    let m = c.make_room.new.self in
    let seen = seen_same c.args.base c.args.unknown o m c.finds.ensures.seen c.make_room.ensures.same in
    let shown = shown_same c.args.base c.count_of.result o m (subst (λ k. AreShown c.args.base k o) (sym c.count_of.ensures) c.in_ok-finds.ensures.shown) c.make_room.ensures.same in
    c.put.ensures.seen c.args.base c.args.unknown (c.remove.ensures.taken c.args.base c.args.unknown seen shown).2

pub returns-clause-below : goal.returns-clause-below
returns-clause-below c =
    let o = c.finds.new.self in
    let m = c.make_room.new.self in
    let r = c.remove.new.self in
    let seen = seen_same c.args.base c.args.unknown o m c.finds.ensures.seen c.make_room.ensures.same in
    let shown = shown_same c.args.base c.count_of.result o m (subst (λ k. AreShown c.args.base k o) (sym c.count_of.ensures) c.in_ok-finds.ensures.shown) c.make_room.ensures.same in
    let taken = c.remove.ensures.taken c.args.base c.args.unknown seen shown in
    ap (take c.args.base) c.put.ensures.laid ∙ take-append-le c.args.base (flat r) (map Some c.args.given.now) (base_seen c.args.base c.args.unknown r taken.2)
    ∙ taken.1 ∙ ap (take c.args.base) (flat_same o m c.make_room.ensures.same ∙ c.finds.ensures.same)

pub returns-clause-own : goal.returns-clause-own
returns-clause-own c =
    let o = c.finds.new.self in
    let m = c.make_room.new.self in
    let r = c.remove.new.self in
    let base = c.args.base in
    let p = taken_types c.args.taken in
    let g = reverse c.args.given.now in
    let seen = seen_same base c.args.unknown o m c.finds.ensures.seen c.make_room.ensures.same in
    let shown = shown_same base c.count_of.result o m (subst (λ k. AreShown base k o) (sym c.count_of.ensures) c.in_ok-finds.ensures.shown) c.make_room.ensures.same in
    let taken = c.remove.ensures.taken base c.args.unknown seen shown in
    let same = flat_same o m c.make_room.ensures.same ∙ c.finds.ensures.same in
    let found : is_some (take_all c.args.unknown p (own_of (flat c.args.self.now) base)) ≡ true = sym c.in_ok-finds.ensures.found ∙ c.if-not-branch.false in
    let left : own_of (flat r) base ≡ drop (length p) (own_of (flat c.args.self.now) base) =
    taken.0 ∙ ap (λ n. drop n (own_of (flat m) base)) c.count_of.ensures ∙ ap (λ (x : List Operand). drop (length p) (own_of x base)) same in
    let laid = ap (λ (x : List Operand). own_of x base) c.put.ensures.laid ∙ put_own (flat r) c.args.given.now base (base_seen base c.args.unknown r taken.2)
    ∙ ap (λ (x : List Operand). known g ++ x) left in
    exchanged_all c.args.unknown p g (own_of (flat c.args.self.now) base) found ∙ ap (λ (x : List Operand). Some x) (sym laid)
