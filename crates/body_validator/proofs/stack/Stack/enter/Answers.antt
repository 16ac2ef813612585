use Rattle.std.proofs.Common.{◌≡◌, ◌-◌, ◌++◌, List, ◌∷◌, length, reverse, take, drop, map, is_some, Some, true, false, refl, ap, subst, ◌∙◌, sym, arith, length-append}
use Rattle.std.proofs.lemmas.List.{take_at}
use Rattle.body_validator.specs.declared.stack.Frame.{Frame}
use Rattle.body_validator.specs.Checking.{Operand, enter, take_all}
use Rattle.body_validator.specs.Stacks.{signature, own_of, is_live_at}
use Rattle.body_validator.specs.Exchange.{taken_types}
use Rattle.body_validator.specs.Kept.{flat, AreShown}
use Rattle.body_validator.proofs.Frames.{last_in, enter_steps, pushed_first}
use Rattle.body_validator.proofs.Laying.{seen_same, shown_same, flat_same, base_seen}
use Rattle.body_validator.proofs.Seen.{laid_inside, seen_from}
use Rattle.body_validator.proofs.stack.Stack.enter.Goals as goal

pub height-base-requires : goal.height-base-requires
height-base-requires c =
    let frame = c.in-Some.frame in
    let o = c.finds.new.self in
    let m = c.make_room.new.self in
    let seen = seen_same frame.base frame.unknown o m c.finds.ensures.seen c.make_room.ensures.same in
    let shown = shown_same frame.base c.count_of-count.result o m (subst (λ k. AreShown frame.base k o) (sym c.count_of-count.ensures) c.in_ok-finds.ensures.shown) c.make_room.ensures.same in
    (c.remove.ensures.taken frame.base frame.unknown seen shown).2.kept

pub look-requires-clause-kept : goal.look-requires-clause-kept
look-requires-clause-kept c =
    let frame = c.in-Some.frame in
    let o = c.finds.new.self in
    let m = c.make_room.new.self in
    let seen = seen_same frame.base frame.unknown o m c.finds.ensures.seen c.make_room.ensures.same in
    let shown = shown_same frame.base c.count_of-count.result o m (subst (λ k. AreShown frame.base k o) (sym c.count_of-count.ensures) c.in_ok-finds.ensures.shown) c.make_room.ensures.same in
    (c.remove.ensures.taken frame.base frame.unknown seen shown).2.kept

pub returns : goal.returns
returns c =
    let s = c.self.inside in
    let frame = c.in-Some.frame in
    let frames = s.frames.items in
    let items = flat s.operands in
    let rest = reverse (take (length frames - 1) frames) in
    let o = c.finds.new.self in
    let m = c.make_room.new.self in
    let left = flat c.remove.new.self in
    let params = taken_types c.args.taken in
    let type = signature c.args.taken.types.now c.args.results.now in
    let is = last_in c.deref.result.now frames frame c.deref.ensures.value c.in-Some.ensures in
    let seen = seen_same frame.base frame.unknown o m c.finds.ensures.seen c.make_room.ensures.same in
    let shown = shown_same frame.base c.count_of-count.result o m (subst (λ k. AreShown frame.base k o) (sym c.count_of-count.ensures) c.in_ok-finds.ensures.shown) c.make_room.ensures.same in
    let taken = c.remove.ensures.taken frame.base frame.unknown seen shown in
    let same = flat_same o m c.make_room.ensures.same ∙ c.finds.ensures.same in
    let found : is_some (take_all frame.unknown params (own_of items frame.base)) ≡ true = sym c.in_ok-finds.ensures.found ∙ c.if-not-branch.false in
    let own : own_of left frame.base ≡ drop (length params) (own_of items frame.base) =
    taken.0 ∙ ap (λ n. drop n (own_of (flat m) frame.base)) c.count_of-count.ensures ∙ ap (λ (x : List Operand). drop (length params) (own_of x frame.base)) same in
    let g : Frame = record { opening = c.args.opening; params = c.args.taken.types; results = c.args.results; base = c.height-base.result; unknown = false; live = frame.live } in
    let later = ap reverse c.push_frame.ensures ∙ pushed_first frames c.reserve.new.self.items g c.reserve.ensures.items ∙ ap (λ x. g ∷ x) is in
    let laid = c.put.ensures.laid ∙ ap (λ (x : List Operand). x ++ map Some c.args.taken.types.now) c.look.ensures.same in
    ap (enter c.args.opening type params) (sym c.self.view_is)
    ∙ enter_steps (reverse frames) (reverse c.push_frame.new.frames.items) frame g rest params items left (flat c.put.new.self) is later
    found own (taken.1 ∙ ap (take frame.base) same) laid c.height-base.ensures refl refl

pub invariant_of-self-2 : goal.invariant_of-self-2
invariant_of-self-2 c =
    let s = c.self.inside in
    let frame = c.in-Some.frame in
    let frames = s.frames.items in
    let rest = reverse (take (length frames - 1) frames) in
    let o = c.finds.new.self in
    let m = c.make_room.new.self in
    let left = flat c.remove.new.self in
    let params : List Operand = map Some c.args.taken.types.now in
    let is = last_in c.deref.result.now frames frame c.deref.ensures.value c.in-Some.ensures in
    let seen = seen_same frame.base frame.unknown o m c.finds.ensures.seen c.make_room.ensures.same in
    let shown = shown_same frame.base c.count_of-count.result o m (subst (λ k. AreShown frame.base k o) (sym c.count_of-count.ensures) c.in_ok-finds.ensures.shown) c.make_room.ensures.same in
    let taken = c.remove.ensures.taken frame.base frame.unknown seen shown in
    let same = flat_same o m c.make_room.ensures.same ∙ c.finds.ensures.same in
    let g : Frame = record { opening = c.args.opening; params = c.args.taken.types; results = c.args.results; base = c.height-base.result; unknown = false; live = frame.live } in
    let later = ap reverse c.push_frame.ensures ∙ pushed_first frames c.reserve.new.self.items g c.reserve.ensures.items ∙ ap (λ x. g ∷ x) is in
    let laid : flat c.put.new.self ≡ left ++ params = c.put.ensures.laid ∙ ap (λ (x : List Operand). x ++ params) c.look.ensures.same in
    let front = ap (take g.base) laid ∙ take_at left params g.base (sym c.height-base.ensures) in (
      laid_inside (reverse frames) (reverse c.push_frame.new.frames.items) frame g rest (flat s.operands) left (flat c.put.new.self) is later c.self.invariant.0
          (taken.1 ∙ ap (take frame.base) same) (base_seen frame.base frame.unknown c.remove.new.self taken.2) front
          (omega (arith, c.height-base.ensures, ap length laid, length-append left params)),
      seen_from (reverse c.push_frame.new.frames.items) g (frame ∷ rest) c.put.new.self later (c.put.ensures.seen g.base false c.look.ensures.seen),
      c.self.invariant.2 ∙ ap is_live_at is ∙ sym (ap is_live_at later),
    )
