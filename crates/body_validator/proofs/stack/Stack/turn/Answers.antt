use Rattle.std.proofs.Common.{◌≡◌, length, reverse, take, true, false, refl, ap, ◌∙◌, sym, ◌-◌, List, ◌++◌, map, Some, arith}
use Rattle.body_validator.specs.Checking.{Operand, turned, closes}
use Rattle.body_validator.specs.Stacks.{is_live_in, is_live_at, frame_of}
use Rattle.body_validator.specs.Kept.{flat}
use Rattle.body_validator.specs.declared.stack.Frame.{Frame}
use Rattle.body_validator.specs.declared.stack.Opening.TheVariants.{Else}
use Rattle.body_validator.proofs.Frames.{last_in, base_within, turn_steps}
use Rattle.body_validator.proofs.Laying.{flat_same}
use Rattle.body_validator.proofs.Seen.{laid_with, seen_from, put_below}
use Rattle.body_validator.proofs.stack.Stack.turn.Goals as goal

pub returns : goal.returns
returns c =
    let s = c.self.inside in
    let frame = c.in-Some.frame in
    let frames = s.frames.items in
    let items = flat s.operands in
    let rest = reverse (take (length frames - 1) frames) in
    let is = last_in c.deref.result.now frames frame c.deref.ensures.value c.in-Some.ensures in
    let within = base_within (reverse frames) frame rest items is c.self.invariant.0 in
    let just : closes (frame_of frame items) ≡ true = sym c.in_ok-are_just.ensures.found ∙ c.if-not-branch.false in
    let len : c.len-outer.result ≡ length frames = omega (arith, s.frames.ok.0) in
    let live : c.is_live_inside-live.result ≡ is_live_in rest =
    c.is_live_inside-live.ensures ∙ ap (λ (x : List Frame). is_live_in (reverse (take (c.len-outer.result - 1) x))) c.deref-2.ensures.value ∙ ap (λ n. is_live_in (reverse (take (n - 1) frames))) len in
    let laid = c.put.ensures.laid ∙ ap (λ (x : List Operand). x ++ map Some frame.params.now)
    (c.look.ensures.same ∙ c.cut.ensures.left ∙ ap (take frame.base) (flat_same c.are_just.new.self c.make_room.new.self c.make_room.ensures.same ∙ c.are_just.ensures.same)) in
    ap turned (sym c.self.view_is)
    ∙ turn_steps (reverse frames) (reverse c.replace_innermost.new.frames.items) frame rest c.is_live_inside-live.result items (flat c.put.new.self) is
    c.replace_innermost.ensures within (sym c.awaits_else.ensures ∙ c.if-not-awaits_else.false) just live laid

pub invariant_of-self-2 : goal.invariant_of-self-2
invariant_of-self-2 c =
    let s = c.self.inside in
    let frame = c.in-Some.frame in
    let frames = s.frames.items in
    let items = flat s.operands in
    let rest = reverse (take (length frames - 1) frames) in
    let after = reverse c.replace_innermost.new.frames.items in
    let g : Frame = record frame { opening = Else; unknown = false; live = c.is_live_inside-live.result } in
    let is = last_in c.deref.result.now frames frame c.deref.ensures.value c.in-Some.ensures in
    let within = base_within (reverse frames) frame rest items is c.self.invariant.0 in
    let laid = c.put.ensures.laid ∙ ap (λ (x : List Operand). x ++ map Some frame.params.now)
    (c.look.ensures.same ∙ c.cut.ensures.left ∙ ap (take frame.base) (flat_same c.are_just.new.self c.make_room.new.self c.make_room.ensures.same ∙ c.are_just.ensures.same)) in
    let below = put_below items (map Some frame.params.now) (flat c.put.new.self) frame.base within laid in (
      laid_with (reverse frames) after frame g rest items (flat c.put.new.self) is c.replace_innermost.ensures refl c.self.invariant.0 below.0 below.1,
      seen_from after g rest c.put.new.self c.replace_innermost.ensures (c.put.ensures.seen frame.base false c.look.ensures.seen),
      sym (ap is_live_at c.replace_innermost.ensures),
    )
