use Rattle.std.proofs.Common.{◌-◌, length, reverse, take, subst}
use Rattle.wasm_defs.specs.Typing.{Discards}
use Rattle.body_validator.specs.Checking.{Frames, applied}
use Rattle.body_validator.specs.Stacks.{frames_of}
use Rattle.body_validator.specs.Exchange.{Steps}
use Rattle.body_validator.specs.Kept.{flat}
use Rattle.body_validator.proofs.Frames.{last_in, base_within}
use Rattle.body_validator.proofs.Seen.{last_seen, last_again, discards}
use Rattle.body_validator.proofs.stack.Stack.discard.Goals as goal

pub discard-requires : goal.discard-requires
discard-requires c =
    let s = c.self.inside in
    last_seen c.deref.result.now s.frames.items c.in-Some.frame s.operands c.deref.ensures.value c.in-Some.ensures c.self.invariant.1

pub returns : goal.returns
returns c =
    let s = c.self.inside in
    let frame = c.in-Some.frame in
    let frames = s.frames.items in
    let is = last_in c.deref.result.now frames frame c.deref.ensures.value c.in-Some.ensures in
    subst (λ (x : Frames). Steps (applied Discards x) c.discard.result x (frames_of (reverse frames) (flat c.discard.new.self))) c.self.view_is
    (discards (reverse frames) frame (reverse (take (length frames - 1) frames)) c.discard.result (flat s.operands) (flat c.discard.new.self) is (base_within (reverse frames) frame (reverse (take (length frames - 1) frames)) (flat s.operands) is c.self.invariant.0) c.discard.ensures.own c.discard.ensures.below)

pub invariant_of-self : goal.invariant_of-self
invariant_of-self c =
    let s = c.self.inside in
    let kept = last_again c.deref.result.now s.frames.items c.in-Some.frame s.operands c.discard.new.self c.deref.ensures.value c.in-Some.ensures
    c.self.invariant.0 c.discard.ensures.below c.discard.ensures.seen in
    (kept.0, kept.1, c.self.invariant.2)
