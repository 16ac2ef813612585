use Rattle.std.proofs.Common.{◌-◌, length, reverse, take, subst}
use Rattle.wasm_defs.specs.Typing.{Selects}
use Rattle.body_validator.specs.Checking.{Frames, applied}
use Rattle.body_validator.specs.Stacks.{frames_of}
use Rattle.body_validator.specs.Exchange.{Steps}
use Rattle.body_validator.specs.Kept.{flat}
use Rattle.body_validator.proofs.Frames.{last_in}
use Rattle.body_validator.proofs.Seen.{last_seen, last_again, selects}
use Rattle.body_validator.proofs.stack.Stack.select.Goals as goal

pub select-requires : goal.select-requires
select-requires c =
    let s = c.self.inside in
    last_seen c.deref.result.now s.frames.items c.in-Some.frame s.operands c.deref.ensures.value c.in-Some.ensures c.self.invariant.1

pub returns : goal.returns
returns c =
    let s = c.self.inside in
    let frame = c.in-Some.frame in
    let frames = s.frames.items in
    let is = last_in c.deref.result.now frames frame c.deref.ensures.value c.in-Some.ensures in
    subst (λ (x : Frames). Steps (applied Selects x) c.select.result x (frames_of (reverse frames) (flat c.select.new.self))) c.self.view_is
    (selects (reverse frames) frame (reverse (take (length frames - 1) frames)) c.select.result (flat s.operands) (flat c.select.new.self) is c.select.ensures.own c.select.ensures.below)

pub invariant_of-self : goal.invariant_of-self
invariant_of-self c =
    let s = c.self.inside in
    let kept = last_again c.deref.result.now s.frames.items c.in-Some.frame s.operands c.select.new.self c.deref.ensures.value c.in-Some.ensures
    c.self.invariant.0 c.select.ensures.below c.select.ensures.seen in
    (kept.0, kept.1, c.self.invariant.2)
