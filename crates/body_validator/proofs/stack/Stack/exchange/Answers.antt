use Rattle.std.proofs.Common.{◌-◌, length, reverse, take, subst}
use Rattle.wasm_defs.specs.Typing.{Fixed}
use Rattle.body_validator.specs.Checking.{Frames, applied}
use Rattle.body_validator.specs.Stacks.{frames_of}
use Rattle.body_validator.specs.Exchange.{taken_types, Steps}
use Rattle.body_validator.specs.Kept.{flat}
use Rattle.body_validator.proofs.Frames.{last_in}
use Rattle.body_validator.proofs.Seen.{last_seen, last_again, exchange_steps}
use Rattle.body_validator.proofs.stack.Stack.exchange.Goals as goal

pub exchange-requires : goal.exchange-requires
exchange-requires c =
    let s = c.self.inside in
    last_seen c.deref.result.now s.frames.items c.in-Some.frame s.operands c.deref.ensures.value c.in-Some.ensures c.self.invariant.1

pub returns : goal.returns
returns c =
    let s = c.self.inside in
    let frame = c.in-Some.frame in
    let frames = s.frames.items in
    let p = taken_types c.args.taken in
    let g = reverse c.args.given.now in
    let is = last_in c.deref.result.now frames frame c.deref.ensures.value c.in-Some.ensures in
    subst (λ (x : Frames). Steps (applied (Fixed p g) x) c.exchange.result x (frames_of (reverse frames) (flat c.exchange.new.self))) c.self.view_is
    (exchange_steps (reverse frames) frame (reverse (take (length frames - 1) frames)) p g c.exchange.result (flat s.operands) (flat c.exchange.new.self) is c.exchange.ensures.own c.exchange.ensures.below)

pub invariant_of-self : goal.invariant_of-self
invariant_of-self c =
    let s = c.self.inside in
    let kept = last_again c.deref.result.now s.frames.items c.in-Some.frame s.operands c.exchange.new.self c.deref.ensures.value c.in-Some.ensures
    c.self.invariant.0 c.exchange.ensures.below c.exchange.ensures.seen in
    (kept.0, kept.1, c.self.invariant.2)
