use Rattle.std.proofs.Common.{◌<◌, length, reverse, subst, arith}
use Rattle.std.proofs.lemmas.List.{length-reverse}
use Rattle.wasm_defs.specs.Typing.{Fixed}
use Rattle.body_validator.specs.Checking.{Frames, applied}
use Rattle.body_validator.specs.Stacks.{frames_of}
use Rattle.body_validator.specs.Exchange.{few_types, given_types, Tries}
use Rattle.body_validator.specs.Kept.{flat}
use Rattle.body_validator.proofs.Seen.{tried_laid, tried_tries}
use Rattle.body_validator.proofs.stack.Stack.exchange_few.Goals as goal

pub invariant_of-self : goal.invariant_of-self
invariant_of-self c =
    let s = c.self.inside in
    let frames = reverse s.frames.items in
    let p = few_types c.args.taken in
    let g = given_types c.args.given in
    let some : 0 < length frames = omega (arith, c.len.ensures, c.if-len-eq0.false, s.frames.ok.0, length-reverse s.frames.items) in
    let laid = tried_laid frames p g s.operands c.exchange_few.new.self c.exchange_few.result some c.self.invariant.0 c.self.invariant.1 c.exchange_few.ensures in (
      laid.0,
      laid.1,
      c.self.invariant.2,
    )

pub returns : goal.returns
returns c =
    let s = c.self.inside in
    let frames = reverse s.frames.items in
    let p = few_types c.args.taken in
    let g = given_types c.args.given in
    let some : 0 < length frames = omega (arith, c.len.ensures, c.if-len-eq0.false, s.frames.ok.0, length-reverse s.frames.items) in
    subst (λ (x : Frames). Tries (applied (Fixed p g) x) c.exchange_few.result x (frames_of frames (flat c.exchange_few.new.self))) c.self.view_is
    (tried_tries frames p g s.operands c.exchange_few.new.self c.exchange_few.result some c.self.invariant.1 c.exchange_few.ensures)
