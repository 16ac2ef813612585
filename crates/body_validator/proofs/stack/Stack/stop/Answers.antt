use Rattle.std.proofs.Common.{◌≡◌, ◌-◌, length, reverse, take, is_some, true, ap, ◌∙◌, sym}
use Rattle.wasm_defs.specs.Typing.{Stops}
use Rattle.body_validator.specs.Checking.{applied, take_all}
use Rattle.body_validator.specs.Stacks.{own_of}
use Rattle.body_validator.specs.Exchange.{taken_types}
use Rattle.body_validator.specs.Kept.{flat}
use Rattle.body_validator.proofs.Frames.{last_in, base_within}
use Rattle.body_validator.proofs.Seen.{stop_steps}
use Rattle.body_validator.proofs.stack.Stack.stop.Goals as goal

pub returns : goal.returns
returns c =
    let s = c.self.inside in
    let frame = c.in-Some.frame in
    let frames = s.frames.items in
    let items = flat s.operands in
    let rest = reverse (take (length frames - 1) frames) in
    let p = taken_types c.args.taken in
    let is = last_in c.deref.result.now frames frame c.deref.ensures.value c.in-Some.ensures in
    let found : is_some (take_all frame.unknown p (own_of items frame.base)) ≡ true = sym c.in_ok-finds.ensures.found ∙ c.if-not-branch.false in
    ap (applied (Stops p)) (sym c.self.view_is)
    ∙ stop_steps (reverse frames) (reverse c.replace_innermost.new.frames.items) frame rest p items (flat c.look.new.self) is c.replace_innermost.ensures
    (base_within (reverse frames) frame rest items is c.self.invariant.0) found (c.look.ensures.same ∙ c.cut.ensures.left ∙ ap (take frame.base) c.finds.ensures.same)
