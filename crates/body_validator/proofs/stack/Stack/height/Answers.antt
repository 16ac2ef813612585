use Rattle.std.proofs.Common.{reverse, ap, ◌∙◌, sym}
use Rattle.body_validator.specs.Checking.{height}
use Rattle.body_validator.specs.Kept.{flat}
use Rattle.body_validator.proofs.Frames.{height-frames_of}
use Rattle.body_validator.proofs.Seen.{kept_from}
use Rattle.body_validator.proofs.stack.Stack.height.Goals as goal

pub height-requires : goal.height-requires
height-requires c = let s = c.self.inside in kept_from (reverse s.frames.items) s.operands c.self.invariant.1

pub returns : goal.returns
returns c =
    let s = c.self.inside in
    c.height.ensures ∙ sym (height-frames_of (reverse s.frames.items) (flat s.operands) c.self.invariant.0) ∙ ap height c.self.view_is
