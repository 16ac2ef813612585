use Rattle.std.proofs.Common.{reverse, ap, ◌∙◌}
use Rattle.body_validator.specs.Checking.{is_live}
use Rattle.body_validator.specs.Kept.{flat}
use Rattle.body_validator.proofs.Frames.{live_frames}
use Rattle.body_validator.proofs.stack.Stack.is_live.Goals as goal

pub returns : goal.returns
returns c =
    let s = c.self.inside in
    c.self.invariant.2 ∙ live_frames (reverse s.frames.items) (flat s.operands) ∙ ap is_live c.self.view_is
