use Rattle.std.proofs.Common.{◌∙◌, None, ap}
use Rattle.control_emit.specs.Pending.{pending_in}
use Rattle.control_emit.proofs.Bases.{kept-push}
use Rattle.control_emit.proofs.Views.{pending-push}
use Rattle.control_emit.proofs.Calls.{opens-label}
use Rattle.control_emit.proofs.labels.Labels.open_block.Goals as goal

pub invariant_of-self-2 : goal.invariant_of-self-2
invariant_of-self-2 c = rw c.in_ok-push.ensures.items (kept-push _ _ _ c.self.invariant.0 (c.requires.low, tt), c.self.invariant.1)

pub returns-clause-ok : goal.returns-clause-ok
returns-clause-ok c =
    let js = c.self.inside.jumps.items in
    opens-label c.args.self.now (pending_in js c.push.new.self.items) c.args.buffer.now c.args.base c.args.values None c.requires.held
    (ap (pending_in js) c.in_ok-push.ensures.items ∙ pending-push js c.self.inside.labels.items c.args.self.now c.args.base c.args.values None None c.self.view_is)
