use Rattle.std.proofs.Common.{◌≡◌, ℕ, [], ◌∙◌, None, Some, length, ap, subst}
use Rattle.control_emit.specs.Pending.{pending_in}
use Rattle.control_emit.specs.Emits.{draft, Opens}
use Rattle.control_emit.specs.Walks.{start_shape}
use Rattle.control_emit.proofs.Bases.{kept-push}
use Rattle.control_emit.proofs.Views.{pending-push}
use Rattle.control_emit.proofs.Calls.{opens-label}
use Rattle.control_emit.proofs.labels.Labels.open_loop.Goals as goal

pub invariant_of-self-2 : goal.invariant_of-self-2
invariant_of-self-2 c = rw c.in_ok-push.ensures.items (kept-push _ _ _ c.self.invariant.0 (c.requires.low, tt), c.self.invariant.1)

pub returns-clause-ok : goal.returns-clause-ok
returns-clause-ok c =
    let js = c.self.inside.jumps.items in
    let here : c.in_ok-here.here ≡ length c.args.buffer.now = c.in_ok-here.ensures ∙ c.place.ensures in
    let after = pending_in js c.push.new.self.items in
    let opens = opens-label c.args.self.now after c.args.buffer.now c.args.base c.args.values (Some c.in_ok-here.here) c.requires.held
    (ap (pending_in js) c.in_ok-push.ensures.items ∙ pending-push js c.self.inside.labels.items c.args.self.now c.args.base c.args.values (Some c.in_ok-here.here) None c.self.view_is) in
    subst (λ (n : ℕ). Opens (draft c.args.self.now c.args.buffer.now) (draft after c.args.buffer.now) (start_shape c.args.base c.args.values n) (λ e. [])) here opens
