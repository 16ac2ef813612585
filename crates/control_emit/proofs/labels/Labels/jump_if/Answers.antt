use Rattle.std.proofs.Common.{◌≡◌, ℕ, List, Result, sym, subst, length}
use Rattle.std.specs.Prelude.{OnErr}
use Rattle.frame_layout.specs.Templates.{label_at, jump_if_words}
use Rattle.control_emit.specs.Pending.{shapes, named}
use Rattle.control_emit.specs.Emits.{draft, Emits}
use Rattle.control_emit.proofs.Fronts.{settles}
use Rattle.control_emit.proofs.labels.Labels.jump_if.Goals as goal

pub returns-clause-ok : goal.returns-clause-ok
returns-clause-ok c = λ w l.
    settles
    (λ (new : List ℕ). Emits (draft c.args.self.now c.args.buffer.now) (draft c.append_jump_if-outcome.new.self new) (λ ends. jump_if_words w c.args.height (length c.args.buffer.now) (label_at w (named (shapes c.args.self.now) ends) c.args.label)))
    c.append_jump_if-outcome.result c.settled.result c.append_jump_if-outcome.new.buffer c.settled.new.buffer c.settled.ensures.is c.settled.ensures.ok (c.append_jump_if-outcome.ensures.ok w l)

pub returns-clause-kept : goal.returns-clause-kept
returns-clause-kept c = subst (λ (r : Result _ _). OnErr r (c.append_jump_if-outcome.new.self ≡ c.args.self.now)) (sym c.settled.ensures.is) c.append_jump_if-outcome.ensures.kept
