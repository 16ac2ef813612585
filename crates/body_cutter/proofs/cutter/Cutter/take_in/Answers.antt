use Rattle.std.proofs.Common.{◌≡◌, None, true, ◌++◌, refl, sym, ap, subst, ◌∙◌}
use Rattle.body_cutter.specs.declared.walk.Walk.{Walk}
use Rattle.body_cutter.specs.declared.cutter.Cutter.TheInside.{Inside}
use Rattle.body_cutter.specs.Bodies.{no_bodies}
use Rattle.body_cutter.specs.Queues.{Queue, all_closed}
use Rattle.body_cutter.specs.Cuttings.{Cutting, left, handed, IsPrompt}
use Rattle.body_cutter.specs.Held.{IsHeld, queue_of}
use Rattle.body_cutter.specs.Places.{still}
use Rattle.body_cutter.specs.Walks.{position_of, is_over, IsSound}
use Rattle.body_cutter.proofs.Cuts.{closing, sound_without}
use Rattle.body_cutter.proofs.Kept.{prompt_now, when_ok, IsMoved, is_moved, moved_left, sound_moved, held_going, IsClosed, held_over, IsOnWay, not_moved, held_back, starts_itself}
use Rattle.body_cutter.proofs.cutter.Cutter.take_in.Goals as goal
use Rattle.body_cutter.proofs.cutter.Cutter.take_in.Goals.{Else-is_over-2, After-close_last, then-is_err-via-then-is_err, then-is_err-via-else-is_err+then-is_err-2}

pub returns-then-is_over-clause-prompt : goal.returns-then-is_over-clause-prompt
returns-then-is_over-clause-prompt c = subst IsPrompt c.self.view_is (prompt_now c.self.inside.walk c.self.inside.queue c.self.invariant)

-- ---- memory runs out

pub invariant_of-self : goal.invariant_of-self
invariant_of-self c =
    let w = c.self.inside.walk in
    let q = c.self.inside.queue in
    let x = c.then-is_err.self-inside in
    let going : w.stop ≡ None = ap (λ (k : Cutting). k.place.stop) c.self.view_is ∙ c.requires.going in
    let ran : IsOnWay w c.run.new.self q q = record { starts = c.run.ensures.starts w.block (starts_itself w c.self.invariant.given); kept = c.run.ensures.kept; queue = refl } in
    let way : IsOnWay w x.walk q x.queue = elim c.then-is_err.branch [
      | then-is_err-via-then-is_err b ↦ subst (λ (k : Inside). IsOnWay w k.walk q k.queue) (sym b.self-inside-is) ran
      | then-is_err-via-else-is_err+then-is_err-2 b ↦
          subst (λ (k : Inside). IsOnWay w k.walk q k.queue) (sym b.self-inside-is)
          (not_moved w c.run.new.self q b.append.new.self b.append.new.fresh b.append.result (sym b.is_err-else-is_err.ensures.value ∙ b.if-is_err-2.true) ran b.append.ensures.err)
    ] in
    held_back w x.walk c.restore.new.self x.queue q c.save-saved.result c.self.invariant going c.save-saved.ensures way c.restore.ensures.place c.restore.ensures.block c.restore.ensures.rest

-- ---- bytes can follow

has_more : (c : Else-is_over-2) → IsMoved c.self.inside.walk c.run.new.self c.self.inside.queue c.append.new.self
has_more c =
    is_moved c.self.inside.walk c.run.new.self c.self.inside.queue c.append.new.self c.run.result c.append.result (sym c.is_err.ensures.value ∙ c.if-is_err.false) (sym c.is_err-else-is_err.ensures.value ∙ c.if-is_err-2.false)
    c.self.invariant (sym c.is_over.ensures ∙ c.if-is_over.false) c.run.ensures.sound c.run.ensures.batches c.run.ensures.kept c.run.ensures.counts c.append.ensures.ok

held_more : (c : Else-is_over-2) → IsHeld (record c.run.new.self { closed = c.append.new.fresh }) c.append.new.self
held_more c =
    held_going c.self.inside.walk c.run.new.self c.self.inside.queue c.append.new.self c.self.invariant (has_more c) c.append.new.fresh
    (when_ok c.append.result (sym c.is_err-else-is_err.ensures.value ∙ c.if-is_err-2.false) c.append.ensures.moved) (sym c.is_over-2.ensures ∙ c.if-is_over-2.false)

pub invariant_of-self-else-is_over-2 : goal.invariant_of-self-else-is_over-2
invariant_of-self-else-is_over-2 c = held_more c

pub returns-else-is_over-2-clause-prompt : goal.returns-else-is_over-2-clause-prompt
returns-else-is_over-2-clause-prompt c = prompt_now (record c.run.new.self { closed = c.append.new.fresh }) c.append.new.self (held_more c)

pub returns-else-is_over-2-clause-same : goal.returns-else-is_over-2-clause-same
unfolding left
returns-else-is_over-2-clause-same c = λ more.
    ap (λ (k : Cutting). left k (c.args.piece.now ++ more)) (sym c.self.view_is)
    ∙ moved_left c.self.inside.walk c.run.new.self c.self.inside.queue c.append.new.self (c.args.piece.now ++ more) more c.self.invariant (has_more c)
    (when_ok c.run.result (sym c.is_err.ensures.value ∙ c.if-is_err.false) c.run.ensures.same more)

-- ---- no byte can follow

has_all : (c : After-close_last) → IsMoved c.self.inside.walk c.run.new.self c.self.inside.queue c.append.new.self
has_all c =
    is_moved c.self.inside.walk c.run.new.self c.self.inside.queue c.append.new.self c.run.result c.append.result (sym c.is_err.ensures.value ∙ c.if-is_err.false) (sym c.is_err-else-is_err.ensures.value ∙ c.if-is_err-2.false)
    c.self.invariant (sym c.is_over.ensures ∙ c.if-is_over.false) c.run.ensures.sound c.run.ensures.batches c.run.ensures.kept c.run.ensures.counts c.append.ensures.ok

held_all : (c : After-close_last) → IsHeld c.close_last.new.walk c.close_last.new.queue
held_all c =
    let is : IsClosed c.run.new.self c.append.new.self c.close_last.new.queue =
    record { last = c.close_last.ensures.last; kept = c.close_last.ensures.kept; waits = ap (λ (q : Queue). q.closed) c.close_last.ensures.queue } in
    subst (λ (z : Walk). IsHeld z c.close_last.new.queue) (sym c.close_last.ensures.walk)
    (held_over c.self.inside.walk c.run.new.self c.self.inside.queue c.append.new.self c.close_last.new.queue c.append.new.fresh c.self.invariant (has_all c)
    (when_ok c.append.result (sym c.is_err-else-is_err.ensures.value ∙ c.if-is_err-2.false) c.append.ensures.moved) (sym c.is_over-2.ensures ∙ c.if-is_over-2.true) is)

pub invariant_of-self-then-is_over-2 : goal.invariant_of-self-then-is_over-2
invariant_of-self-then-is_over-2 c = held_all c

pub returns-then-is_over-2-clause-prompt : goal.returns-then-is_over-2-clause-prompt
returns-then-is_over-2-clause-prompt c = prompt_now c.close_last.new.walk c.close_last.new.queue (held_all c)

pub returns-then-is_over-2-clause-same : goal.returns-then-is_over-2-clause-same
unfolding left
returns-then-is_over-2-clause-same c = λ more.
    let v = c.run.new.self in
    let r = c.append.new.self in
    let z : Walk = record v { closed = c.append.new.fresh; block = no_bodies } in
    let over : is_over v ≡ true = sym c.is_over-2.ensures ∙ c.if-is_over-2.true in
    let sound : IsSound v = (has_all c).sound in
    let after : IsSound z = sound_without (record v { closed = c.append.new.fresh }) (sound_moved v c.append.new.fresh sound) over in
    ap (λ (k : Cutting). left k (c.args.piece.now ++ more)) (sym c.self.view_is)
    ∙ moved_left c.self.inside.walk v c.self.inside.queue r (c.args.piece.now ++ more) more c.self.invariant (has_all c)
    (when_ok c.run.result (sym c.is_err.ensures.value ∙ c.if-is_err.false) c.run.ensures.same more)
    ∙ closing v z (queue_of v r) more sound after over over refl
    ∙ ap (λ (k : Walk). handed (all_closed (queue_of v r)) (still (position_of k) more)) (sym c.close_last.ensures.walk)
    ∙ ap (λ (p : Queue). handed p (still (position_of c.close_last.new.walk) more)) (sym c.close_last.ensures.queue)
