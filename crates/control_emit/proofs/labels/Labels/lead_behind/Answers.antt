use Rattle.std.proofs.Common.{◌≡◌, ◌++◌, ℕ, List, Result, map, length, take, ap, sym, ◌∙◌, subst}
use Rattle.std.specs.Prelude.{OnOk, OnErr}
use Rattle.std.proofs.lemmas.List.{take_at}
use Rattle.rv_isa.specs.Words.{word_of}
use Rattle.frame_layout.specs.Macros.{distance, far}
use Rattle.control_emit.specs.Pending.{end_at, jumping}
use Rattle.control_emit.specs.Emits.{draft, Emits}
use Rattle.control_emit.proofs.Calls.{on_ok, emits-jump}
use Rattle.control_emit.proofs.Fronts.{front-of, settles, settled-front, on_err}
use Rattle.control_emit.proofs.labels.Labels.lead_behind.Goals as goal

pub returns-clause-ok : goal.returns-clause-ok
returns-clause-ok c =
    let n = c.place-here.result in
    let old = c.args.buffer.now in
    let k = c.args.label in
    settles (λ (new : List ℕ). Emits (draft c.args.self.now old) (draft c.wait-outcome.new.self new) (λ ends. far (distance (length old) (end_at k ends)))) c.wait-outcome.result c.settled.result c.lead_back.new.buffer c.settled.new.buffer
    c.settled.ensures.is c.settled.ensures.ok
    (on_ok c.wait-outcome.result
    (λ waits. emits-jump c.args.self.now c.wait-outcome.new.self old c.lead_back.new.buffer k n c.requires.held c.requires.label c.place-here.ensures
    (c.in_ok-lead_back.ensures.ok ∙ ap (λ (m : ℕ). old ++ map word_of (far (distance m n))) (sym c.place-here.ensures)) waits)
    c.wait-outcome.ensures.ok)

pub returns-clause-noted : goal.returns-clause-noted
returns-clause-noted c =
    let k = c.args.label in
    let self = c.args.self.now in
    subst (λ (r : Result _ _). OnOk r (c.wait-outcome.new.self ≡ jumping (length c.args.buffer.now) k self)) (sym c.settled.ensures.is)
    (on_ok c.wait-outcome.result (λ waits. waits ∙ ap (λ (n : ℕ). jumping n k self) c.place-here.ensures) c.wait-outcome.ensures.ok)

pub returns-clause-err : goal.returns-clause-err
returns-clause-err c =
    let old = c.args.buffer.now in
    let n = c.place-here.result in
    let jump = far (distance (length old) n) in
    subst (λ (r : Result _ _). OnErr r (c.settled.new.buffer ≡ old)) (sym c.settled.ensures.is)
    (on_err c.wait-outcome.result
    (λ is. is ∙ ap (take n) c.in_ok-lead_back.ensures.ok ∙ take_at old (map word_of jump) n (sym c.place-here.ensures))
    c.settled.ensures.err)

pub returns-clause-kept : goal.returns-clause-kept
returns-clause-kept c = subst (λ (r : Result _ _). OnErr r (c.wait-outcome.new.self ≡ c.args.self.now)) (sym c.settled.ensures.is) c.wait-outcome.ensures.err

pub returns-clause-front : goal.returns-clause-front
returns-clause-front c =
    let old = c.args.buffer.now in
    let n = c.place-here.result in
    let jump = far (distance (length old) n) in
    settled-front c.wait-outcome.result old c.lead_back.new.buffer c.settled.new.buffer (front-of old c.lead_back.new.buffer _ c.in_ok-lead_back.ensures.ok) c.settled.ensures.ok
    (on_err c.wait-outcome.result
    (λ is. is ∙ ap (take n) c.in_ok-lead_back.ensures.ok ∙ take_at old (map word_of jump) n (sym c.place-here.ensures))
    c.settled.ensures.err)
