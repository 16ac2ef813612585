use Rattle.std.proofs.Common.{◌≡◌, ◌-◌, ◌++◌, ℕ, Option, List, map, length, refl, ap, ◌∙◌, sym, subst}
use Rattle.rv_isa.specs.Words.{word_of}
use Rattle.frame_layout.specs.Macros.{distance, far}
use Rattle.frame_layout.specs.Templates.{EmitContext, move_words}
use Rattle.control_emit.specs.Pending.{Pending, Shape, Within, place_or, end_at, unjumped}
use Rattle.control_emit.specs.Emits.{draft, Emits}
use Rattle.control_emit.specs.Walks.{end_shape}
use Rattle.control_emit.proofs.Calls.{on_ok, framed, emits-plain, emits-lead}
use Rattle.control_emit.proofs.Fronts.{front-of, front-either, front-later}
use Rattle.control_emit.proofs.Undoing.{unjumps, unjumped-none}
use Rattle.control_emit.proofs.labels.Labels.append_jump.Goals as goal

-- the values are moved
moves : (w : EmitContext) (labels : List Pending) (old new : List ℕ) (h from takes base : ℕ) → Within (length old) labels → from ≡ h - takes → new ≡ old ++ map word_of (move_words w takes from base)
    → Emits (draft labels old) (draft labels new) (λ es. move_words w takes (h - takes) base)
moves w labels old new h from takes base held e is =
    emits-plain labels old new (move_words w takes (h - takes) base) held (is ∙ ap (λ (j : ℕ). old ++ map word_of (move_words w takes j base)) e)

pub lead_behind-requires-clause-held : goal.lead_behind-requires-clause-held
lead_behind-requires-clause-held c =
    let w = framed c.args.layout.now in
    let g = c.goal-goal.result in
    (moves w c.args.self.now c.args.buffer.now c.append_moves.new.buffer c.args.height c.saturating_sub-from.result g.takes g.base c.requires.held c.saturating_sub-from.ensures (c.in_ok-append_moves.ensures.ok w refl)).held

pub returns-in-Some-clause-ok : goal.returns-in-Some-clause-ok
returns-in-Some-clause-ok c = λ w l.
    let g = c.goal-goal.result in
    let s : Shape = record { base = g.base; takes = g.takes; start = g.start } in
    let a = draft c.args.self.now c.args.buffer.now in
    let b = draft c.args.self.now c.append_moves.new.buffer in
    let z = draft c.args.self.now c.lead_back.new.buffer in
    let k = c.args.label in
    let moved = moves w c.args.self.now c.args.buffer.now c.append_moves.new.buffer c.args.height c.saturating_sub-from.result g.takes g.base c.requires.held c.saturating_sub-from.ensures (c.in_ok-append_moves.ensures.ok w l) in
    on_ok c.lead_back.result
    (λ x.
    let jump = emits-plain c.args.self.now c.append_moves.new.buffer c.lead_back.new.buffer (far (distance (length b.words) c.in-Some.place)) moved.held x in
    let to = subst (λ (o : Option ℕ). Emits b z (λ es. far (distance (length b.words) (place_or o (end_at k es))))) (sym c.in-Some.is) jump in
    emits-lead w a b z c.args.height k s (end_shape 0 0) moved to c.goal-goal.ensures.is c.requires.label)
    c.lead_back.ensures.ok

pub returns-in-None-clause-ok : goal.returns-in-None-clause-ok
returns-in-None-clause-ok c = λ w l.
    let g = c.goal-goal.result in
    let s : Shape = record { base = g.base; takes = g.takes; start = g.start } in
    let a = draft c.args.self.now c.args.buffer.now in
    let b = draft c.args.self.now c.append_moves.new.buffer in
    let z = draft c.lead_behind.new.self c.lead_behind.new.buffer in
    let k = c.args.label in
    let moved = moves w c.args.self.now c.args.buffer.now c.append_moves.new.buffer c.args.height c.saturating_sub-from.result g.takes g.base c.requires.held c.saturating_sub-from.ensures (c.in_ok-append_moves.ensures.ok w l) in
    on_ok c.lead_behind.result
    (λ x.
    let to = subst (λ (o : Option ℕ). Emits b z (λ es. far (distance (length b.words) (place_or o (end_at k es))))) (sym c.in-None.is) x in
    emits-lead w a b z c.args.height k s (end_shape 0 0) moved to c.goal-goal.ensures.is c.requires.label)
    c.lead_behind.ensures.ok

pub returns-in-Some-clause-front : goal.returns-in-Some-clause-front
returns-in-Some-clause-front c =
    let old = c.args.buffer.now in
    let mid = c.append_moves.new.buffer in
    front-later old mid c.lead_back.new.buffer (front-of old mid _ (c.in_ok-append_moves.ensures.ok (framed c.args.layout.now) refl))
    (front-either c.lead_back.result mid c.lead_back.new.buffer _ c.lead_back.ensures.ok c.lead_back.ensures.err)

pub returns-in-None-clause-front : goal.returns-in-None-clause-front
returns-in-None-clause-front c =
    let old = c.args.buffer.now in
    let mid = c.append_moves.new.buffer in
    front-later old mid c.lead_behind.new.buffer (front-of old mid _ (c.in_ok-append_moves.ensures.ok (framed c.args.layout.now) refl)) c.lead_behind.ensures.front

pub returns-in-Some-clause-noted : goal.returns-in-Some-clause-noted
returns-in-Some-clause-noted c =
    let g = c.goal-goal.result in
    let s : Shape = record { base = g.base; takes = g.takes; start = g.start } in
    on_ok c.lead_back.result (λ is. unjumped-none c.in-Some.place c.args.label c.args.self.now (end_shape 0 0) s c.goal-goal.ensures.is c.in-Some.is c.requires.label) c.lead_back.ensures.ok

pub returns-in-None-clause-noted : goal.returns-in-None-clause-noted
returns-in-None-clause-noted c =
    let g = c.goal-goal.result in
    let s : Shape = record { base = g.base; takes = g.takes; start = g.start } in
    let n = length c.append_moves.new.buffer in
    on_ok c.lead_behind.result
    (λ is. ap (unjumped c.args.label) is ∙ unjumps n c.args.label c.args.self.now (end_shape 0 0) s c.goal-goal.ensures.is c.in-None.is c.requires.label)
    c.lead_behind.ensures.noted
