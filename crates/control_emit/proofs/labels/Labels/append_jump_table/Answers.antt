use Rattle.std.proofs.Common.{ℕ, length, refl, sym, ◌∙◌, subst, arith}
use Rattle.frame_layout.specs.Templates.{label_at, jump_words, jumps, table_front}
use Rattle.control_emit.specs.Pending.{Shape, shapes, named, AreBelow}
use Rattle.control_emit.specs.Emits.{draft, Emits}
use Rattle.control_emit.specs.Walks.{end_shape}
use Rattle.control_emit.proofs.Composing.{count-shapes}
use Rattle.control_emit.proofs.Calls.{on_ok, framed, named_all, emits-plain, emits-table}
use Rattle.control_emit.proofs.Fronts.{front-of, front-later, on_err}
use Rattle.control_emit.proofs.labels.Labels.append_jump_table.Goals as goal

pub append_jumps-requires-clause-held : goal.append_jumps-requires-clause-held
append_jumps-requires-clause-held c =
    let w = framed c.args.layout.now in
    (emits-plain c.args.self.now c.args.buffer.now c.append_front.new.buffer (table_front w c.args.height (length c.args.labels.now) c.goal-takes.result.takes) c.requires.held (c.in_ok-append_front.ensures.ok w refl)).held

pub append_next-requires-clause-held : goal.append_next-requires-clause-held
append_next-requires-clause-held c = (c.in_ok-append_jumps.ensures.ok (framed c.args.layout.now) refl).held

pub append_next-requires-clause-label : goal.append_next-requires-clause-label
append_next-requires-clause-label c =
    let count = count-shapes c.append_jumps.new.self c.args.self.now (c.in_ok-append_jumps.ensures.ok (framed c.args.layout.now) refl).shapes_are in
    omega (arith, c.requires.last)

pub returns-clause-ok : goal.returns-clause-ok
returns-clause-ok c = λ w l.
    let g = c.goal-takes.result in
    let s : Shape = record { base = g.base; takes = g.takes; start = g.start } in
    let is = c.args.labels.now in
    let a = draft c.args.self.now c.args.buffer.now in
    let b = draft c.args.self.now c.append_front.new.buffer in
    let m = draft c.append_jumps.new.self c.append_jumps.new.buffer in
    let z = draft c.append_next.new.self c.append_next.new.buffer in
    let first = emits-plain c.args.self.now c.args.buffer.now c.append_front.new.buffer (table_front w c.args.height (length is) g.takes) c.requires.held (c.in_ok-append_front.ensures.ok w l) in
    let all = subst (λ (j : ℕ). Emits b m (λ ends. jumps w j (length b.words) (named_all w b is ends))) c.saturating_sub-below.ensures (c.in_ok-append_jumps.ensures.ok w l) in
    on_ok c.append_next.result
    (λ x.
    let last = subst (λ (j : ℕ). Emits m z (λ ends. jump_words w j (length m.words) (label_at w (named (shapes m.labels) ends) c.args.last))) c.saturating_sub-below.ensures x in
    emits-table w a b m z c.args.height c.args.last is s (end_shape 0 0) first all last c.goal-takes.ensures.is c.requires.last)
    (c.append_next.ensures.ok w l)

pub returns-in_err-append_jumps-clause-front : goal.returns-in_err-append_jumps-clause-front
returns-in_err-append_jumps-clause-front c =
    let old = c.args.buffer.now in
    let one = c.append_front.new.buffer in
    front-later old one c.append_jumps.new.buffer (front-of old one _ (c.in_ok-append_front.ensures.ok (framed c.args.layout.now) refl)) c.in_err-append_jumps.ensures.front

pub returns-clause-front : goal.returns-clause-front
returns-clause-front c =
    let old = c.args.buffer.now in
    let one = c.append_front.new.buffer in
    let two = c.append_jumps.new.buffer in
    front-later old one c.append_next.new.buffer (front-of old one _ (c.in_ok-append_front.ensures.ok (framed c.args.layout.now) refl))
    (front-later one two c.append_next.new.buffer c.in_ok-append_jumps.ensures.front c.append_next.ensures.front)

pub append_next-requires-clause-others : goal.append_next-requires-clause-others
append_next-requires-clause-others c =
    let count = count-shapes c.append_jumps.new.self c.args.self.now (c.in_ok-append_jumps.ensures.ok (framed c.args.layout.now) refl).shapes_are in
    subst (λ (n : ℕ). AreBelow n c.args.labels.now) (sym count) c.requires.labels

pub returns-clause-kept : goal.returns-clause-kept
returns-clause-kept c = on_err c.append_next.result (λ is. is ∙ c.in_ok-append_jumps.ensures.noted) c.append_next.ensures.err
