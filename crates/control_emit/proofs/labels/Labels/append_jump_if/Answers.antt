use Rattle.std.proofs.Common.{◌≡◌, ◌+◌, ◌-◌, ◌++◌, ℕ, List, map, length, refl, ap, ◌∙◌, subst, arith, length-append}
use Rattle.rv_isa.specs.Words.{word_of}
use Rattle.frame_layout.specs.Macros.{t0}
use Rattle.frame_layout.specs.Templates.{EmitContext, label_at, load_operand, unless_words, jump_words}
use Rattle.control_emit.specs.Pending.{Shape, shapes, named}
use Rattle.control_emit.specs.Emits.{draft, Emits}
use Rattle.control_emit.specs.Walks.{end_shape}
use Rattle.control_emit.proofs.Calls.{on_ok, framed, emits-plain, emits-if}
use Rattle.control_emit.proofs.Fronts.{front-same, front-of, front-later}
use Rattle.control_emit.proofs.Moves.{appended}
use Rattle.control_emit.proofs.labels.Labels.append_jump_if.Goals as goal

-- the words before the jump
front : (w : EmitContext) (h takes : ℕ) (old mid new : List ℕ) → mid ≡ old ++ map word_of (load_operand w t0 (h - 1)) → new ≡ mid ++ map word_of (unless_words w (length mid) takes)
    → new ≡ old ++ map word_of (load_operand w t0 (h - 1) ++ unless_words w (length old + 3) takes)
front w h takes old mid new first second =
    let load = load_operand w t0 (h - 1) in
    let n = ap (λ (l : List ℕ). length l) first in
    let m = length-append old (map word_of load) in
    let three : length (map word_of load) ≡ 3 = refl in
    let at : length mid ≡ length old + 3 = omega arith in
    appended old mid new load (unless_words w (length old + 3) takes) first (second ∙ ap (λ (k : ℕ). mid ++ map word_of (unless_words w k takes)) at)

pub append_jump-requires-clause-held : goal.append_jump-requires-clause-held
append_jump-requires-clause-held c =
    let w = framed c.args.layout.now in
    let h = c.args.height in
    let t = c.goal-takes.result.takes in
    let old = c.args.buffer.now in
    (emits-plain c.args.self.now old c.append_unless.new.buffer (load_operand w t0 (h - 1) ++ unless_words w (length old + 3) t) c.requires.held
    (front w h t old c.append_topmost.new.buffer c.append_unless.new.buffer (c.in_ok-append_topmost.ensures.ok w refl) (c.in_ok-append_unless.ensures.ok w))).held

pub returns-clause-ok : goal.returns-clause-ok
returns-clause-ok c = λ w l.
    let g = c.goal-takes.result in
    let s : Shape = record { base = g.base; takes = g.takes; start = g.start } in
    let old = c.args.buffer.now in
    let a = draft c.args.self.now old in
    let b = draft c.args.self.now c.append_unless.new.buffer in
    let z = draft c.append_jump.new.self c.append_jump.new.buffer in
    let k = c.args.label in
    let h = c.args.height in
    let first = emits-plain c.args.self.now old c.append_unless.new.buffer (load_operand w t0 (h - 1) ++ unless_words w (length old + 3) g.takes) c.requires.held
    (front w h g.takes old c.append_topmost.new.buffer c.append_unless.new.buffer (c.in_ok-append_topmost.ensures.ok w l) (c.in_ok-append_unless.ensures.ok w)) in
    on_ok c.append_jump.result
    (λ x.
    let jump = subst (λ (j : ℕ). Emits b z (λ ends. jump_words w j (length b.words) (label_at w (named (shapes b.labels) ends) k))) c.saturating_sub.ensures x in
    emits-if w a b z h k s (end_shape 0 0) first jump c.goal-takes.ensures.is c.requires.label)
    (c.append_jump.ensures.ok w l)

pub returns-in_err-append_unless-clause-front : goal.returns-in_err-append_unless-clause-front
returns-in_err-append_unless-clause-front c =
    let old = c.args.buffer.now in
    let mid = c.append_topmost.new.buffer in
    front-later old mid c.append_unless.new.buffer (front-of old mid _ (c.in_ok-append_topmost.ensures.ok (framed c.args.layout.now) refl)) (front-same mid c.append_unless.new.buffer c.in_err-append_unless.ensures.err)

pub returns-clause-front : goal.returns-clause-front
returns-clause-front c =
    let w = framed c.args.layout.now in
    let old = c.args.buffer.now in
    let one = c.append_topmost.new.buffer in
    let two = c.append_unless.new.buffer in
    front-later old one c.append_jump.new.buffer (front-of old one _ (c.in_ok-append_topmost.ensures.ok w refl))
    (front-later one two c.append_jump.new.buffer (front-of one two _ (c.in_ok-append_unless.ensures.ok w)) c.append_jump.ensures.front)
