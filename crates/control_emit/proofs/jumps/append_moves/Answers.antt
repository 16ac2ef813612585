use Rattle.std.proofs.Common.{◌+◌, ◌++◌, List, map, refl, ap, ◌∙◌, sym}
use Rattle.rv_isa.specs.declared.operations.Op.{Op}
use Rattle.rv_isa.specs.Words.{word_of}
use Rattle.frame_layout.specs.Templates.{move_words}
use Rattle.control_emit.proofs.Calls.{framed}
use Rattle.control_emit.proofs.Fronts.{front-same, front-of, front-later}
use Rattle.control_emit.proofs.Moves.{appended, one_move, moves-more}
use Rattle.control_emit.proofs.jumps.append_moves.Goals as goal

pub loop-i-preserved : goal.loop-i-preserved
loop-i-preserved c = λ w l.
    let i = c.loop-i.i in
    appended c.args.buffer.now c.loop-i.buffer c.append_move.new.buffer (move_words w i c.args.j c.args.base) (one_move w (c.args.j + i) (c.args.base + i)) (c.loop-i.invariant w l) (c.in_ok-append_move.ensures.ok w l)
    ∙ ap (λ (ops : List Op). c.args.buffer.now ++ map word_of ops) (sym (moves-more w i c.args.j c.args.base))

pub returns-in_err-append_move-clause-front : goal.returns-in_err-append_move-clause-front
returns-in_err-append_move-clause-front c =
    let w = framed c.args.layout.now in
    front-later c.args.buffer.now c.loop-i.buffer c.append_move.new.buffer (front-of c.args.buffer.now c.loop-i.buffer (map word_of (move_words w c.loop-i.i c.args.j c.args.base)) (c.loop-i.invariant w refl))
    (front-same c.loop-i.buffer c.append_move.new.buffer c.in_err-append_move.ensures.err)

pub returns-clause-front : goal.returns-clause-front
returns-clause-front c = front-of c.args.buffer.now c.loop-i.buffer (map word_of (move_words (framed c.args.layout.now) c.loop-i.i c.args.j c.args.base)) (c.loop-i.invariant (framed c.args.layout.now) refl)
