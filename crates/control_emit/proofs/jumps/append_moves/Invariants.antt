use Rattle.std.proofs.Common.{◌≡◌, ◌++◌, map}
use Rattle.rv_isa.specs.Words.{word_of}
use Rattle.frame_layout.specs.Templates.{EmitContext, move_words}
use Rattle.control_emit.proofs.jumps.append_moves.Given as goal

abbrev pub invariant-loop-i : goal.invariant-loop-i
invariant-loop-i l = (w : EmitContext) → w.layout ≡ l.layout → l.buffer ≡ l.initial.buffer ++ map word_of (move_words w l.i l.j l.base)
