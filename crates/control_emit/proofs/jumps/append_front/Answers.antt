use Rattle.std.proofs.Common.{◌-◌, ◌++◌, List, map, refl, ap, ◌∙◌}
use Rattle.rv_isa.specs.declared.operations.Op.{Op}
use Rattle.rv_isa.specs.Words.{word_of}
use Rattle.frame_layout.specs.Macros.{t0}
use Rattle.frame_layout.specs.Templates.{load_operand, scale_words}
use Rattle.control_emit.specs.Choices.{count_words, choice_words}
use Rattle.control_emit.proofs.Calls.{framed, on_ok}
use Rattle.control_emit.proofs.Fronts.{front-same, front-of, front-either, front-later}
use Rattle.control_emit.proofs.Moves.{appended, front-is}
use Rattle.control_emit.proofs.jumps.append_front.Goals as goal

pub returns-clause-ok : goal.returns-clause-ok
returns-clause-ok c = λ w l.
    let old = c.args.buffer.now in
    let one = c.append_topmost.new.buffer in
    let two = c.append_count.new.buffer in
    let three = c.append_scale.new.buffer in
    let last = c.append_choice.new.buffer in
    let load = load_operand w t0 (c.args.height - 1) in
    let count = count_words c.args.count in
    let scale = scale_words w c.args.takes in
    on_ok c.append_choice.result
    (λ is. appended old one last load (count ++ (scale ++ choice_words)) (c.in_ok-append_topmost.ensures.ok w l)
    (appended one two last count (scale ++ choice_words) c.in_ok-append_count.ensures.ok
    (appended two three last scale choice_words (c.in_ok-append_scale.ensures.ok w) is))
    ∙ ap (λ (ops : List Op). old ++ map word_of ops) (front-is w c.args.height c.args.count c.args.takes))
    c.append_choice.ensures.ok

pub returns-in_err-append_count-clause-front : goal.returns-in_err-append_count-clause-front
returns-in_err-append_count-clause-front c =
    let old = c.args.buffer.now in
    let one = c.append_topmost.new.buffer in
    front-later old one c.append_count.new.buffer (front-of old one _ (c.in_ok-append_topmost.ensures.ok (framed c.args.layout.now) refl)) (front-same one c.append_count.new.buffer c.in_err-append_count.ensures.err)

pub returns-in_err-append_scale-clause-front : goal.returns-in_err-append_scale-clause-front
returns-in_err-append_scale-clause-front c =
    let old = c.args.buffer.now in
    let one = c.append_topmost.new.buffer in
    let two = c.append_count.new.buffer in
    front-later old one c.append_scale.new.buffer (front-of old one _ (c.in_ok-append_topmost.ensures.ok (framed c.args.layout.now) refl))
    (front-later one two c.append_scale.new.buffer (front-of one two _ c.in_ok-append_count.ensures.ok) (front-same two c.append_scale.new.buffer c.in_err-append_scale.ensures.err))

pub returns-clause-front : goal.returns-clause-front
returns-clause-front c =
    let w = framed c.args.layout.now in
    let old = c.args.buffer.now in
    let one = c.append_topmost.new.buffer in
    let two = c.append_count.new.buffer in
    let three = c.append_scale.new.buffer in
    let last = c.append_choice.new.buffer in
    front-later old one last (front-of old one _ (c.in_ok-append_topmost.ensures.ok w refl))
    (front-later one two last (front-of one two _ c.in_ok-append_count.ensures.ok)
    (front-later two three last (front-of two three _ (c.in_ok-append_scale.ensures.ok w)) (front-either c.append_choice.result three last _ c.append_choice.ensures.ok c.append_choice.ensures.err)))
