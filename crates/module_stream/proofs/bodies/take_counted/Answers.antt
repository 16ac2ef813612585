use Rattle.std.proofs.Common.{sym, ◌∙◌}
use Rattle.body_cutter.specs.Bodies.{body_of}
use Rattle.module_stream.proofs.Sharing.{code_limited, code_added, words_counted, not_kept}
use Rattle.module_stream.proofs.bodies.take_counted.Goals as goal

pub returns-in-Err-clause-takes : goal.returns-in-Err-clause-takes
returns-in-Err-clause-takes c = code_limited c.args.spaces.now c.args.codes.now c.args.codes.now (body_of c.args.body) c.requires.code.0 c.args.words c.in-Err.stop c.requires.code.1 c.requires.code.2 c.in-Err.ensures

pub count_words-requires-clause-none : goal.count_words-requires-clause-none
count_words-requires-clause-none c = not_kept c.args.codes.now.kept (sym c.are_kept.ensures ∙ c.if-are_kept.false)

pub returns-clause-takes : goal.returns-clause-takes
returns-clause-takes c =
    let code = c.requires.code.0 in
    code_added c.args.spaces.now c.args.codes.now c.count_words.new.self (body_of c.args.body) code c.args.words c.requires.code.1 c.requires.code.2 c.in-Ok.ensures
    (words_counted c.args.codes.now c.count_words.new.self code c.args.words (not_kept c.args.codes.now.kept (sym c.are_kept.ensures ∙ c.if-are_kept.false)) c.requires.code.1 c.count_words.ensures)
