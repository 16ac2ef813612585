use Rattle.std.proofs.lemmas.Result.{err_from_is_err_and}
use Rattle.image_format.specs.Reading.{u32_at}
use Rattle.image_format.proofs.Loop.{goes_on, ends, is_done}
use Rattle.image_format.proofs.reading.lists.words_at.Goals as goal

pub returns-in_err-word : goal.returns-in_err-word
returns-in_err-word c =
    let p = err_from_is_err_and c.from_residual-in_err-word.result c.from_residual-in_err-word.ensures.1 in
    rw (p.1, p.2) (ends (λ _. u32_at) c.loop.words c.args.count c.loop.counter c.loop.rest.now _ c.loop.invariant c.in_err-word.field-0.0 c.loop-test.true c.in_err-word.ensures)

pub loop-preserved : goal.loop-preserved
loop-preserved c =
    rw c.in_ok-push.ensures.ok (goes_on (λ _. u32_at) c.loop.words c.args.count c.loop.counter c.loop.rest.now _ c.loop.invariant c.in_ok-word.word c.in_ok-word.after.now c.loop-test.true c.in_ok-word.ensures)

pub returns : goal.returns
returns c = is_done (λ _. u32_at) c.loop.words c.args.count c.loop.counter c.loop.rest.now _ c.loop.invariant c.loop-test.false
