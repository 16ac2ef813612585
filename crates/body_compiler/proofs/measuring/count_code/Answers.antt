use Rattle.std.proofs.Common.{Bool, sym, subst}
use Rattle.body_compiler.specs.Counting.{word_count, IsCountingOn}
use Rattle.body_compiler.proofs.CountingOn.{counted_code, stopped_code}
use Rattle.body_compiler.proofs.Going.{is_valid}
use Rattle.body_compiler.proofs.measuring.count_code.Goals as goal

pub returns-in-Err : goal.returns-in-Err
returns-in-Err c = λ c' code front k.
    stopped_code c' code front c.read_code.new.sink.words c.in-Err.stop (c.in-Err.ensures.goes c' code front (subst (λ (b : Bool). IsCountingOn c.args.reading.counted b c' c.args.reading.last c.args.fields.now c.args.check.now code front (word_count c.args.counter.now.takes.items c.args.counter.now.words)) (sym c.requires.short) k)).1

pub returns-then-counter : goal.returns-then-counter
returns-then-counter c = λ c' code front k.
    let came = (c.in-Ok.ensures.goes c' code front (subst (λ (b : Bool). IsCountingOn c.args.reading.counted b c' c.args.reading.last c.args.fields.now c.args.check.now code front (word_count c.args.counter.now.takes.items c.args.counter.now.words)) (sym c.requires.short) k)).0 in
    let x = subst (λ (b : Bool). IsCountingOn c.args.reading.counted b c' c.args.reading.last c.read_code.new.fields c.read_code.new.check code front (word_count c.read_code.new.sink.takes.items c.read_code.new.sink.words)) c.if-counter.true came.0 in
    let valid = is_valid c.args.reading.counted c' c.args.reading.last c.read_code.new.fields c.read_code.new.check code x.0 c.in-Ok.ensures.over came.1 in
    (valid.0, valid.1, x.1)

pub returns-else-counter : goal.returns-else-counter
returns-else-counter c = λ c' code front k.
    let came = (c.in-Ok.ensures.goes c' code front (subst (λ (b : Bool). IsCountingOn c.args.reading.counted b c' c.args.reading.last c.args.fields.now c.args.check.now code front (word_count c.args.counter.now.takes.items c.args.counter.now.words)) (sym c.requires.short) k)).0 in
    let x = subst (λ (b : Bool). IsCountingOn c.args.reading.counted b c' c.args.reading.last c.read_code.new.fields c.read_code.new.check code front (word_count c.read_code.new.sink.takes.items c.read_code.new.sink.words)) c.if-counter.false came.0 in
    counted_code c.args.reading.counted c' c.args.reading.last c.read_code.new.fields c.read_code.new.check code front (word_count c.read_code.new.sink.takes.items c.read_code.new.sink.words) x c.in-Ok.ensures.over came.1
