use Rattle.module_stream.specs.ValidPrefixes.{closing_bytes}
use Rattle.source_reading.proofs.Answers.{source_judged, source_stopped}
use Rattle.source_reading.proofs.reading.judge_source.Goals as goal

pub returns-then-ending-clause-judged : goal.returns-then-ending-clause-judged
returns-then-ending-clause-judged g c =
    let left = g.S.Source.left c.args.source.now in
    let before = g.S.Source.faults c.args.source.now in
    let e = c.read_source-ending in
    let rest = g.S.Source.left e.new.source in
    rw c.stopped.ensures (source_stopped (closing_bytes c.args.workers c.args.compilation.now.batch) e.result.failed left rest before (g.S.Source.faults e.new.source) e.result.judged e.new.compilation c.if-ending.true e.ensures.settled)

pub returns-else-ending-clause-judged : goal.returns-else-ending-clause-judged
returns-else-ending-clause-judged g c =
    let left = g.S.Source.left c.args.source.now in
    let before = g.S.Source.faults c.args.source.now in
    let e = c.read_source-ending in
    let rest = g.S.Source.left e.new.source in
    rw (c.answer_of.ensures, c.checked.ensures) (source_judged (closing_bytes c.args.workers c.args.compilation.now.batch) e.result.failed left rest before (g.S.Source.faults e.new.source) e.result.judged e.new.compilation c.if-ending.false e.ensures.settled)
