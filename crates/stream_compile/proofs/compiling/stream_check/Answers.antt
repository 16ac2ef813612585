use Rattle.std.specs.Prelude.{nat_lt}
use Rattle.module_stream.specs.ValidPrefixes.{closing_bytes}
use Rattle.stream_compile.proofs.Answering.{judged_at, judged_checked}
use Rattle.stream_compile.proofs.compiling.stream_check.Goals as goal

pub returns-clause-answer : goal.returns-clause-answer
returns-clause-answer g c =
    let settings = c.args.settings in
    let failed = nat_lt (g.S.Source.faults c.args.source.now) (g.S.Source.faults c.judge_source.new.source) in
    let left = g.S.Source.left c.args.source.now in
    let rest = g.S.Source.left c.judge_source.new.source in
    let s = c.judge_source.new.compilation in
    judged_checked (closing_bytes settings.workers settings.batch) failed left rest c.judge_source.result s
    (judged_at settings.workers settings.batch c.new-compilation.result.batch failed left rest c.judge_source.result s c.new-compilation.ensures.batch c.judge_source.ensures.judged)
