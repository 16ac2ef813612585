use Rattle.std.specs.Prelude.{nat_lt}
use Rattle.module_stream.specs.ValidPrefixes.{closing_bytes}
use Rattle.source_reading.specs.declared.answer.CheckAnswer.TheVariants.{Valid}
use Rattle.stream_compile.proofs.Answering.{judged_at, judged_done, judged_built, refused_compiles, fault_compiles}
use Rattle.stream_compile.proofs.compiling.stream_compile.Goals as goal

pub build-requires-clause-done : goal.build-requires-clause-done
build-requires-clause-done g c =
    judged_done (closing_bytes c.args.settings.workers c.new-compilation.result.batch) (nat_lt (g.S.Source.faults c.args.source.now) (g.S.Source.faults c.judge_source.new.source)) (g.S.Source.left c.args.source.now)
    (g.S.Source.left c.judge_source.new.source) c.in-Valid.field-0 c.judge_source.new.compilation c.in-Valid.ensures.judged

pub returns-in-Ok-clause-answer : goal.returns-in-Ok-clause-answer
returns-in-Ok-clause-answer g c =
    let settings = c.args.settings in
    let failed = nat_lt (g.S.Source.faults c.args.source.now) (g.S.Source.faults c.judge_source.new.source) in
    let left = g.S.Source.left c.args.source.now in
    let rest = g.S.Source.left c.judge_source.new.source in
    let s = c.judge_source.new.compilation in
    judged_built (closing_bytes settings.workers settings.batch) failed left rest c.in-Valid.field-0 s c.in-Ok.built
    (judged_at settings.workers settings.batch c.new-compilation.result.batch failed left rest (Valid c.in-Valid.field-0) s c.new-compilation.ensures.batch c.in-Valid.ensures.judged) c.in-Ok.ensures

pub returns-in-Refused-clause-answer : goal.returns-in-Refused-clause-answer
returns-in-Refused-clause-answer g c =
    let settings = c.args.settings in
    refused_compiles settings.workers settings.batch c.new-compilation.result.batch (nat_lt (g.S.Source.faults c.args.source.now) (g.S.Source.faults c.judge_source.new.source)) (g.S.Source.left c.args.source.now)
    (g.S.Source.left c.judge_source.new.source) c.in-Refused.refusal c.judge_source.new.compilation c.new-compilation.ensures.batch c.in-Refused.ensures.judged

pub returns-in-ReadFault-clause-answer : goal.returns-in-ReadFault-clause-answer
returns-in-ReadFault-clause-answer g c =
    let settings = c.args.settings in
    fault_compiles settings.workers settings.batch c.new-compilation.result.batch (nat_lt (g.S.Source.faults c.args.source.now) (g.S.Source.faults c.judge_source.new.source)) (g.S.Source.left c.args.source.now)
    (g.S.Source.left c.judge_source.new.source) c.judge_source.new.compilation c.new-compilation.ensures.batch c.in-ReadFault.ensures.judged
