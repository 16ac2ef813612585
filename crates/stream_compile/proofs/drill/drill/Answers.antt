use Rattle.std.proofs.Common.{◌∙◌}
use Rattle.std.specs.Prelude.{nat_lt, Some}
use Rattle.module_stream.specs.ValidPrefixes.{closing_bytes}
use Rattle.stream_compile.specs.Outputs.{view}
use Rattle.stream_compile.specs.Running.{RunsAs}
use Rattle.stream_compile.specs.Texts.{OfDrill}
use Rattle.stream_compile.proofs.Drills.{image_drills, refused_drills}
use Rattle.stream_compile.proofs.Printed.{told_as}
use Rattle.stream_compile.proofs.drill.drill.Goals as goal

pub returns-in-Image-clause-told : goal.returns-in-Image-clause-told
returns-in-Image-clause-told g c =
    let built = c.in-Image.built in
    let made = c.new-source.ensures ∙ c.as_slice.ensures.value ∙ c.in_ok-bytes.ensures in
    told_as (RunsAs (Some built.functions) built.image c.in_ok-call.call) (OfDrill c.args.drill.now) c.run_image.result (nat_lt (g.O.Sink.faults c.args.out.now) (g.O.Sink.faults c.run_image.new.out))
    (g.O.Sink.written c.args.out.now) (g.O.Sink.written c.run_image.new.out) (image_drills (closing_bytes c.args.settings.workers c.args.settings.batch) c.args.drill.now c.new-source.result c.stream_compile.new.source built c.in_ok-call.call c.requires.most made c.in_ok-call.ensures c.in-Image.ensures.answer) c.run_image.ensures.told

pub returns-in-Refused-clause-told : goal.returns-in-Refused-clause-told
returns-in-Refused-clause-told g c =
    let made = c.new-source.ensures ∙ c.as_slice.ensures.value ∙ c.in_ok-bytes.ensures in
    let output = c.in_ok-rejected-in-Refused.field-0 in
    (view output, refused_drills (closing_bytes c.args.settings.workers c.args.settings.batch) c.args.drill.now c.new-source.result c.stream_compile.new.source c.in-Refused.refusal (view output) c.requires.most made c.in-Refused.ensures.answer, c.write.ensures)
