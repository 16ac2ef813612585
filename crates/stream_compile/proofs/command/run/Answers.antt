use Rattle.std.specs.Prelude.{nat_lt, None, Some, Ok}
use Rattle.command_words.specs.declared.command.Command.TheVariants.{Run}
use Rattle.stream_compile.specs.Outputs.{view}
use Rattle.stream_compile.specs.Running.{RunsAs}
use Rattle.source_reading.specs.declared.answer.Answer.TheVariants.{Image, Refused}
use Rattle.stream_compile.specs.Texts.{closing_of, ComesTo, TellsCall}
use Rattle.stream_compile.proofs.Answering.{compiles_with, image_comes, rejected_comes}
use Rattle.stream_compile.proofs.Printed.{told_as}
use Rattle.stream_compile.proofs.command.run.Goals as goal

pub returns-in-Image-clause-told : goal.returns-in-Image-clause-told
returns-in-Image-clause-told g c =
    let failed = nat_lt (g.S.Source.faults c.args.source.now) (g.S.Source.faults c.stream_compile.new.source) in
    let left = g.S.Source.left c.args.source.now in
    let rest = g.S.Source.left c.stream_compile.new.source in
    let options = c.args.call.now.options in
    let built = c.in-Image.built in
    let is = compiles_with options c.settings_of.result failed left rest (Image built) c.settings_of.ensures c.in-Image.ensures.answer in
    told_as (RunsAs None c.in-Image.built.image c.args.call.now.call) (ComesTo (Some (Run c.args.call.now)) failed left rest) c.run_image.result (nat_lt (g.O.Sink.faults c.args.out.now) (g.O.Sink.faults c.run_image.new.out))
    (g.O.Sink.written c.args.out.now) (g.O.Sink.written c.run_image.new.out) (image_comes c.args.call.now failed left rest built is) c.run_image.ensures.told

pub returns-in_ok-rejected-in-Refused-clause-told : goal.returns-in_ok-rejected-in-Refused-clause-told
returns-in_ok-rejected-in-Refused-clause-told g c =
    let failed = nat_lt (g.S.Source.faults c.args.source.now) (g.S.Source.faults c.stream_compile.new.source) in
    let left = g.S.Source.left c.args.source.now in
    let rest = g.S.Source.left c.stream_compile.new.source in
    let options = c.args.call.now.options in
    let r = c.in-Refused.refusal in
    let is = compiles_with options c.settings_of.result failed left rest (Refused r) c.settings_of.ensures c.in-Refused.ensures.answer in
    let output = c.in_ok-rejected-in-Refused.field-0 in
    (view output, rejected_comes (closing_of options) (λ bytes m. TellsCall None c.args.call.now.call m) (Ok output) failed left rest r is c.in_ok-rejected-in-Refused.ensures, c.write.ensures)
