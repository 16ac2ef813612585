use Rattle.std.specs.Prelude.{◌≡◌, nat_lt, Some, Ok}
use Rattle.command_words.specs.declared.command.Command.TheVariants.{Compile}
use Rattle.image_format.specs.ImageBytes.{spelling}
use Rattle.module_stream.specs.ValidPrefixes.{closing_bytes}
use Rattle.source_reading.specs.declared.answer.Answer.TheVariants.{Image, Refused}
use Rattle.stream_compile.specs.Outputs.{view}
use Rattle.stream_compile.specs.Texts.{closing_of, compiled, ComesTo, TellsImage}
use Rattle.stream_compile.proofs.Answering.{compiles_with, written_comes, is_short, rejected_comes}
use Rattle.stream_compile.proofs.Printed.{told_as}
use Rattle.stream_compile.proofs.command.compile.Goals as goal

pub write_compiled-requires-clause-short : goal.write_compiled-requires-clause-short
write_compiled-requires-clause-short g c =
    is_short (closing_bytes c.settings_of.result.workers c.settings_of.result.batch) (nat_lt (g.S.Source.faults c.args.source.now) (g.S.Source.faults c.stream_compile.new.source)) (g.S.Source.left c.args.source.now)
    (g.S.Source.left c.stream_compile.new.source) c.in-Image.built c.in-Image.ensures.answer

pub returns-in-Image-clause-told : goal.returns-in-Image-clause-told
returns-in-Image-clause-told g c =
    let options = c.args.options.now in
    let failed = nat_lt (g.S.Source.faults c.args.source.now) (g.S.Source.faults c.stream_compile.new.source) in
    let left = g.S.Source.left c.args.source.now in
    let rest = g.S.Source.left c.stream_compile.new.source in
    let built = c.in-Image.built in
    told_as (λ o. o ≡ compiled (spelling built.image)) (ComesTo (Some (Compile options)) failed left rest) c.write_compiled.result (nat_lt (g.O.Sink.faults c.args.out.now) (g.O.Sink.faults c.write_compiled.new.out))
    (g.O.Sink.written c.args.out.now) (g.O.Sink.written c.write_compiled.new.out)
    (written_comes options failed left rest built (compiles_with options c.settings_of.result failed left rest (Image built) c.settings_of.ensures c.in-Image.ensures.answer)) c.write_compiled.ensures.told

pub returns-in_ok-rejected-in-Refused-clause-told : goal.returns-in_ok-rejected-in-Refused-clause-told
returns-in_ok-rejected-in-Refused-clause-told g c =
    let options = c.args.options.now in
    let failed = nat_lt (g.S.Source.faults c.args.source.now) (g.S.Source.faults c.stream_compile.new.source) in
    let left = g.S.Source.left c.args.source.now in
    let rest = g.S.Source.left c.stream_compile.new.source in
    let r = c.in-Refused.refusal in
    let output = c.in_ok-rejected-in-Refused.field-0 in (
      view output,
      rejected_comes (closing_of options) (λ bytes m. TellsImage m) (Ok output) failed left rest r (compiles_with options c.settings_of.result failed left rest (Refused r) c.settings_of.ensures c.in-Refused.ensures.answer) c.in_ok-rejected-in-Refused.ensures,
      c.write.ensures,
    )
