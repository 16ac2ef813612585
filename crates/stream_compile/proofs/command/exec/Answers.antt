use Rattle.std.proofs.Common.{subst}
use Rattle.std.specs.Prelude.{nat_lt, None, Some}
use Rattle.command_words.specs.declared.command.Command.TheVariants.{Exec}
use Rattle.stream_compile.specs.Running.{RunsAs, IsForeign}
use Rattle.stream_compile.specs.Texts.{ComesTo}
use Rattle.stream_compile.proofs.Answering.{called_comes}
use Rattle.stream_compile.proofs.Printed.{told_as}
use Rattle.stream_compile.proofs.command.exec.Goals as goal

pub returns-in-Image-clause-told : goal.returns-in-Image-clause-told
returns-in-Image-clause-told g c =
    let failed = nat_lt (g.S.Source.faults c.args.source.now) (g.S.Source.faults c.read_foreign.new.source) in
    let left = g.S.Source.left c.args.source.now in
    let rest = g.S.Source.left c.read_foreign.new.source in
    let is = subst (IsForeign failed left rest) c.in-Image.is c.in_ok-given.ensures.answer in
    told_as (RunsAs None c.in-Image.image c.args.call.now) (ComesTo (Some (Exec c.args.call.now)) failed left rest) c.run_image.result (nat_lt (g.O.Sink.faults c.args.out.now) (g.O.Sink.faults c.run_image.new.out))
    (g.O.Sink.written c.args.out.now) (g.O.Sink.written c.run_image.new.out) (called_comes c.args.call.now failed left rest c.in-Image.image is) c.run_image.ensures.told
