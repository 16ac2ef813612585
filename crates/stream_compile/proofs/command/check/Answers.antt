use Rattle.std.specs.Prelude.{nat_lt}
use Rattle.source_reading.specs.declared.answer.CheckAnswer.TheVariants.{Valid, Refused, ReadFault}
use Rattle.stream_compile.specs.Texts.{closing_of, TellsCheck}
use Rattle.stream_compile.proofs.Answering.{checks_with, valid_comes, rejected_comes, read_fault_comes}
use Rattle.stream_compile.proofs.command.check.Goals as goal

pub returns-in-Valid-clause-answer : goal.returns-in-Valid-clause-answer
returns-in-Valid-clause-answer g c =
    let options = c.args.options.now in
    let failed = nat_lt (g.S.Source.faults c.args.source.now) (g.S.Source.faults c.stream_check.new.source) in
    let left = g.S.Source.left c.args.source.now in
    let rest = g.S.Source.left c.stream_check.new.source in
    valid_comes c.accepted.result options failed left rest c.in-Valid.checked (checks_with options c.settings_of.result failed left rest (Valid c.in-Valid.checked) c.settings_of.ensures c.in-Valid.ensures.answer) c.accepted.ensures

pub returns-in-Refused-clause-answer : goal.returns-in-Refused-clause-answer
returns-in-Refused-clause-answer g c =
    let options = c.args.options.now in
    let failed = nat_lt (g.S.Source.faults c.args.source.now) (g.S.Source.faults c.stream_check.new.source) in
    let left = g.S.Source.left c.args.source.now in
    let rest = g.S.Source.left c.stream_check.new.source in
    let r = c.in-Refused.refusal in
    rejected_comes (closing_of options) TellsCheck c.rejected.result failed left rest r (checks_with options c.settings_of.result failed left rest (Refused r) c.settings_of.ensures c.in-Refused.ensures.answer) c.rejected.ensures

pub returns-in-ReadFault-clause-answer : goal.returns-in-ReadFault-clause-answer
returns-in-ReadFault-clause-answer g c =
    let options = c.args.options.now in
    let failed = nat_lt (g.S.Source.faults c.args.source.now) (g.S.Source.faults c.stream_check.new.source) in
    let left = g.S.Source.left c.args.source.now in
    let rest = g.S.Source.left c.stream_check.new.source in
    read_fault_comes (closing_of options) TellsCheck c.read_fault.result failed left rest (checks_with options c.settings_of.result failed left rest ReadFault c.settings_of.ensures c.in-ReadFault.ensures.answer) c.read_fault.ensures
