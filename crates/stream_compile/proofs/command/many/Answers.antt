use Rattle.std.proofs.Common.{◌≡◌, List, map, Err, subst}
use Rattle.std.specs.Prelude.{nat_lt, IfOk}
use Rattle.many_streams.specs.declared.member.EachChecked.{EachChecked}
use Rattle.many_streams.specs.declared.streams.ManyStop.{ManyStop}
use Rattle.many_streams.specs.Many.{ChecksMany}
use Rattle.stream_compile.specs.Outputs.{view}
use Rattle.stream_compile.specs.Texts.{said, told_many}
use Rattle.stream_compile.proofs.ManyLines.{told_comes, frame_comes, fault_comes}
use Rattle.stream_compile.proofs.command.many.Goals as goal

pub returns-in-Ok-clause-answer : goal.returns-in-Ok-clause-answer
returns-in-Ok-clause-answer g c =
    told_comes c.args.options.now (nat_lt (g.S.Source.faults c.args.source.now) (g.S.Source.faults c.check_many.new.source)) (g.S.Source.left c.args.source.now) (g.S.Source.left c.check_many.new.source) c.told_many.result c.in-Ok.each.items
    c.in-Ok.ensures.answer (subst (λ (l : List EachChecked). IfOk c.told_many.result (λ a. view a ≡ told_many (map said l))) c.as_slice.ensures.value c.told_many.ensures)

pub returns-in-Err-Frame-clause-answer : goal.returns-in-Err-Frame-clause-answer
returns-in-Err-Frame-clause-answer g c =
    frame_comes c.args.options.now (nat_lt (g.S.Source.faults c.args.source.now) (g.S.Source.faults c.check_many.new.source)) (g.S.Source.left c.args.source.now) (g.S.Source.left c.check_many.new.source) c.bad_frame.result c.in-Err-Frame.offset
    (subst (λ (s : ManyStop). ChecksMany (nat_lt (g.S.Source.faults c.args.source.now) (g.S.Source.faults c.check_many.new.source)) (g.S.Source.left c.args.source.now) (g.S.Source.left c.check_many.new.source) (Err s)) c.in-Err-Frame.field-0-is c.in-Err-Frame.ensures.answer) c.bad_frame.ensures

pub returns-in-Err-ReadFault-clause-answer : goal.returns-in-Err-ReadFault-clause-answer
returns-in-Err-ReadFault-clause-answer g c =
    fault_comes c.args.options.now (nat_lt (g.S.Source.faults c.args.source.now) (g.S.Source.faults c.check_many.new.source)) (g.S.Source.left c.args.source.now) (g.S.Source.left c.check_many.new.source) c.read_fault.result
    (subst (λ (s : ManyStop). ChecksMany (nat_lt (g.S.Source.faults c.args.source.now) (g.S.Source.faults c.check_many.new.source)) (g.S.Source.left c.args.source.now) (g.S.Source.left c.check_many.new.source) (Err s)) c.in-Err-ReadFault.field-0-is c.in-Err-ReadFault.ensures.answer) c.read_fault.ensures
