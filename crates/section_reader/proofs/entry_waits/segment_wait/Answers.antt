use Rattle.section_reader.proofs.Awaiting.{passive_awaits, active_awaits}
use Rattle.section_reader.proofs.entry_waits.segment_wait.Goals as goal

pub returns-then-form-eq1-clause-awaits : goal.returns-then-form-eq1-clause-awaits
returns-then-form-eq1-clause-awaits c =
    passive_awaits c.args.seen.now c.args.fields.now c.u32.new.self c.in-Ok.form c.bytes_wait.result (rw c.fork-next.ensures at c.in-Ok.ensures.read) c.if-form-eq1.true (c.bytes_wait.ensures.awaits c.args.fields.now)

pub returns-clause-awaits : goal.returns-clause-awaits
returns-clause-awaits c =
    active_awaits c.args.seen.now c.args.fields.now c.u32.new.self c.memory_of.new.fields c.constant.new.fields c.in-Ok.form c.in-Ok-memory_of.field-0 c.in-Ok-constant.field-0 c.bytes_wait-2.result
    (rw c.fork-next.ensures at c.in-Ok.ensures.read) c.if-form-gt2.false c.if-form-eq1.false c.in-Ok-memory_of.ensures.read c.in-Ok-constant.ensures.read (c.bytes_wait-2.ensures.awaits c.args.fields.now)
