use Rattle.section_reader.proofs.Awaiting.{imported_awaits, second_awaits}
use Rattle.section_reader.proofs.entry_waits.imported_wait.Goals as goal

pub returns-in_default-clause-awaits : goal.returns-in_default-clause-awaits
returns-in_default-clause-awaits c = imported_awaits c.args.seen.now c.args.fields.now _ (c.name_wait.ensures.awaits c.args.fields.now)

pub returns-clause-awaits : goal.returns-clause-awaits
returns-clause-awaits c = second_awaits c.args.seen.now c.args.fields.now c.name.new.self _ _ (rw c.fork-next.ensures at c.in-Ok.ensures.read) (c.name_wait-2.ensures.awaits c.args.fields.now)
