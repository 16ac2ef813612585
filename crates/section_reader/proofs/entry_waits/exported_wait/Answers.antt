use Rattle.section_reader.proofs.Awaiting.{exported_awaits}
use Rattle.section_reader.proofs.entry_waits.exported_wait.Goals as goal

pub returns-clause-awaits : goal.returns-clause-awaits
returns-clause-awaits c = exported_awaits c.args.seen.now c.args.fields.now _ (c.name_wait.ensures.awaits c.args.fields.now)
