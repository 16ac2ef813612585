use Rattle.many_streams.specs.Workers.{AreOpened}
use Rattle.many_streams.proofs.working.open_all.Given as goal

abbrev pub invariant-loop-number : goal.invariant-loop-number
invariant-loop-number l = AreOpened l.workers l.members l.number l.work.lanes.items l.work.desks.items
