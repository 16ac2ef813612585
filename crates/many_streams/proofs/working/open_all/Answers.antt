use Rattle.many_streams.proofs.Workers.{opened_none}
use Rattle.many_streams.proofs.working.open_all.Goals as goal

pub loop-number-init : goal.loop-number-init
loop-number-init c = opened_none c.args.workers c.args.members.now c.new.result.items c.new-2.result.items c.new.ensures.items c.new-2.ensures.items

pub returns : goal.returns
returns c = (c.loop-number.number, c.loop-number.invariant)
