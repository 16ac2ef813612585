use Rattle.batch_pool.proofs.Crews.{reads_begin, reads_more}
use Rattle.many_streams.proofs.flow.hand_over_from.Goals as goal

pub loop-k-init : goal.loop-k-init
loop-k-init c = record { desks = c.requires; each = reads_begin c.args.lanes.now c.args.desks.now.items }

pub loop-k-preserved : goal.loop-k-preserved
loop-k-preserved c = record {
  desks = c.hand_over_at.ensures.desks;
  each = reads_more c.args.lanes.now c.args.desks.now.items c.loop-k.desks.items c.hand_over_at.new.desks.items c.loop-k.invariant.desks c.loop-k.invariant.each c.hand_over_at.ensures.each;
}

pub returns-in_err-hand_over_at-clause-each : goal.returns-in_err-hand_over_at-clause-each
returns-in_err-hand_over_at-clause-each c = reads_more c.args.lanes.now c.args.desks.now.items c.loop-k.desks.items c.hand_over_at.new.desks.items c.loop-k.invariant.desks c.loop-k.invariant.each c.hand_over_at.ensures.each
