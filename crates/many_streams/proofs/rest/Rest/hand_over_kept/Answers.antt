use Rattle.batch_pool.proofs.Crews.{reads_begin, reads_more}
use Rattle.many_streams.proofs.rest.Rest.hand_over_kept.Goals as goal

pub loop-number-init : goal.loop-number-init
loop-number-init c = record { desks = c.requires; each = reads_begin c.args.lanes.now c.args.desks.now.items }

pub loop-number-preserved : goal.loop-number-preserved
loop-number-preserved c = record {
  desks = c.hand_over_flow.ensures.desks;
  each = reads_more c.args.lanes.now c.args.desks.now.items c.loop-number.desks.items c.hand_over_flow.new.desks.items c.loop-number.invariant.desks c.loop-number.invariant.each c.hand_over_flow.ensures.each;
}

pub returns-in_err-hand_over_flow-clause-each : goal.returns-in_err-hand_over_flow-clause-each
returns-in_err-hand_over_flow-clause-each c = reads_more c.args.lanes.now c.args.desks.now.items c.loop-number.desks.items c.hand_over_flow.new.desks.items c.loop-number.invariant.desks c.loop-number.invariant.each c.hand_over_flow.ensures.each
