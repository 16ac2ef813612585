use Rattle.batch_pool.proofs.Crews.{reads_begin}
use Rattle.many_streams.proofs.rest.hand_over_flow.Goals as goal

pub returns-in-None-clause-each : goal.returns-in-None-clause-each
returns-in-None-clause-each c = reads_begin c.args.lanes.now c.args.desks.now.items
