use Rattle.batch_pool.proofs.Crews.{reads_begin}
use Rattle.many_streams.proofs.Flows.{ok_anyway}
use Rattle.many_streams.proofs.flow.Flow.feed.Goals as goal

pub returns-in_err-take-clause-each : goal.returns-in_err-take-clause-each
returns-in_err-take-clause-each c = reads_begin c.args.lanes.now c.args.desks.now.items

pub returns-clause-fed : goal.returns-clause-fed
returns-clause-fed c = ok_anyway c.hand_over_from.result _ c.in_ok-take.ensures
