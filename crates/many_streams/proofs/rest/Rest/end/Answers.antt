use Rattle.many_streams.proofs.Rests.{rest_judged}
use Rattle.many_streams.proofs.rest.Rest.end.Goals as goal

pub returns-in-Ok : goal.returns-in-Ok
returns-in-Ok c = λ bytes keeps members i. rest_judged bytes keeps members c.args.self.now i (c.in-Ok.ensures.ends bytes i.streaming.of i.streaming.reading) c.in-Ok.ensures.flags

pub returns-in-Err : goal.returns-in-Err
returns-in-Err c = λ bytes keeps members i. c.in-Err.ensures.ends bytes i.streaming.of i.streaming.reading
