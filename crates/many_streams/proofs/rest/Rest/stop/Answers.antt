use Rattle.many_streams.proofs.Rests.{rest_front}
use Rattle.many_streams.proofs.rest.Rest.stop.Goals as goal

pub returns-clause-front : goal.returns-clause-front
returns-clause-front c = λ bytes keeps members i. rest_front bytes keeps members c.args.self.now i c.end.result (c.end.ensures.ends bytes i.streaming.of i.streaming.reading)
