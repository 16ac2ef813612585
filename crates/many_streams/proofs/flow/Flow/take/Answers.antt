use Rattle.std.proofs.Common.{refl, arith}
use Rattle.many_streams.specs.Flows.{part_with}
use Rattle.many_streams.proofs.Feeding.{room_is, fed_on}
use Rattle.many_streams.proofs.flow.Flow.take.Goals as goal

pub overflow_sub-self : goal.overflow_sub-self
overflow_sub-self c = let r = c.requires in let room = room_is r.0 (part_with r.1 c.args.self.now) r.2 in omega arith

pub returns : goal.returns
returns c = λ came p i.
    fed_on came (part_with p c.args.self.now) i c.args.piece.now c.front_of-part.result.now _ c.front_of-part.ensures.front c.front_of-part.ensures.fit refl (λ bytes more g. c.in_ok-feed.ensures bytes more p.compilation g)
