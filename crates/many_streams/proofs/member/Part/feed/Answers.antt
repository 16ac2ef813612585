use Rattle.std.proofs.Common.{◌+◌, ℕ, length, ap, arith}
use Rattle.many_streams.proofs.Feeding.{room_is, may_take, fed_on, fed_stop}
use Rattle.many_streams.proofs.member.Part.feed.Goals as goal

pub overflow_sub-self : goal.overflow_sub-self
overflow_sub-self c = let r = c.requires in let room = room_is r.0 c.args.self.now r.1 in omega arith

pub take-requires : goal.take-requires
take-requires c = let r = c.requires in may_take r.0 c.args.self.now r.1 c.args.piece.now c.front_of-part.result.now c.front_of-part.ensures.front

pub returns-in-Ok-clause-fed : goal.returns-in-Ok-clause-fed
returns-in-Ok-clause-fed c = λ came i. fed_on came c.args.self.now i c.args.piece.now c.front_of-part.result.now _ c.front_of-part.ensures.front c.front_of-part.ensures.fit (ap (λ (n : ℕ). n + length c.front_of-part.result.now) c.take.ensures.fed) c.in-Ok.ensures.goes

pub returns-in-Err-clause-fed : goal.returns-in-Err-clause-fed
returns-in-Err-clause-fed c = λ came i. fed_stop came c.args.self.now i c.args.piece.now c.front_of-part.result.now c.in-Err.stop c.take.new.self c.take.new.self c.front_of-part.ensures.front c.in-Err.ensures.goes
