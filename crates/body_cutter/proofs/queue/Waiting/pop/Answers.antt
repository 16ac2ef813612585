use Rattle.body_cutter.specs.Held.{last_of}
use Rattle.body_cutter.proofs.Batches.{popped, popped_length, popped_others, last_popped, last_length, last_gone, none_popped}
use Rattle.body_cutter.proofs.queue.Waiting.pop.Goals as goal

pub returns-in-Some-clause-some : goal.returns-in-Some-clause-some
returns-in-Some-clause-some c = popped c.args.self.now.closed c.pop_front.new.self c.in-Some.bodies (last_of c.args.self.now.last) c.in-Some.ensures.items

pub returns-in-Some-clause-batch : goal.returns-in-Some-clause-batch
returns-in-Some-clause-batch c = λ least full last. popped_length least c.args.self.now.closed c.pop_front.new.self c.in-Some.bodies (last_of c.args.self.now.last) c.in-Some.ensures.items full

pub returns-in-Some-clause-others : goal.returns-in-Some-clause-others
returns-in-Some-clause-others c = λ least full last. (popped_others least c.args.self.now.closed c.pop_front.new.self c.in-Some.bodies c.in-Some.ensures.items full, last)

pub returns-in-None-clause-some : goal.returns-in-None-clause-some
returns-in-None-clause-some c =
    last_popped c.args.self.now.closed c.pop_front.new.self c.args.self.now.last c.take.new.self c.in-None.ensures.cases.0 c.in-None.ensures.cases.1 c.take.ensures.after c.take.result c.take.ensures.value

pub returns-in-None-clause-batch : goal.returns-in-None-clause-batch
returns-in-None-clause-batch c = λ least full last.
    last_length c.args.self.now.closed c.pop_front.new.self c.args.self.now.last c.take.new.self c.in-None.ensures.cases.0 c.in-None.ensures.cases.1 c.take.ensures.after least c.take.result c.take.ensures.value last

pub returns-in-None-clause-others : goal.returns-in-None-clause-others
returns-in-None-clause-others c = λ least full last.
    last_gone c.args.self.now.closed c.pop_front.new.self c.args.self.now.last c.take.new.self c.in-None.ensures.cases.0 c.in-None.ensures.cases.1 c.take.ensures.after least full

pub returns-in-None-clause-none : goal.returns-in-None-clause-none
returns-in-None-clause-none c =
    none_popped c.args.self.now.closed c.pop_front.new.self c.args.self.now.last c.take.new.self c.in-None.ensures.cases.0 c.in-None.ensures.cases.1 c.take.ensures.after c.args.self.now.number c.take.result c.take.ensures.value
