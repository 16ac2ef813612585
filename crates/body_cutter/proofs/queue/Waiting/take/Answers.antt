use Rattle.std.proofs.Common.{◌≡◌, ℕ, ◌+◌, ◌≤◌, length, sym, ap, subst, arith, length-append}
use Rattle.body_cutter.specs.Bodies.{Body, body_at}
use Rattle.body_cutter.specs.Queues.{starts_at}
use Rattle.body_cutter.specs.Held.{waiting}
use Rattle.body_cutter.proofs.Batches.{first_starts}
use Rattle.body_cutter.proofs.queue.Waiting.take.Goals as goal

pub get-start-requires : goal.get-start-requires
get-start-requires c = (c.in_ok-bodies.ensures.batch c.args.least c.requires.full c.requires.last).0

pub overflow_add-self : goal.overflow_add-self
overflow_add-self c =
    let some = (c.in_ok-bodies.ensures.batch c.args.least c.requires.full c.requires.last).0 in
    omega (arith, some, c.requires.few, c.in_ok-bodies.ensures.kept.0, ap length c.in_ok-bodies.ensures.some, length-append c.in_ok-bodies.bodies (waiting c.pop.new.self))

pub returns-clause-start : goal.returns-clause-start
returns-clause-start c =
    let bodies = c.in_ok-bodies.bodies in
    let all = waiting c.args.self.now in
    let some = (c.in_ok-bodies.ensures.batch c.args.least c.requires.full c.requires.last).0 in
    let size : (body_at bodies 0).size ≡ c.get-start.result.size = sym (ap (λ (b : Body). b.size) c.get-start.ensures.body) in
    subst (λ (k : ℕ). starts_at k all) size (subst (starts_at (body_at bodies 0).size) (sym c.in_ok-bodies.ensures.some) (first_starts bodies (waiting c.pop.new.self) some))

pub returns-clause-more : goal.returns-clause-more
returns-clause-more c =
    let some = (c.in_ok-bodies.ensures.batch c.args.least c.requires.full c.requires.last).0 in
    let le : c.pop.new.self.number + 1 + length (waiting c.pop.new.self) ≤ c.args.self.now.number + length (waiting c.args.self.now) =
    omega (arith, some, c.in_ok-bodies.ensures.kept.0, ap length c.in_ok-bodies.ensures.some, length-append c.in_ok-bodies.bodies (waiting c.pop.new.self)) in
    le
