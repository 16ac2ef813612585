use Rattle.std.proofs.Common.{[], ◌∷◌, ◌++◌}
use Rattle.batch_pool.proofs.Turns.{took_more, took_none, later_rises}
use Rattle.batch_pool.proofs.Seats.{many_begins, many_steps, more_rows, more_works}
use Rattle.batch_pool.proofs.lanes.many.work_many.Goals as goal

pub loop-init : goal.loop-init
loop-init g c = many_begins c.args.lanes.now c.args.hand.now c.args.seats.items c.requires.seats

pub loop-preserved : goal.loop-preserved
loop-preserved g c = many_steps c.args.lanes.now c.args.hand.now c.loop.hand c.take.new.self c.args.seats.items c.loop.seats.items c.serve_lane.new.seats.items c.in-Some-take.ticket
    c.loop.invariant c.take.ensures.queues c.in-Some-take.ensures.ticket c.take.ensures.counts c.serve_lane.ensures.seats c.serve_lane.ensures.works c.serve_lane.ensures.rows c.in-Ok.ensures.running c.in-Ok.ensures.served

pub returns-in_default-clause-worked : goal.returns-in_default-clause-worked
returns-in_default-clause-worked g c = let i = c.loop.invariant in record { seated = i.seated; works = i.works; running = λ fed. i.running }

pub returns-in_default-clause-tickets : goal.returns-in_default-clause-tickets
returns-in_default-clause-tickets g c = let i = c.loop.invariant in
    (i.tickets, took_none c.args.hand.now c.loop.hand c.take.new.self i.tickets i.took c.in_default.ensures.none, i.rows, λ fed. i.served)

pub returns-in_default-clause-found_empty : goal.returns-in_default-clause-found_empty
returns-in_default-clause-found_empty g c = λ fed. later_rises c.args.hand.now c.loop.hand c.take.new.self c.loop.invariant.queues_stay c.loop.invariant.counts c.in_default.ensures.found_empty

pub returns-in-Err-clause-worked : goal.returns-in-Err-clause-worked
returns-in-Err-clause-worked g c = let i = c.loop.invariant in record {
  seated = c.serve_lane.ensures.seats;
  works = more_works c.args.lanes.now c.args.seats.items c.loop.seats.items c.serve_lane.new.seats.items i.seated.count i.works c.serve_lane.ensures.works;
  running = λ fed. absurd cc;
}

pub returns-in-Err-clause-tickets : goal.returns-in-Err-clause-tickets
returns-in-Err-clause-tickets g c = let i = c.loop.invariant in (
  i.tickets ++ c.in-Some-take.ticket ∷ [],
  took_more c.args.hand.now c.loop.hand c.take.new.self i.tickets c.in-Some-take.ticket i.took c.in-Some-take.ensures.ticket,
  more_rows c.args.lanes.now c.args.seats.items c.loop.seats.items c.serve_lane.new.seats.items i.tickets c.in-Some-take.ticket i.seated.count i.rows c.serve_lane.ensures.rows,
  λ fed. absurd cc,
)
