use Rattle.std.proofs.Common.{rules, ◌≡◌, ◌∙◌, length, refl, sym, arith}
use Rattle.batch_pool.specs.declared.lanes.lane.LaneDesk.{LaneDesk}
use Rattle.batch_pool.proofs.Elements.{element_at}
use Rattle.batch_pool.proofs.Crews.{worked_at, taken_begins, taken_next, taken_steps, taken_each, taken_desks}
use Rattle.std.proofs.lemmas.Option.{slice_get_within}
use Rattle.batch_pool.proofs.lanes.crew.take_in_many.Goals as goal

pub loop-other-init : goal.loop-other-init
loop-other-init c = taken_begins c.args.lanes.now c.args.worked.seats.items c.args.desks.now.items (c.requires.worked.2.seated.count ∙ sym c.requires.desks.count)

pub take_in-requires : goal.take_in-requires
take_in-requires c =
    let lanes = c.args.lanes.now in
    let w = c.requires.worked in
    let k = c.len-k.result in
    let s = c.index_mut-here.result.now in
    let l = c.index-lanes-k.result in
    let t = c.in-Some.other in
    let same : k ≡ length c.pop.new.self.items = search rules in
    let next = taken_next lanes c.loop-other.others.items c.pop.new.self.items c.args.worked.seats.items c.args.desks.now.items c.loop-other.desks.items s t l k c.requires.desks.count c.loop-other.invariant c.in-Some.ensures.items same
    c.index_mut-here.ensures.value c.index-lanes-k.is in
    let inside = slice_get_within lanes k l next.lane in
    let count = w.1.seated.count in
    let f = element_at w.0 k (omega arith) in
    let fresh = w.1.fresh k l f.0 next.lane f.1 in
    let room = c.requires.room k s next.was in
    record {
      table = (c.requires.desks.each k l s next.lane next.was).0.table;
      room = omega arith;
      worked = (f.0.seat, fresh.0, worked_at l f.0 t c.new.result _ c.args.worked.starved (w.2.works k l f.0 t next.lane f.1 next.other) (λ fed. w.2.running fed k l f.0 t next.lane f.1 next.other) fresh.1 c.new.ensures refl);
    }

pub loop-other-preserved : goal.loop-other-preserved
loop-other-preserved c =
    let lanes = c.args.lanes.now in
    let k = c.len-k.result in
    let s = c.index_mut-here.result.now in
    let l = c.index-lanes-k.result in
    let t = c.in-Some.other in
    let same : k ≡ length c.pop.new.self.items = search rules in
    let next = taken_next lanes c.loop-other.others.items c.pop.new.self.items c.args.worked.seats.items c.args.desks.now.items c.loop-other.desks.items s t l k c.requires.desks.count c.loop-other.invariant c.in-Some.ensures.items same
    c.index_mut-here.ensures.value c.index-lanes-k.is in
    let s' : LaneDesk = record { desk = record s.desk { seat = c.take_in.new.seat }; rows = c.take_in.new.rows } in
    taken_steps lanes c.loop-other.others.items c.pop.new.self.items c.args.worked.seats.items c.args.desks.now.items c.loop-other.desks.items _ s s' t l k c.loop-other.invariant c.in-Some.ensures.items same next
    (record { at = refl; table = c.take_in.ensures.table; parts = c.take_in.ensures.parts; gathers = c.in_ok-take_in.ensures.gathers }) refl

pub returns : goal.returns
returns c =
    let none : length c.loop-other.others.items ≡ 0 = search rules in
    record {
      desks = taken_desks c.args.lanes.now c.loop-other.others.items c.args.worked.seats.items c.args.desks.now.items c.loop-other.desks.items none c.requires.desks c.loop-other.invariant;
      gathers = taken_each c.args.lanes.now c.loop-other.others.items c.args.worked.seats.items c.args.desks.now.items c.loop-other.desks.items none c.loop-other.invariant;
    }
