use Rattle.std.proofs.Common.{ℕ, ◌<◌, refl, sym, subst, rules}
use Rattle.many_streams.proofs.Workers.{settled_begins, next_read, next_in, settled_steps}
use Rattle.many_streams.proofs.working.settle_all.Goals as goal

pub loop-lane-init : goal.loop-lane-init
loop-lane-init g c = settled_begins c.args.members.now c.args.work.lanes.items c.args.work.desks.items c.in_ok-made.made.items c.requires c.in_ok-made.ensures

pub settle_lane-requires : goal.settle_lane-requires
settle_lane-requires g c =
    let l = c.loop-lane in
    let w = c.args.work in (
      search rules,
      next_read c.args.members.now w.lanes.items l.lanes.items c.pop.new.self.items w.desks.items l.desks.items c.pop-in-Some.new.self.items l.made.items c.in-Some.lane c.in-Some-pop.desk
          c.requires l.invariant c.in-Some.ensures.items c.in-Some-pop.ensures.items,
    )

pub index_mut-requires : goal.index_mut-requires
index_mut-requires g c =
    let l = c.loop-lane in
    let w = c.args.work in
    subst (λ (n : ℕ). c.in-Some.lane.module < n) (sym l.made.ok.0) (next_in c.args.members.now w.lanes.items l.lanes.items c.pop.new.self.items w.desks.items l.desks.items c.pop-in-Some.new.self.items l.made.items c.in-Some.lane c.in-Some-pop.desk
    c.requires l.invariant c.in-Some.ensures.items c.in-Some-pop.ensures.items)

pub loop-lane-preserved : goal.loop-lane-preserved
loop-lane-preserved g c =
    let l = c.loop-lane in
    let w = c.args.work in
    settled_steps c.args.members.now w.lanes.items l.lanes.items c.pop.new.self.items w.desks.items l.desks.items c.pop-in-Some.new.self.items l.made.items c.in-Some.lane c.in-Some-pop.desk
    c.requires l.invariant c.in-Some.ensures.items c.in-Some-pop.ensures.items _ c.in_ok-one.one c.in_ok-one.ensures refl
