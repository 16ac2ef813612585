use Rattle.std.specs.Prelude.{◌-◌, ◌≤◌, All, vec_len}
use Rattle.std.specs.Vec.Iter.{into_iter_items, into_iter_len}
use Rattle.batch_pool.specs.Lanes.{AreDesks, Each, GathersIn}
use Rattle.batch_pool.specs.Crews.{IsOfCrew}
use Rattle.batch_pool.proofs.lanes.crew.join_all_many.Given as goal

abbrev pub invariant-loop-handle : goal.invariant-loop-handle
invariant-loop-handle g l =
    let rest = l.handle-iterator in
    All (λ h. IsOfCrew g.L.Lending.all l.lanes h.promise) (into_iter_items rest)
    × (into_iter_len rest ≤ vec_len l.fn.handles)
    × AreDesks l.lanes l.desks.items
    × Each (GathersIn (vec_len l.fn.handles - into_iter_len rest)) l.lanes l.initial.desks.items l.desks.items
