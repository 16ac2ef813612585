use Rattle.std.specs.Prelude.{◌+◌, All, vec_len}
use Rattle.std.specs.Vec.Iter.{into_iter_len}
use Rattle.batch_pool.specs.Lanes.{AreDesks, Each}
use Rattle.batch_pool.specs.Crews.{IsOfCrew}
use Rattle.batch_pool.specs.Hands.{count_in}
use Rattle.batch_pool.proofs.Crews.{HasStarted}
use Rattle.batch_pool.proofs.lanes.crew.fn.run_lent.scope.Given as goal

abbrev pub invariant-loop-hand : goal.invariant-loop-hand
invariant-loop-hand g l =
    (goal.iterator-loop-hand g).can_next l.hand-iterator
    × (goal.iterator-loop-hand g).is_finite l.hand-iterator
    × AreDesks l.list l.desks.items
    × Each (HasStarted (vec_len l.handles) (into_iter_len l.hand-iterator + count_in l.own)) l.list l.initial.desks.items l.desks.items
    × All (λ h. IsOfCrew g.L.Lending.all l.list h.promise) l.handles.items
