use Rattle.std.proofs.Common.{rules, ◌≡◌, ◌≤◌, ◌<◌, ◌+◌, ◌-◌, ℕ, subst, arith}
use Rattle.std.specs.Prelude.{vec_len}
use Rattle.std.specs.Vec.Iter.{into_iter_items, into_iter_len}
use Rattle.body_compiler.proofs.Rests.{all_same, all_tail}
use Rattle.batch_pool.specs.Lanes.{Each, GathersIn}
use Rattle.batch_pool.specs.Crews.{IsOfCrew}
use Rattle.batch_pool.proofs.Crews.{none_joined, one_joined, room_for}
use Rattle.batch_pool.proofs.lanes.crew.join_all_many.Goals as goal

-- one more of so many
one_fewer : (total rest next : ℕ) → rest ≤ total → next + 1 ≡ rest → total - next ≡ (total - rest) + 1
one_fewer total rest next few step = omega arith

some_left : (total rest next : ℕ) → rest ≤ total → next + 1 ≡ rest → total - rest < total
some_left total rest next few step = omega arith

all_of : (total rest : ℕ) → rest ≡ 0 → total - rest ≡ total
all_of total rest none = omega arith

pub loop-handle-init : goal.loop-handle-init
loop-handle-init g c =
    let same : into_iter_len c.into_iter-handle-iterator.result ≡ vec_len c.args.handles = search rules in (
      all_same (λ h. IsOfCrew g.L.Lending.all c.args.lanes.now h.promise) c.args.handles.items (into_iter_items c.into_iter-handle-iterator.result) (search rules) c.requires.each,
      omega arith,
      c.requires.desks,
      subst (λ (n : ℕ). Each (GathersIn n) c.args.lanes.now c.args.desks.now.items c.args.desks.now.items) (omega arith) (none_joined c.args.lanes.now c.args.desks.now.items),
    )

pub take_in_many-requires-clause-room : goal.take_in_many-requires-clause-room
take_in_many-requires-clause-room g c =
    let i = c.loop-handle.invariant in
    let total = vec_len c.args.handles in
    let rest = into_iter_len c.loop-handle.handle-iterator in
    let next = into_iter_len c.next.new.self in
    room_for c.args.lanes.now (total - rest) total c.args.desks.now.items c.loop-handle.desks.items c.requires.desks i.2 i.3 c.requires.room (some_left total rest next i.1 c.in-Some.ensures.steps.1)

pub loop-handle-preserved : goal.loop-handle-preserved
loop-handle-preserved g c =
    let i = c.loop-handle.invariant in
    let total = vec_len c.args.handles in
    let rest = into_iter_len c.loop-handle.handle-iterator in
    let next = into_iter_len c.next.new.self in
    let step : next + 1 ≡ rest = c.in-Some.ensures.steps.1 in
    let few = i.1 in (
      all_tail (λ h. IsOfCrew g.L.Lending.all c.args.lanes.now h.promise) c.in-Some.handle (into_iter_items c.loop-handle.handle-iterator) (into_iter_items c.next.new.self) c.in-Some.ensures.steps.0 i.0,
      omega arith,
      c.in_ok-take_in_many.ensures.desks,
      one_joined c.args.lanes.now (total - rest) (total - next) c.args.desks.now.items c.loop-handle.desks.items c.take_in_many.new.desks.items (one_fewer total rest next few step) i.2 i.3 c.in_ok-take_in_many.ensures.gathers,
    )

pub returns-clause-gathers : goal.returns-clause-gathers
returns-clause-gathers g c =
    let none : into_iter_len c.loop-handle.handle-iterator ≡ 0 = search rules in
    subst (λ (n : ℕ). Each (GathersIn n) c.args.lanes.now c.args.desks.now.items c.loop-handle.desks.items) (all_of (vec_len c.args.handles) (into_iter_len c.loop-handle.handle-iterator) none) c.loop-handle.invariant.3
