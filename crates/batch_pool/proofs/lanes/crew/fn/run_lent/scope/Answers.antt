use Rattle.std.proofs.Common.{rules, ◌≡◌, ◌+◌, ◌∙◌, ℕ, List, All, length, sym, ap, subst, arith}
use Rattle.std.specs.Prelude.{vec_len}
use Rattle.std.specs.Vec.Iter.{into_iter_len}
use Rattle.std.specs.declared.vec.Vec.{Vec}
use Rattle.std.specs.declared.alloc.Global.{Global}
use Rattle.body_compiler.proofs.Rests.{all_pushed, all_same}
use Rattle.batch_pool.specs.declared.lanes.lane.Lane.{Lane}
use Rattle.batch_pool.specs.declared.lanes.lane.LaneSeat.{LaneSeat}
use Rattle.batch_pool.specs.declared.lanes.lane.LaneDesk.{LaneDesk}
use Rattle.batch_pool.specs.Lanes.{AreSeated, AreApart, AreDesks, Each, IsWorkedMany, HasReadIn}
use Rattle.batch_pool.specs.Crews.{IsOfCrew}
use Rattle.batch_pool.specs.Hands.{count_in}
use Rattle.batch_pool.proofs.Crews.{HasStarted, started_begins, have_one, started_one, taken_back, room_mid, room_read, room_kept, parts_read, then_joined, all_joined, crew_of}
use Rattle.batch_pool.proofs.lanes.crew.fn.run_lent.scope.Goals.{in-Ok-spawn_with+in-Ok-push, in-Err+in-Some-take_in_many}
use Rattle.batch_pool.proofs.lanes.crew.fn.run_lent.scope.Goals as goal

first_desks : {lanes list : List Lane} {desks : List LaneDesk} → AreDesks lanes desks → list ≡ lanes → AreDesks list desks
first_desks {lanes} {list} {desks} are same = subst (λ (ls : List Lane). AreDesks ls desks) (sym same) are

one_less : (m rest own : ℕ) → m + 1 ≡ rest → m + own + 1 ≡ rest + own
one_less m rest own e = omega (arith, e)

pub loop-hand-init : goal.loop-hand-init
loop-hand-init g c =
    let list = c.lanes-list.result.now in
    let none : vec_len c.new-handles.result ≡ 0 = search rules in
    let own = count_in c.last_hand-own.result in
    let left : into_iter_len c.into_iter-hand-iterator.result ≡ length c.last_hand-own.new.hands.items = search rules in
    let rest : into_iter_len c.into_iter-hand-iterator.result + own ≡ length c.captures.hands.items = ap (λ n. n + own) left ∙ c.last_hand-own.ensures in (
      search rules,
      search rules,
      first_desks c.requires.desks c.lanes-list.ensures,
      subst (λ (z : ℕ × ℕ). Each (HasStarted z.0 z.1) list c.captures.desks.items c.captures.desks.items) (λ i. (sym none i, sym rest i)) (started_begins list (length c.captures.hands.items) c.captures.desks.items c.requires.parts),
      subst (All (λ h. IsOfCrew g.L.Lending.all list h.promise)) (sym c.new-handles.ensures.items) (λ k d in'. absurd (omega arith)),
    )

pub split_all-requires : goal.split_all-requires
split_all-requires g c =
    let i = c.loop-hand.invariant in
    let own = count_in c.loop-hand.own-1 in
    record {
      desks = i.2;
      parts = have_one c.lanes-list.result.now (vec_len c.loop-hand.handles) (into_iter_len c.loop-hand.hand-iterator + own) (into_iter_len c.next.new.self + own) c.captures.desks.items c.loop-hand.desks.items (first_desks c.requires.desks c.lanes-list.ensures) i.2 i.3 (one_less _ _ own c.in-Some.ensures.steps.1);
    }

pub spawn_with-worked-requires-clause-seats : goal.spawn_with-worked-requires-clause-seats
spawn_with-worked-requires-clause-seats g c = λ κs lives.
    let lanes : g.L.Lending.all c.in-Err.refusal.value.3.now ≡ g.L.Lending.all c.captures.lanes.now = search rules in
    let parts : c.in-Err.refusal.value.4 ≡ c.in-Ok.parts = search rules in
    subst (λ (z : List Lane × Vec LaneSeat Global). AreSeated z.0 z.1.items) (λ i. ((c.lanes-list.ensures ∙ sym lanes) i, sym parts i)) c.in-Ok.ensures.fresh.seated

pub spawn_with-worked-requires-clause-apart : goal.spawn_with-worked-requires-clause-apart
spawn_with-worked-requires-clause-apart g c = λ κs lives.
    let lanes : g.L.Lending.all c.in-Err.refusal.value.3.now ≡ g.L.Lending.all c.captures.lanes.now = search rules in
    subst AreApart (sym lanes) c.requires.apart

pub take_in_many-requires : goal.take_in_many-requires
take_in_many-requires g c =
    let i = c.loop-hand.invariant in
    let list = c.lanes-list.result.now in
    let n = vec_len c.loop-hand.handles in
    let own = count_in c.loop-hand.own-1 in
    let rest = into_iter_len c.loop-hand.hand-iterator + own in
    let m = into_iter_len c.next.new.self + own in
    let mid = c.split_all.new.desks.items in
    let first = first_desks c.requires.desks c.lanes-list.ensures in
    record {
      desks = c.in-Ok.ensures.desks;
      room = room_mid list n m c.captures.desks.items mid first c.in-Ok.ensures.desks
          (started_one list n rest m c.captures.desks.items c.loop-hand.desks.items mid (one_less _ _ own c.in-Some.ensures.steps.1) i.2 i.3 c.in-Ok.ensures.left);
      worked = (
        c.in-Ok.parts.items,
        c.in-Ok.ensures.fresh,
        let lanes : g.L.Lending.all c.in-Err.refusal.value.3.now ≡ g.L.Lending.all c.captures.lanes.now = search rules in
            let parts : c.in-Err.refusal.value.4 ≡ c.in-Ok.parts = search rules in
            subst (λ (z : List Lane × Vec LaneSeat Global). IsWorkedMany z.0 z.1.items c.spawn_with-worked.result.seats.items c.spawn_with-worked.result.starved) (λ i. ((lanes ∙ sym c.lanes-list.ensures) i, parts i)) c.spawn_with-worked.ensures,
      );
    }

pub loop-hand-preserved : goal.loop-hand-preserved
loop-hand-preserved g c =
    let i = c.loop-hand.invariant in
    let lanes = c.lanes-list.result.now in
    let n = vec_len c.loop-hand.handles in
    let own = count_in c.loop-hand.own-1 in
    let rest = into_iter_len c.loop-hand.hand-iterator + own in
    let m = into_iter_len c.next.new.self + own in
    let first = c.captures.desks.items in
    let mid = c.split_all.new.desks.items in
    let started = started_one lanes n rest m first c.loop-hand.desks.items mid (one_less _ _ own c.in-Some.ensures.steps.1) i.2 i.3 c.in-Ok.ensures.left in
    elim c.match-spawn_with.branch [
      | in-Ok-spawn_with+in-Ok-push w ↦
          let desks : c.match-spawn_with.desks.items ≡ mid = ap (λ (v : Vec LaneDesk Global). v.items) w.desks-is in
          let count : vec_len c.match-spawn_with.handles ≡ n + 1 = search rules in (
            tt,
            tt,
            subst (AreDesks lanes) (sym desks) c.in-Ok.ensures.desks,
            subst (λ (z : ℕ × List LaneDesk). Each (HasStarted z.0 m) lanes first z.1) (λ j. (sym count j, sym desks j)) started,
            all_pushed (λ h. IsOfCrew g.L.Lending.all lanes h.promise) w.in-Ok-spawn_with.handle c.loop-hand.handles.items c.match-spawn_with.handles.items (ap (λ (v : _). v.items) w.handles-is ∙ w.in-Ok-push.ensures.items) i.4
                (crew_of lanes g.L.Lending.all w.in-Ok-spawn_with.handle.promise _ c.in-Ok.parts.items w.in-Ok-spawn_with.ensures.ok (sym c.lanes-list.ensures) (ap (λ (v : Vec LaneSeat Global). v.items) c.of.ensures) c.in-Ok.ensures.fresh),
          )
      | in-Err+in-Some-take_in_many w ↦
          let next = w.take_in_many.new.desks.items in
          let desks : c.match-spawn_with.desks.items ≡ next = ap (λ (v : Vec LaneDesk Global). v.items) w.desks-is in
          let count : vec_len c.match-spawn_with.handles ≡ n = search rules in (
            tt,
            tt,
            subst (AreDesks lanes) (sym desks) w.in-Some-take_in_many.ensures.desks,
            subst (λ (z : ℕ × List LaneDesk). Each (HasStarted z.0 m) lanes first z.1) (λ j. (sym count j, sym desks j))
                (taken_back lanes n m first mid next c.in-Ok.ensures.desks started w.in-Some-take_in_many.ensures.gathers),
            all_same (λ h. IsOfCrew g.L.Lending.all lanes h.promise) c.loop-hand.handles.items c.match-spawn_with.handles.items (search rules) i.4,
          )
    ]

pub help_many-requires-clause-parts : goal.help_many-requires-clause-parts
help_many-requires-clause-parts g c = λ κs lives.
    let i = c.loop-hand.invariant in
    let own = count_in c.loop-hand.own-1 in
    parts_read c.lanes-list.result.now (vec_len c.loop-hand.handles) (into_iter_len c.loop-hand.hand-iterator + own) own c.captures.desks.items c.loop-hand.desks.items c.read.new.desks.items (omega arith) (first_desks c.requires.desks c.lanes-list.ensures) i.2 c.read.ensures.desks i.3 c.read.ensures.each

pub join_all_many-requires-clause-room : goal.join_all_many-requires-clause-room
join_all_many-requires-clause-room g c = λ κs lives.
    let i = c.loop-hand.invariant in
    let list = c.lanes-list.result.now in
    let n = vec_len c.loop-hand.handles in
    let rest = into_iter_len c.loop-hand.hand-iterator + count_in c.loop-hand.own-1 in
    room_kept list n c.read.new.desks.items c.help_many.new.desks.items c.read.ensures.desks c.in-Some-help_many.ensures.desks c.in-Some-help_many.ensures.gathers
    (room_read list n rest c.captures.desks.items c.loop-hand.desks.items c.read.new.desks.items (first_desks c.requires.desks c.lanes-list.ensures) i.2 c.read.ensures.desks i.3 c.read.ensures.each)

pub returns : goal.returns
returns g c =
    let i = c.loop-hand.invariant in
    let list = c.lanes-list.result.now in
    let n = vec_len c.loop-hand.handles in
    let rest = into_iter_len c.loop-hand.hand-iterator + count_in c.loop-hand.own-1 in
    let helped = c.in-Some-help_many.ensures in
    let joined = c.in-Some-join_all_many.ensures in
    let last = c.join_all_many.new.desks.items in
    record {
      read = subst (λ (ls : List Lane). Each HasReadIn ls c.captures.desks.items last) c.lanes-list.ensures
          (all_joined list n rest c.captures.desks.items c.loop-hand.desks.items c.read.new.desks.items last c.requires.rows i.2 c.read.ensures.desks i.3 c.read.ensures.each
          (then_joined list n c.read.new.desks.items c.help_many.new.desks.items last helped.desks helped.gathers joined.gathers));
      desks = subst (λ (ls : List Lane). AreDesks ls last) c.lanes-list.ensures joined.desks;
      made = c.read.ensures.reads;
      back = tt;
    }
