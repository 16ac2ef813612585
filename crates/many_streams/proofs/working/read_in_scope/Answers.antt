use Rattle.std.proofs.Common.{rules, ◌≡◌, ◌<◌, inl, inr, List, length, sym, ◌∙◌, subst}
use Rattle.batch_pool.specs.declared.lanes.lane.Lane.{Lane}
use Rattle.batch_pool.specs.Lanes.{AreApart, AreDesks, Each, HasReadIn}
use Rattle.many_streams.specs.declared.rest.Pause.{Pause}
use Rattle.many_streams.specs.Rests.{IsArriving}
use Rattle.many_streams.proofs.Sources.{took_nothing}
use Rattle.many_streams.proofs.Workers.{opened_desks, opened_rows, opened_parts, read_after}
use Rattle.many_streams.proofs.working.read_in_scope.Goals as goal

pub run_many-requires-clause-desks : goal.run_many-requires-clause-desks
run_many-requires-clause-desks g c κs lives =
    let w = c.in-Ok-open_all.work in
    let o = c.in-Ok-open_all.ensures in
    subst (λ (l : List Lane). AreDesks l w.desks.items) (sym c.as_slice.ensures.value) (opened_desks c.args.workers c.args.members.now o.0 w.lanes.items w.desks.items o.1)

pub run_many-requires-clause-rows : goal.run_many-requires-clause-rows
run_many-requires-clause-rows g c κs lives =
    let w = c.in-Ok-open_all.work in
    let o = c.in-Ok-open_all.ensures in opened_rows c.args.workers c.args.members.now o.0 w.lanes.items w.desks.items o.1

pub run_many-requires-clause-apart : goal.run_many-requires-clause-apart
run_many-requires-clause-apart g c κs lives = subst AreApart (sym c.as_slice.ensures.value) c.in-Ok-open_all.ensures.1.apart

pub run_many-requires-clause-parts : goal.run_many-requires-clause-parts
run_many-requires-clause-parts g c κs lives =
    let w = c.in-Ok-open_all.work in
    let o = c.in-Ok-open_all.ensures in opened_parts c.args.workers c.args.members.now o.0 w.lanes.items w.desks.items o.1 _ (search rules) (search rules)

pub run_many-requires-clause-can : goal.run_many-requires-clause-can
run_many-requires-clause-can g c κs lives =
    let r = c.requires.arrives in
    let new = c.new-reader.result.source.now in (
      subst (λ (p : Pause). 0 < length p.buffer.items) (sym c.new-reader.ensures.pause) c.requires.room,
      (
        r.0,
        r.1,
        r.2,
        c.args.members.now,
        subst (λ (p : Pause). IsArriving r.0 r.1 (g.S.Source.left new) (g.S.Source.faults new) (g.S.Source.is_open new) r.2 c.args.members.now p.rest) (sym c.new-reader.ensures.pause)
            (subst (λ (s : g.row.S.Denot). IsArriving r.0 r.1 (g.S.Source.left s) (g.S.Source.faults s) (g.S.Source.is_open s) r.2 c.args.members.now c.args.pause.rest) (sym c.new-reader.ensures.source) r.3),
      ),
    )

pub returns-in-Ok-run_many-clause-read : goal.returns-in-Ok-run_many-clause-read
returns-in-Ok-run_many-clause-read g c =
    let w = c.in-Ok-open_all.work in
    let o = c.in-Ok-open_all.ensures in
    let j = c.in-Ok-run_many.joined in
    read_after c.args.workers c.args.members.now o.0 w.lanes.items w.desks.items o.1 j.desks.items (subst (λ (l : List Lane). AreDesks l j.desks.items) c.as_slice.ensures.value c.in-Ok-run_many.ensures.desks)
    (subst (λ (l : List Lane). Each HasReadIn l w.desks.items j.desks.items) c.as_slice.ensures.value c.in-Ok-run_many.ensures.read)

pub returns-in-Ok-run_many-clause-arrived : goal.returns-in-Ok-run_many-clause-arrived
returns-in-Ok-run_many-clause-arrived g c = λ first before keeps a.
    let made = c.in-Ok-run_many.ensures.made in
    let new = c.new-reader.result.source.now in
    rw (c.source-1.given.1 (sym c.new-reader.ensures.same_reference ∙ sym made.0))
    (made.2 first before keeps c.args.members.now
    (subst (λ (p : Pause). IsArriving first before (g.S.Source.left new) (g.S.Source.faults new) (g.S.Source.is_open new) keeps c.args.members.now p.rest) (sym c.new-reader.ensures.pause)
    (subst (λ (s : g.row.S.Denot). IsArriving first before (g.S.Source.left s) (g.S.Source.faults s) (g.S.Source.is_open s) keeps c.args.members.now c.args.pause.rest) (sym c.new-reader.ensures.source) a)))

pub returns-clause-front : goal.returns-clause-front
returns-clause-front g c =
    let r = c.in-Err.reader in
    elim c.in-Err.ensures.back [
      | inl reads ↦
          rw (c.source-in-Err-1.given.1 (sym c.new-reader.ensures.same_reference ∙ sym reads.0))
          (rw c.new-reader.ensures.source at reads.1)
      | inr same ↦
          let now : r.source.now ≡ c.args.source.now = rw (← same) at c.new-reader.ensures.source in
          let name = rw (← same) at c.new-reader.ensures.same_reference in
          rw (c.source-in-Err-1.given.1 (sym name))
          (rw now (took_nothing _ _))
    ]
