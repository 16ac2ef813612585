use Rattle.std.proofs.Common.{◌<◌, ◌∙◌, length, refl, ap, arith}
use Rattle.std.proofs.lemmas.Option.{slice_get_read}
use Rattle.batch_pool.specs.declared.lanes.lane.Lane.{Lane}
use Rattle.batch_pool.specs.declared.lanes.lane.LaneDesk.{LaneDesk}
use Rattle.cancel_drain.specs.Handles.{Sitter}
use Rattle.batch_pool.proofs.Crews.{partly_at, split_begins, split_steps, split_fresh, split_each, split_desks}
use Rattle.batch_pool.specs.Crews.{Splits}
use Rattle.batch_pool.proofs.lanes.crew.split_all.Goals as goal

pub loop-k-init : goal.loop-k-init
loop-k-init c = split_begins c.args.lanes.now c.args.desks.now.items c.new-parts.result.items c.new-parts.ensures.items

pub split-part-requires-clause-table : goal.split-part-requires-clause-table
split-part-requires-clause-table c =
    let h = c.loop-k.invariant in
    let count = h.partly.count in
    let all = c.requires.desks.count in
    let s = c.index_mut-here.result.now in
    let was = partly_at c.args.lanes.now Splits (λ i. i < c.loop-k.k) c.loop-k.k c.args.desks.now.items c.loop-k.desks.items s h.partly (λ less. absurd (omega arith)) (omega arith) c.index_mut-here.ensures.value in
    let at = slice_get_read c.args.lanes.now (length c.args.lanes.now) c.loop-k.k c.index-lanes-k.result refl (omega arith) c.index-lanes-k.is in
    (c.requires.desks.each c.loop-k.k c.index-lanes-k.result s at was).0.table ∙ ap (λ (l : Lane). l.board.table) c.index-lanes-k.is

pub split-part-requires-clause-parts : goal.split-part-requires-clause-parts
split-part-requires-clause-parts c =
    let h = c.loop-k.invariant in
    let count = h.partly.count in
    let all = c.requires.desks.count in
    let s = c.index_mut-here.result.now in
    let was = partly_at c.args.lanes.now Splits (λ i. i < c.loop-k.k) c.loop-k.k c.args.desks.now.items c.loop-k.desks.items s h.partly (λ less. absurd (omega arith)) (omega arith) c.index_mut-here.ensures.value in
    (c.requires.parts c.loop-k.k s was).0

pub loop-k-preserved : goal.loop-k-preserved
loop-k-preserved c =
    let h = c.loop-k.invariant in
    let count = h.partly.count in
    let all = c.requires.desks.count in
    let s = c.index_mut-here.result.now in
    let s' : LaneDesk = record s { desk = record s.desk { seat = c.split-part.new.seat } } in
    let was = partly_at c.args.lanes.now Splits (λ i. i < c.loop-k.k) c.loop-k.k c.args.desks.now.items c.loop-k.desks.items s h.partly (λ less. absurd (omega arith)) (omega arith) c.index_mut-here.ensures.value in
    let at = slice_get_read c.args.lanes.now (length c.args.lanes.now) c.loop-k.k c.index-lanes-k.result refl (omega arith) c.index-lanes-k.is in
    let r = c.split-part.ensures.right in
    split_steps c.args.lanes.now c.loop-k.k c.args.desks.now.items c.loop-k.desks.items _ c.loop-k.parts.items c.push.new.self.items s s' _ c.index-lanes-k.result h at was (ap (λ (x : Sitter). record s.desk { seat = x }) c.split-part.ensures.left, refl) refl
    c.in_ok-push.ensures.items (r.0 ∙ (c.requires.desks.each c.loop-k.k c.index-lanes-k.result s at was).0.table, (s.desk.seat.view.seen, r.1)) c.new.ensures.items

pub returns-clause-fresh : goal.returns-clause-fresh
returns-clause-fresh c = split_fresh c.args.lanes.now c.loop-k.k c.args.desks.now.items c.loop-k.desks.items c.loop-k.parts.items (omega arith) c.loop-k.invariant

pub returns-clause-desks : goal.returns-clause-desks
returns-clause-desks c = split_desks c.args.lanes.now c.loop-k.k c.args.desks.now.items c.loop-k.desks.items c.loop-k.parts.items (omega arith) c.requires.desks c.loop-k.invariant

pub returns-clause-left : goal.returns-clause-left
returns-clause-left c = split_each c.args.lanes.now c.loop-k.k c.args.desks.now.items c.loop-k.desks.items c.loop-k.parts.items (omega arith) c.loop-k.invariant
