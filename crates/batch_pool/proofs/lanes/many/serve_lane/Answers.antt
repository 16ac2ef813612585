use Rattle.std.proofs.Common.{◌≡◌, ◌<◌, ℕ, List, Some, inl, inr, slice_get, length, refl, sym, ap, ◌∙◌, arith}
use Rattle.std.proofs.Math.ListN.{length-set}
use Rattle.std.proofs.lemmas.Option.{slice_get_within, slice_get_read}
use Rattle.batch_pool.specs.declared.lanes.lane.Lane.{Lane}
use Rattle.batch_pool.specs.declared.lanes.lane.LaneSeat.{LaneSeat}
use Rattle.batch_pool.specs.Lanes.{IsOfLane, Each, Works, Runs, Serves, AddsIn}
use Rattle.batch_pool.proofs.Elements.{some_one}
use Rattle.batch_pool.proofs.Seats.{on_ok, none_of, works_same, each_same, each_set, seated_on, apart_from}
use Rattle.batch_pool.proofs.lanes.many.serve_lane.Goals as goal

-- the lane that was found, and its seat
lane_is : (lanes : List Lane) (m k : ℕ) (l : Lane) → IsOfLane lanes m k → slice_get lanes k ≡ Some l → l.module ≡ m
lane_is lanes m k l o at = ap (λ (x : Lane). x.module) (some_one lanes k l o.0 at o.1) ∙ o.2

seat_in : (lanes : List Lane) (seats : List LaneSeat) (m k : ℕ) → length seats ≡ length lanes → IsOfLane lanes m k → k < length seats
seat_in lanes seats m k count o = let w = slice_get_within lanes k o.0 o.1 in omega arith

pub serve-requires-clause-table : goal.serve-requires-clause-table
serve-requires-clause-table g c = λ κs lives.
    let o = c.in-Some.ensures in
    let lanes = c.args.lanes.now in
    let seats = c.args.seats.now.items in
    let at = slice_get_read lanes (length lanes) c.in-Some.k c.index-lanes-k.result refl (slice_get_within lanes c.in-Some.k o.0 o.1) c.index-lanes-k.is in
    let was = slice_get_read seats (length seats) c.in-Some.k c.index_mut-here.result.now refl (seat_in lanes seats c.args.ticket.module c.in-Some.k c.requires.seats.count o) c.index_mut-here.ensures.value in
    c.requires.seats.tables c.in-Some.k c.index-lanes-k.result c.index_mut-here.result.now at was

pub returns : goal.returns
returns g c =
    let o = c.in-Some.ensures in
    let k = c.in-Some.k in
    let u = c.args.ticket in
    let lanes = c.args.lanes.now in
    let seats = c.args.seats.now.items in
    let here = c.index-lanes-k.result in
    let s = c.index_mut-here.result.now in
    let s' : LaneSeat = record { seat = c.serve.new.seat; rows = c.serve.new.rows } in
    let at = slice_get_read lanes (length lanes) k here refl (slice_get_within lanes k o.0 o.1) c.index-lanes-k.is in
    let was = slice_get_read seats (length seats) k s refl (seat_in lanes seats u.module k c.requires.seats.count o) c.index_mut-here.ensures.value in
    let of = lane_is lanes u.module k here o at in
    let works : Each Works lanes seats _ = each_set lanes Works k seats s s' here at was (record { table = c.serve.ensures.table; grows = c.serve.ensures.grows }) (λ j l x other lane. works_same l x) in
    record {
      seats = seated_on lanes seats _ c.requires.seats (length-set seats k s') (λ j l x y lane before after. (works j l x y lane before after).table);
      works = works;
      rows = each_set lanes (AddsIn u) k seats s s' here at was (inr (sym of, c.serve.ensures.batch)) (λ j l x other lane. inl refl);
      running = on_ok c.serve.result _ _ (λ same. each_set lanes Runs k seats s s' here at was same (λ j l x other lane. refl)) c.serve.ensures.running;
      served = on_ok c.serve.result _ _ (λ serves. each_set lanes (Serves u) k seats s s' here at was (λ is fits. serves fits)
          (λ j l x other lane is. absurd (apart_from lanes c.requires.apart k here u at of j l other lane is))) c.serve.ensures.served;
    }

pub returns-in_default : goal.returns-in_default
returns-in_default g c =
    let lanes = c.args.lanes.now in
    let seats = c.args.seats.now.items in
    record {
      seats = c.requires.seats;
      works = each_same lanes Works seats (λ k l s at. works_same l s);
      rows = each_same lanes (AddsIn c.args.ticket) seats (λ k l s at. inl refl);
      running = each_same lanes Runs seats (λ k l s at. refl);
      served = each_same lanes (Serves c.args.ticket) seats (λ k l s at is. absurd (none_of c.args.ticket.module lanes k l c.in_default.ensures at is));
    }
