use Rattle.std.proofs.Common.{◌≡◌, ◌<◌, ℕ, List, length, refl, ◌∙◌, arith}
use Rattle.std.proofs.Math.ListN.{length-set}
use Rattle.std.proofs.lemmas.Option.{slice_get_within, slice_get_read}
use Rattle.batch_pool.specs.declared.lanes.lane.Lane.{Lane}
use Rattle.batch_pool.specs.declared.lanes.lane.LaneDesk.{LaneDesk}
use Rattle.batch_pool.specs.Lanes.{IsOfLane, IsDeskOf, Reads}
use Rattle.batch_pool.proofs.Seats.{each_set}
use Rattle.batch_pool.proofs.Crews.{desks_on, reads_same, reads_begin}
use Rattle.batch_pool.proofs.lanes.reading.hand_over_at.Goals as goal

desk_in : (lanes : List Lane) (desks : List LaneDesk) (m k : ℕ) → length desks ≡ length lanes → IsOfLane lanes m k → k < length desks
desk_in lanes desks m k count o = let w = slice_get_within lanes k o.0 o.1 in omega arith

pub hand_over-requires : goal.hand_over-requires
hand_over-requires c =
    let o = c.in-Some.ensures in
    let lanes = c.args.lanes.now in
    let desks = c.args.desks.now.items in
    let at = slice_get_read lanes (length lanes) c.in-Some.k c.index-lanes-k.result refl (slice_get_within lanes c.in-Some.k o.0 o.1) c.index-lanes-k.is in
    let was = slice_get_read desks (length desks) c.in-Some.k c.index_mut-here.result.now refl (desk_in lanes desks c.args.«module» c.in-Some.k c.requires.count o) c.index_mut-here.ensures.value in
    record { desk = (c.requires.each c.in-Some.k c.index-lanes-k.result c.index_mut-here.result.now at was).0 }

pub returns : goal.returns
returns c =
    let o = c.in-Some.ensures in
    let k = c.in-Some.k in
    let lanes = c.args.lanes.now in
    let desks = c.args.desks.now.items in
    let here = c.index-lanes-k.result in
    let d = c.index_mut-here.result.now in
    let d' : LaneDesk = record d { desk = c.hand_over.new.self } in
    let at = slice_get_read lanes (length lanes) k here refl (slice_get_within lanes k o.0 o.1) c.index-lanes-k.is in
    let was = slice_get_read desks (length desks) k d refl (desk_in lanes desks c.args.«module» k c.requires.count o) c.index_mut-here.ensures.value in
    let h = c.hand_over.ensures in
    record {
      desks = desks_on lanes (λ l x y. IsDeskOf l x → IsDeskOf l y) desks _ c.requires (length-set desks k d') (λ l x y is stays. stays is)
          (each_set lanes (λ l x y. IsDeskOf l x → IsDeskOf l y) k desks d d' here at was (λ is. (h.desk, h.of_module ∙ is.1)) (λ j l x other lane is. is));
      each = each_set lanes Reads k desks d d' here at was (record { idle = h.idle; parts = h.parts; rows = refl }) (λ j l x other lane. reads_same l x);
    }

pub returns-in_default : goal.returns-in_default
returns-in_default c = record { desks = c.requires; each = reads_begin c.args.lanes.now c.args.desks.now.items }
