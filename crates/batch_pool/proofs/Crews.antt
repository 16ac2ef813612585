-- Seats of several lanes, parts of which are split off and joined.
use Rattle.std.proofs.Common.{◌≡◌, ◌≢◌, ◌<◌, ◌≤◌, ◌+◌, ◌-◌, ◌⊎◌, inl, inr, ℕ, Bool, false, List, [], ◌∷◌, ◌++◌, length, get_or, slice_index, Some, None, slice_get, refl, sym, ap, ◌∙◌, subst, arith, length-append}
use mathlib.Core.Logic.{dite}
use native.Mathlib.Decide.{ℕ_discrete}
use Rattle.std.proofs.Math.ListN.{set, length-set}
use Rattle.std.proofs.lemmas.Option.{slice_get_within, slice_get_read}
use Rattle.cancel_drain.specs.Handles.{Sitter}
use Rattle.body_compiler.specs.declared.batch.row.Row.{Row}
use Rattle.batch_pool.specs.Settling.{AreKept}
use Rattle.batch_pool.specs.declared.ticket.Ticket.{Ticket}
use Rattle.batch_pool.specs.declared.worked.Worked.{Worked}
use Rattle.batch_pool.specs.declared.lanes.lane.Lane.{Lane}
use Rattle.batch_pool.specs.declared.lanes.lane.LaneSeat.{LaneSeat}
use Rattle.batch_pool.specs.declared.lanes.lane.LaneDesk.{LaneDesk}
use Rattle.batch_pool.specs.declared.scope.desk.Desk.{Desk}
use Rattle.batch_pool.specs.Desks.{IsDesk, HasRead}
use Rattle.batch_pool.proofs.AfterReading.{has_read}
use Rattle.batch_pool.specs.declared.lanes.crew.Crew.{Crew}
use Rattle.batch_pool.specs.Gathering.{IsFresh, Gathers}
use Rattle.batch_pool.specs.Working.{IsWorked, Grows}
use Rattle.batch_pool.specs.Lanes.{AreFresh, Each, Works, Runs, IsDeskOf, AreDesks, IsAt, GathersIn, Reads, HasReadIn, HaveNoRows, HaveParts, HaveRoom}
use Rattle.batch_pool.specs.Crews.{Splits, IsOfCrew}
use Rattle.batch_pool.proofs.Elements.{some_one, element_at, slice_set_same, slice_set_other, slice_front, slice_next, slice_push}
use Rattle.batch_pool.proofs.GatheringLaws.{gathers_same, gathers_trans, gathers_split}
use Rattle.batch_pool.proofs.Seats.{each_same, each_trans}

-- ---- one lane

pub gathers_in_same : (l : Lane) (s : LaneDesk) → GathersIn 0 l s s
gathers_in_same l s = record { at = refl; table = refl; parts = omega arith; gathers = gathers_same l.context.now l.cells s.desk.seat.view s.rows.items }

at_trans : (s t u : LaneDesk) → IsAt s t → IsAt t u → IsAt s u
at_trans s t u a b = b ∙ ap (λ (d : Desk). record d { seat = u.desk.seat }) a

pub gathers_in_trans : (n m : ℕ) (l : Lane) (s t u : LaneDesk) → GathersIn n l s t → GathersIn m l t u → GathersIn (n + m) l s u
gathers_in_trans n m l s t u a b =
    let p = a.parts in
    let q = b.parts in record {
      at = at_trans s t u a.at b.at;
      table = b.table ∙ a.table;
      parts = omega arith;
      gathers = gathers_trans l.context.now l.cells s.desk.seat.view t.desk.seat.view u.desk.seat.view s.rows.items t.rows.items u.rows.items a.gathers b.gathers;
    }

-- what a worker gave back of one lane
pub worked_at : (l : Lane) (f t : LaneSeat) (rows : List Row) (r : Worked) (starved : Bool) → Works l f t → (starved ≡ false → Runs l f t) → f.rows.items ≡ [] → rows ≡ t.rows.items → r ≡ record { seat = t.seat; rows = rows; starved = starved } → IsWorked l.context.now l.cells f.seat r
worked_at l f t rows r starved works running none same is = subst (IsWorked l.context.now l.cells f.seat) (sym is) (record {
  table = works.table;
  grows = subst (λ (z : List Row × List Row). Grows l.context.now l.cells f.seat.view t.seat.view z.0 z.1) (λ i. (none i, sym same i)) works.grows;
  running = running;
})

-- so many parts were split off at a lane's seat, and so many are left for others
pub record HasStarted (n rest : ℕ) (l : Lane) (s t : LaneDesk) : Type 0 where
  pub at : IsAt s t
  pub table : t.desk.seat.table ≡ s.desk.seat.table
  pub parts : t.desk.seat.view.parts + n ≡ s.desk.seat.view.parts
  pub few : n + rest < s.desk.seat.view.parts
  pub small : s.desk.seat.view.parts < 18446744073709551616
  pub gathers : Gathers l.context.now l.cells s.desk.seat.view t.desk.seat.view s.rows.items t.rows.items

split_at : (l : Lane) (t u : LaneDesk) → Splits l t u → IsAt t u
split_at l t u split = split.0 ∙ ap (λ (x : Sitter). record t.desk { seat = x }) (sym (ap (λ (d : Desk). d.seat) split.0))

start_one : (n rest m : ℕ) (l : Lane) (s t u : LaneDesk) → m + 1 ≡ rest → HasStarted n rest l s t → Splits l t u → HasStarted (n + 1) m l s u
start_one n rest m l s t u step h split =
    let p = h.parts in
    let q = h.few in
    let r = h.small in
    let e = ap (λ (d : Desk). d.seat.view.parts) split.0 in record {
      at = at_trans s t u h.at (split_at l t u split);
      table = ap (λ (d : Desk). d.seat.table) split.0 ∙ h.table;
      parts = omega arith;
      few = omega arith;
      small = h.small;
      gathers = subst (λ (z : List Row). Gathers l.context.now l.cells s.desk.seat.view u.desk.seat.view s.rows.items z) (sym split.1)
          (gathers_split l.context.now l.cells s.desk.seat.view t.desk.seat.view u.desk.seat.view s.rows.items t.rows.items h.gathers (ap (λ (d : Desk). d.seat.view) split.0));
    }

take_back : (n m : ℕ) (l : Lane) (s t u : LaneDesk) → HasStarted (n + 1) m l s t → GathersIn 1 l t u → HasStarted n m l s u
take_back n m l s t u h g =
    let p = h.parts in
    let q = h.few in
    let r = g.parts in record {
      at = at_trans s t u h.at g.at;
      table = g.table ∙ h.table;
      parts = omega arith;
      few = omega arith;
      small = h.small;
      gathers = gathers_trans l.context.now l.cells s.desk.seat.view t.desk.seat.view u.desk.seat.view s.rows.items t.rows.items u.rows.items h.gathers g.gathers;
    }

-- as many parts as before: what one worker gave back was taken in
none_out : (rest : ℕ) (l : Lane) (s t : LaneDesk) → HasStarted 0 rest l s t → GathersIn 0 l s t
none_out rest l s t h = let p = h.parts in record { at = h.at; table = h.table; parts = omega arith; gathers = h.gathers }

-- ---- one lane's desk

desk_split : (l : Lane) (d e : LaneDesk) → IsDeskOf l d → Splits l d e → IsDeskOf l e
desk_split l d e is split = subst (λ (x : Desk). IsDesk l.context.now l.board x × (x.module ≡ l.module)) (sym split.0)
    (record { table = is.0.table; feeder = is.0.feeder; running = is.0.running; kept = is.0.kept; last = is.0.last }, is.1)

desk_gathered : (n : ℕ) (l : Lane) (d e : LaneDesk) → IsDeskOf l d → GathersIn n l d e → IsDeskOf l e
desk_gathered n l d e is g =
    let a = g.gathers.adds in
    subst (λ (x : Desk). IsDesk l.context.now l.board x × (x.module ≡ l.module)) (sym g.at) (
      record {
        table = g.table ∙ is.0.table;
        feeder = a.feeder ∙ is.0.feeder;
        running = g.gathers.running ∙ is.0.running;
        kept = subst (λ (ss : List ℕ). AreKept l.context.now l.board.functions ss d.desk.kept.items) (sym a.published) is.0.kept;
        last = subst (λ (ss : List ℕ). 0 < length ss → slice_index ss (length ss - 1) ≡ d.desk.last) (sym a.published) is.0.last;
      },
      is.1,
    )

-- parts were split off at a desk, batches were handed over there, and the parts were joined
read_in : (n rest : ℕ) (l : Lane) (s t u v : LaneDesk) → s.rows.items ≡ [] → HasStarted n rest l s t → Reads l t u → IsDeskOf l u → GathersIn n l u v → HasReadIn l s v
read_in n rest l s t u v none h read is g =
    let p = h.parts in
    let q = read.parts in
    let r = g.parts in
    subst (λ (ts : List Ticket). HasRead l.context.now l.cells l.board s.desk.seat.view v.desk.seat ts v.rows.items) (sym (ap (λ (d : Desk). d.kept.items) g.at))
    (has_read l.context.now l.cells l.board s.desk.seat.view t.desk.seat.view t.rows.items v.rows.items t.desk u.desk v.desk.seat
    (subst (λ (z : List Row). Gathers l.context.now l.cells s.desk.seat.view t.desk.seat.view z t.rows.items) none h.gathers) refl read.idle is.0
    (subst (λ (z : List Row). Gathers l.context.now l.cells u.desk.seat.view v.desk.seat.view z v.rows.items) read.rows g.gathers) (g.table ∙ is.0.table) (omega arith))

-- ---- while batches are handed over

pub reads_same : (l : Lane) (d : LaneDesk) → Reads l d d
reads_same l d = record { idle = record { done = refl; reported = refl }; parts = refl; rows = refl }

reads_trans : (l : Lane) (d e f : LaneDesk) → Reads l d e → Reads l e f → Reads l d f
reads_trans l d e f a b = record {
  idle = record { done = b.idle.done ∙ a.idle.done; reported = b.idle.reported ∙ a.idle.reported };
  parts = b.parts ∙ a.parts;
  rows = b.rows ∙ a.rows;
}

pub reads_begin : (lanes : List Lane) (desks : List LaneDesk) → Each Reads lanes desks desks
reads_begin lanes desks = each_same lanes Reads desks (λ k l d at. reads_same l d)

pub reads_more : (lanes : List Lane) (xs ys zs : List LaneDesk) → AreDesks lanes ys → Each Reads lanes xs ys → Each Reads lanes ys zs → Each Reads lanes xs zs
reads_more lanes xs ys zs are a b = each_trans lanes Reads Reads Reads xs ys zs are.count reads_trans a b

module _ (lanes : List Lane) where
  -- ---- some lanes' seats have changed, and the others are as before

  pub record Partly (P : Lane → LaneDesk → LaneDesk → Type 0) (D : ℕ → Type 0) (old new : List LaneDesk) : Type 0 where
    pub count : length new ≡ length old
    pub done : (i : ℕ) (l : Lane) (s t : LaneDesk) → D i → slice_get lanes i ≡ Some l → slice_get old i ≡ Some s → slice_get new i ≡ Some t → P l s t
    pub rest : (i : ℕ) (s t : LaneDesk) → (D i → ⊥) → slice_get old i ≡ Some s → slice_get new i ≡ Some t → t ≡ s

  pub partly_begins : (P : Lane → LaneDesk → LaneDesk → Type 0) (D : ℕ → Type 0) (seats : List LaneDesk) → ((i : ℕ) → i < length seats → D i → ⊥) → Partly P D seats seats
  partly_begins P D seats none = record {
    count = refl;
    done = λ i l s t is lane before after. absurd (none i (slice_get_within seats i s before) is);
    rest = λ i s t is before after. some_one seats i t s after before;
  }

  -- the seat that changes next is as before
  pub partly_at : (P : Lane → LaneDesk → LaneDesk → Type 0) (D : ℕ → Type 0) (n : ℕ) (old new : List LaneDesk) (x : LaneDesk) → Partly P D old new → (D n → ⊥) → n < length old → x ≡ get_or new n x → slice_get old n ≡ Some x
  partly_at P D n old new x h fresh in' is =
      let c = h.count in
      let o = element_at old n in' in
      let now = slice_get_read new (length new) n x refl (omega arith) is in
      let same : x ≡ o.0 = h.rest n o.0 x fresh o.1 now in
      o.1 ∙ ap Some (sym same)

  pub partly_step : (P : Lane → LaneDesk → LaneDesk → Type 0) (D E : ℕ → Type 0) (n : ℕ) (old new new' : List LaneDesk) (s s' : LaneDesk) (here : Lane) → Partly P D old new → ((i : ℕ) → i ≢ n → E i → D i) → ((i : ℕ) → (E i → ⊥) → (i ≢ n) × (D i → ⊥))
      → slice_get lanes n ≡ Some here → slice_get old n ≡ Some s → P here s s' → new' ≡ set new n s' → Partly P E old new'
  partly_step P D E n old new new' s s' here h to away at was is now =
      let c = h.count in
      let w = slice_get_within old n s was in
      let mine : slice_get new' n ≡ Some s' = ap (λ (z : List LaneDesk). slice_get z n) now ∙ slice_set_same new n s' (omega arith) in record {
        count = ap length now ∙ (length-set new n s' ∙ h.count);
        done = λ i l a b yes lane before after. dite (ℕ_discrete i n)
            (λ same.
            let e : here ≡ l = some_one lanes n here l at (subst (λ (j : ℕ). slice_get lanes j ≡ Some l) same lane) in
            let f : s ≡ a = some_one old n s a was (subst (λ (j : ℕ). slice_get old j ≡ Some a) same before) in
            let g : s' ≡ b = some_one new' n s' b mine (subst (λ (j : ℕ). slice_get new' j ≡ Some b) same after) in
            subst (λ (z : Lane × (LaneDesk × LaneDesk)). P z.0 z.1.0 z.1.1) (λ j. (e j, (f j, g j))) is)
            (λ other. h.done i l a b (to i other yes) lane before (sym (slice_set_other new i n s' other) ∙ (ap (λ (z : List LaneDesk). slice_get z i) (sym now) ∙ after)));
        rest = λ i a b no before after.
            let far = away i no in
            h.rest i a b far.1 before (sym (slice_set_other new i n s' far.0) ∙ (ap (λ (z : List LaneDesk). slice_get z i) (sym now) ∙ after));
      }

  pub partly_ends : (P : Lane → LaneDesk → LaneDesk → Type 0) (D : ℕ → Type 0) (old new : List LaneDesk) → ((i : ℕ) → i < length lanes → D i) → Partly P D old new → Each P lanes old new
  partly_ends P D old new all h k l s t lane before after = h.done k l s t (all k (slice_get_within lanes k l lane)) lane before after

  -- the desks are still desks
  pub desks_on : (P : Lane → LaneDesk → LaneDesk → Type 0) (old new : List LaneDesk) → AreDesks lanes old → length new ≡ length old → ((l : Lane) (d e : LaneDesk) → IsDeskOf l d → P l d e → IsDeskOf l e) → Each P lanes old new → AreDesks lanes new
  desks_on P old new are count stays each = record {
    count = count ∙ are.count;
    each = λ k l e lane after.
        let w = slice_get_within new k e after in
        let o = element_at old k (omega arith) in
        stays l o.0 e (are.each k l o.0 lane o.1) (each k l o.0 e lane o.1 after);
  }

  -- ---- splitting

  pub record HasSplit (k : ℕ) (old new : List LaneDesk) (parts : List LaneSeat) : Type 0 where
    pub partly : Partly Splits (λ i. i < k) old new
    pub made : length parts ≡ k
    pub fresh : (i : ℕ) (l : Lane) (s : LaneSeat) → slice_get lanes i ≡ Some l → slice_get parts i ≡ Some s → IsFresh l.board.table s.seat × (s.rows.items ≡ [])

  pub split_begins : (desks : List LaneDesk) (parts : List LaneSeat) → parts ≡ [] → HasSplit 0 desks desks parts
  split_begins desks parts none = record {
    partly = partly_begins Splits (λ i. i < 0) desks (λ i in' less. absurd (omega arith));
    made = ap length none;
    fresh = λ i l s lane seat. absurd (let e : slice_get parts i ≡ None = ap (λ (x : List LaneSeat). slice_get x i) none in cc);
  }

  pub split_steps : (k : ℕ) (old new new' : List LaneDesk) (parts parts' : List LaneSeat) (s s' : LaneDesk) (p : LaneSeat) (l : Lane) → HasSplit k old new parts → slice_get lanes k ≡ Some l → slice_get old k ≡ Some s → Splits l s s' → new' ≡ set new k s'
      → parts' ≡ parts ++ p ∷ [] → IsFresh l.board.table p.seat → p.rows.items ≡ [] → HasSplit (k + 1) old new' parts'
  split_steps k old new new' parts parts' s s' p l h at was is now more fresh none = record {
    partly = partly_step Splits (λ i. i < k) (λ i. i < k + 1) k old new new' s s' l h.partly (λ i other less. omega arith) (λ i over. (λ same. over (omega arith), λ less. over (omega arith))) at was is now;
    made = let m = h.made in let c = length-append parts (p ∷ []) in let t = ap length more in omega arith;
    fresh = λ i m t lane seat. of i m t lane (slice_push parts p t i (ap (λ (z : List LaneSeat). slice_get z i) (sym more) ∙ seat));
  }
    where
      of : (i : ℕ) (m : Lane) (t : LaneSeat) → slice_get lanes i ≡ Some m → (slice_get parts i ≡ Some t) ⊎ ((i ≡ length parts) × (p ≡ t)) → IsFresh m.board.table t.seat × (t.rows.items ≡ [])
      of i m t lane (inl seat) = h.fresh i m t lane seat
      of i m t lane (inr (same, one)) =
          let f : l ≡ m = some_one lanes k l m at (subst (λ (j : ℕ). slice_get lanes j ≡ Some m) (same ∙ h.made) lane) in
          subst (λ (z : Lane × LaneSeat). IsFresh z.0.board.table z.1.seat × (z.1.rows.items ≡ [])) (λ i. (f i, one i)) (fresh, none)

  pub split_fresh : (k : ℕ) (old new : List LaneDesk) (parts : List LaneSeat) → k ≡ length lanes → HasSplit k old new parts → AreFresh lanes parts
  split_fresh k old new parts all h = record { seated = record { count = h.made ∙ all; tables = λ i l s lane seat. (h.fresh i l s lane seat).0.0 }; fresh = h.fresh }

  pub split_each : (k : ℕ) (old new : List LaneDesk) (parts : List LaneSeat) → k ≡ length lanes → HasSplit k old new parts → Each Splits lanes old new
  split_each k old new parts all h = partly_ends Splits (λ i. i < k) old new (λ i in'. omega arith) h.partly

  pub split_desks : (k : ℕ) (old new : List LaneDesk) (parts : List LaneSeat) → k ≡ length lanes → AreDesks lanes old → HasSplit k old new parts → AreDesks lanes new
  split_desks k old new parts all are h = desks_on Splits old new are h.partly.count desk_split (split_each k old new parts all h)

  -- ---- taking in what a worker gave back, from the last lane on

  pub record HasTaken (left others : List LaneSeat) (old new : List LaneDesk) : Type 0 where
    pub partly : Partly (GathersIn 1) (λ i. length left ≤ i) old new
    pub few : length left ≤ length old
    pub are : (i : ℕ) (s : LaneSeat) → slice_get left i ≡ Some s → slice_get others i ≡ Some s

  pub taken_begins : (others : List LaneSeat) (seats : List LaneDesk) → length others ≡ length seats → HasTaken others others seats seats
  taken_begins others seats count = record {
    partly = partly_begins (GathersIn 1) (λ i. length others ≤ i) seats (λ i in' over. absurd (omega arith));
    few = omega arith;
    are = λ i s at. at;
  }

  -- the lane and the two seats that come next
  pub record IsNextIn (k : ℕ) (others : List LaneSeat) (old : List LaneDesk) (l : Lane) (s : LaneDesk) (t : LaneSeat) : Type 0 where
    pub lane : slice_get lanes k ≡ Some l
    pub was : slice_get old k ≡ Some s
    pub other : slice_get others k ≡ Some t

  pub taken_next : (left left' others : List LaneSeat) (old new : List LaneDesk) (s : LaneDesk) (t : LaneSeat) (l : Lane) (k : ℕ) → length old ≡ length lanes → HasTaken left others old new → left ≡ left' ++ t ∷ [] → k ≡ length left' → s ≡ get_or new k s → l ≡ get_or lanes k l → IsNextIn k others old l s t
  taken_next left left' others old new s t l k count h last same is lane =
      let e = ap length last in
      let m = length-append left' (t ∷ []) in
      let few = h.few in record {
        lane = slice_get_read lanes (length lanes) k l refl (omega arith) lane;
        was = partly_at (GathersIn 1) (λ i. length left ≤ i) k old new s h.partly (λ over. absurd (omega arith)) (omega arith) is;
        other = h.are k t (ap (λ (x : List LaneSeat). slice_get x k) last ∙ subst (λ (j : ℕ). slice_get (left' ++ t ∷ []) j ≡ Some t) (sym same) (slice_next left' [] t));
      }

  pub taken_steps : (left left' others : List LaneSeat) (old new new' : List LaneDesk) (s s' : LaneDesk) (t : LaneSeat) (l : Lane) (k : ℕ) → HasTaken left others old new → left ≡ left' ++ t ∷ [] → k ≡ length left' → IsNextIn k others old l s t → GathersIn 1 l s s' → new' ≡ set new k s'
      → HasTaken left' others old new'
  taken_steps left left' others old new new' s s' t l k h last same next is now =
      let e = ap length last in
      let m = length-append left' (t ∷ []) in
      let few = h.few in record {
        partly = partly_step (GathersIn 1) (λ i. length left ≤ i) (λ i. length left' ≤ i) k old new new' s s' l h.partly (λ i other over. let o = apart i other in omega arith) (λ i under. (λ equal. under (omega arith), λ over. under (omega arith))) next.lane next.was is now;
        few = omega arith;
        are = λ i u at. h.are i u (ap (λ (x : List LaneSeat). slice_get x i) last ∙ slice_front left' (t ∷ []) u i at);
      }
    where
      apart : (i : ℕ) → i ≢ k → i ≢ length left'
      apart i other equal = other (equal ∙ sym same)

  pub taken_each : (left others : List LaneSeat) (old new : List LaneDesk) → length left ≡ 0 → HasTaken left others old new → Each (GathersIn 1) lanes old new
  taken_each left others old new none h = partly_ends (GathersIn 1) (λ i. length left ≤ i) old new (λ i in'. omega arith) h.partly

  pub taken_desks : (left others : List LaneSeat) (old new : List LaneDesk) → length left ≡ 0 → AreDesks lanes old → HasTaken left others old new → AreDesks lanes new
  taken_desks left others old new none are h = desks_on (GathersIn 1) old new are h.partly.count (desk_gathered 1) (taken_each left others old new none h)

  -- ---- several workers

  pub none_joined : (seats : List LaneDesk) → Each (GathersIn 0) lanes seats seats
  none_joined seats = each_same lanes (GathersIn 0) seats (λ k l s at. gathers_in_same l s)

  pub one_joined : (n m : ℕ) (xs ys zs : List LaneDesk) → m ≡ n + 1 → AreDesks lanes ys → Each (GathersIn n) lanes xs ys → Each (GathersIn 1) lanes ys zs → Each (GathersIn m) lanes xs zs
  one_joined n m xs ys zs same are a b = subst (λ (k : ℕ). Each (GathersIn k) lanes xs zs) (sym same) (each_trans lanes (GathersIn n) (GathersIn 1) (GathersIn (n + 1)) xs ys zs are.count (gathers_in_trans n 1) a b)

  pub crew_of : {L : Type 0} (all : L → List Lane) (p q : Crew L) (s : List LaneSeat) → p ≡ q → all q.lanes.now ≡ lanes → q.seats.value.items ≡ s → AreFresh lanes s → IsOfCrew all lanes p
  crew_of all p q s same of value fresh = subst (IsOfCrew all lanes) (sym same) (of, subst (AreFresh lanes) (sym value) fresh)

  -- room for one more part
  pub room_for : (n total : ℕ) (old now : List LaneDesk) → AreDesks lanes old → AreDesks lanes now → Each (GathersIn n) lanes old now → HaveRoom total old → n < total → HaveRoom 1 now
  room_for n total old now are are' each room less k t at =
      let c = are.count in
      let c' = are'.count in
      let w = slice_get_within now k t at in
      let o = element_at old k (omega arith) in
      let l = element_at lanes k (omega arith) in
      let p = (each k l.0 o.0 t l.1 o.1 at).parts in
      let q = room k o.0 o.1 in omega arith

  -- ---- workers are started

  pub started_begins : (rest : ℕ) (seats : List LaneDesk) → HaveParts rest seats → Each (HasStarted 0 rest) lanes seats seats
  started_begins rest seats parts k l s t lane before after = subst (HasStarted 0 rest l s) (some_one seats k s t before after) (let p = parts k s before in
      let q = p.0 in record { at = refl; table = refl; parts = omega arith; few = omega arith; small = p.1; gathers = gathers_same l.context.now l.cells s.desk.seat.view s.rows.items })

  pub have_one : (n rest m : ℕ) (old now : List LaneDesk) → AreDesks lanes old → AreDesks lanes now → Each (HasStarted n rest) lanes old now → m + 1 ≡ rest → HaveParts 1 now
  have_one n rest m old now are are' each step k t at =
      let c = are.count in
      let c' = are'.count in
      let w = slice_get_within now k t at in
      let o = element_at old k (omega arith) in
      let l = element_at lanes k (omega arith) in
      let h = each k l.0 o.0 t l.1 o.1 at in
      let p = h.parts in
      let q = h.few in
      let r = h.small in (omega arith, omega arith)

  pub started_one : (n rest m : ℕ) (old now mid : List LaneDesk) → m + 1 ≡ rest → AreDesks lanes now → Each (HasStarted n rest) lanes old now → Each Splits lanes now mid → Each (HasStarted (n + 1) m) lanes old mid
  started_one n rest m old now mid step are a b = each_trans lanes (HasStarted n rest) Splits (HasStarted (n + 1) m) old now mid are.count (λ l s t u x y. start_one n rest m l s t u step x y) a b

  pub taken_back : (n m : ℕ) (old mid next : List LaneDesk) → AreDesks lanes mid → Each (HasStarted (n + 1) m) lanes old mid → Each (GathersIn 1) lanes mid next → Each (HasStarted n m) lanes old next
  taken_back n m old mid next are a b = each_trans lanes (HasStarted (n + 1) m) (GathersIn 1) (HasStarted n m) old mid next are.count (λ l s t u x y. take_back n m l s t u x y) a b

  pub room_mid : (n m : ℕ) (old mid : List LaneDesk) → AreDesks lanes old → AreDesks lanes mid → Each (HasStarted (n + 1) m) lanes old mid → HaveRoom 1 mid
  room_mid n m old mid are are' each k t at =
      let c = are.count in
      let c' = are'.count in
      let w = slice_get_within mid k t at in
      let o = element_at old k (omega arith) in
      let l = element_at lanes k (omega arith) in
      let h = each k l.0 o.0 t l.1 o.1 at in
      let p = h.parts in
      let r = h.small in omega arith

  -- ---- the thread that reads is a worker, too

  -- parts were split off, and what one worker gave back was taken in
  pub helped : (old mid next : List LaneDesk) → AreDesks lanes old → AreDesks lanes mid → HaveParts 1 old → Each Splits lanes old mid → Each (GathersIn 1) lanes mid next → Each (GathersIn 0) lanes old next
  helped old mid next are are' parts a b k l s u lane before after =
      none_out 0 l s u (taken_back 0 0 old mid next are' (started_one 0 1 0 old old mid refl are (started_begins 1 old parts) a) b k l s u lane before after)

  -- and there was room for that part
  pub room_split : (old mid : List LaneDesk) → AreDesks lanes old → AreDesks lanes mid → HaveParts 1 old → Each Splits lanes old mid → HaveRoom 1 mid
  room_split old mid are are' parts a = room_mid 0 0 old mid are are' (started_one 0 1 0 old old mid refl are (started_begins 1 old parts) a)

  -- room is as before
  pub room_kept : (n : ℕ) (old now : List LaneDesk) → AreDesks lanes old → AreDesks lanes now → Each (GathersIn 0) lanes old now → HaveRoom n old → HaveRoom n now
  room_kept n old now are are' each room k t at =
      let c = are.count in
      let c' = are'.count in
      let w = slice_get_within now k t at in
      let o = element_at old k (omega arith) in
      let l = element_at lanes k (omega arith) in
      let p = (each k l.0 o.0 t l.1 o.1 at).parts in
      let q = room k o.0 o.1 in omega arith

  -- what others gave back came after that
  pub then_joined : (n : ℕ) (old mid next : List LaneDesk) → AreDesks lanes mid → Each (GathersIn 0) lanes old mid → Each (GathersIn n) lanes mid next → Each (GathersIn n) lanes old next
  then_joined n old mid next are a b =
      let same : 0 + n ≡ n = omega arith in
      subst (λ (k : ℕ). Each (GathersIn k) lanes old next) same (each_trans lanes (GathersIn 0) (GathersIn n) (GathersIn (0 + n)) old mid next are.count (gathers_in_trans 0 n) a b)

  -- ---- the workers are joined after the reading

  -- the desk of a lane when workers had been started, and after the reading
  pub record IsBetween (k n rest : ℕ) (l : Lane) (old now read : List LaneDesk) (s t u : LaneDesk) : Type 0 where
    pub mid : slice_get now k ≡ Some t
    pub after : slice_get read k ≡ Some u
    pub started : HasStarted n rest l s t
    pub reads : Reads l t u
    pub is : IsDeskOf l u

  pub between : (k n rest : ℕ) (l : Lane) (old now read : List LaneDesk) (s : LaneDesk) → slice_get lanes k ≡ Some l → slice_get old k ≡ Some s → AreDesks lanes now → AreDesks lanes read → Each (HasStarted n rest) lanes old now → Each Reads lanes now read
      → (t u : LaneDesk) × IsBetween k n rest l old now read s t u
  between k n rest l old now read s lane was are are' a b =
      let w = slice_get_within lanes k l lane in
      let c = are.count in
      let c' = are'.count in
      let t = element_at now k (omega arith) in
      let u = element_at read k (omega arith) in
      (t.0, u.0, record { mid = t.1; after = u.1; started = a k l s t.0 lane was t.1; reads = b k l t.0 u.0 lane t.1 u.1; is = are'.each k l u.0 lane u.1 })

  -- after the reading a desk's seat has the parts that weren't split off, more than may still be
  pub parts_left : (n rest : ℕ) (old now read : List LaneDesk) → AreDesks lanes old → AreDesks lanes now → AreDesks lanes read → Each (HasStarted n rest) lanes old now → Each Reads lanes now read
      → (k : ℕ) (u : LaneDesk) → slice_get read k ≡ Some u → (rest < u.desk.seat.view.parts) × (u.desk.seat.view.parts + n < 18446744073709551616)
  parts_left n rest old now read are are' are'' a b k u at =
      let c = are.count in
      let c'' = are''.count in
      let w = slice_get_within read k u at in
      let o = element_at old k (omega arith) in
      let l = element_at lanes k (omega arith) in
      let m = between k n rest l.0 old now read o.0 l.1 o.1 are' are'' a b in
      let same : m.1 ≡ u = some_one read k m.1 u m.2.after at in
      let h = m.2.started in
      let p = h.parts in
      let f = h.few in
      let r = h.small in
      let q = m.2.reads.parts in
      let e = ap (λ (d : LaneDesk). d.desk.seat.view.parts) same in (omega arith, omega arith)

  pub room_read : (n rest : ℕ) (old now read : List LaneDesk) → AreDesks lanes old → AreDesks lanes now → AreDesks lanes read → Each (HasStarted n rest) lanes old now → Each Reads lanes now read → HaveRoom n read
  room_read n rest old now read are are' are'' a b k u at = (parts_left n rest old now read are are' are'' a b k u at).1

  pub parts_read : (n rest own : ℕ) (old now read : List LaneDesk) → own ≤ rest → AreDesks lanes old → AreDesks lanes now → AreDesks lanes read → Each (HasStarted n rest) lanes old now → Each Reads lanes now read → HaveParts own read
  parts_read n rest own old now read few are are' are'' a b k u at =
      let p = parts_left n rest old now read are are' are'' a b k u at in
      let q = p.0 in
      let r = p.1 in (omega arith, omega arith)

  pub all_joined : (n rest : ℕ) (old now read last : List LaneDesk) → HaveNoRows old → AreDesks lanes now → AreDesks lanes read → Each (HasStarted n rest) lanes old now → Each Reads lanes now read → Each (GathersIn n) lanes read last → Each HasReadIn lanes old last
  all_joined n rest old now read last none are are' a b c k l s v lane before after =
      let m = between k n rest l old now read s lane before are are' a b in
      read_in n rest l s m.0 m.1 v (none k s before) m.2.started m.2.reads m.2.is (c k l m.1 v lane m.2.after after)
