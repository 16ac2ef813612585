-- What serving a ticket of one lane does at its seat, and to the others.
use Rattle.std.proofs.Common.{◌≡◌, ◌≢◌, inl, inr, ℕ, zero, suc, List, [], ◌∷◌, ◌++◌, length, All, Some, slice_get, Result, Ok, Err, refl, sym, ap, ◌∙◌, subst, arith, append_assoc}
use Rattle.std.specs.Prelude.{OnOk}
use mathlib.Core.Logic.{dite}
use native.Mathlib.Decide.{ℕ_discrete}
use Rattle.std.proofs.Math.ListN.{set}
use Rattle.std.proofs.lemmas.Option.{slice_get_within}
use Rattle.std.proofs.lemmas.List.{append-nil}
use Rattle.std.proofs.lemmas.List.Elements.{All-head, All-tail, All-push, All-weaker, Contains-push, Contains-append_left}
use Rattle.body_compiler.specs.declared.batch.row.Row.{Row}
use Rattle.batch_pool.specs.declared.ticket.Ticket.{Ticket}
use Rattle.batch_pool.specs.declared.lanes.lane.Lane.{Lane}
use Rattle.batch_pool.specs.declared.lanes.lane.LaneSeat.{LaneSeat}
use Rattle.batch_pool.specs.Hands.{Holder, queues}
use Rattle.batch_pool.specs.Working.{Took}
use Rattle.batch_pool.specs.Lanes.{AreSeated, AreApart, Each, Works, Runs, Serves, AddsIn, AddsOf, IsOfModule}
use Rattle.batch_pool.proofs.Elements.{some_one, element_at, slice_set_same, slice_set_other}
use Rattle.batch_pool.proofs.Served.{grows_same, grows_trans, served_stays, served_later}
use Rattle.batch_pool.proofs.Turns.{Gives, CountsStay, took_more, later_counts}

pub on_ok : {X Y : Type 0} (r : Result X Y) (P Q : Type 0) → (P → Q) → OnOk r P → OnOk r Q
on_ok (Ok x) P Q f p = f p
on_ok (Err e) P Q f p = p

-- no lane is of this module
pub none_of : (m : ℕ) (lanes : List Lane) (k : ℕ) (l : Lane) → All (λ x. x.module ≢ m) lanes → slice_get lanes k ≡ Some l → m ≢ l.module
none_of m [] k l all at = absurd cc
none_of m (x ∷ lanes) zero l all at = λ e. All-head (λ (y : Lane). y.module ≢ m) x lanes all (let f : x ≡ l = cc in ap (λ (y : Lane). y.module) f ∙ sym e)
none_of m (x ∷ lanes) (suc k) l all at = none_of m lanes k l (All-tail (λ (y : Lane). y.module ≢ m) x lanes all) at

-- ---- one lane

pub works_same : (l : Lane) (s : LaneSeat) → Works l s s
works_same l s = record { table = refl; grows = grows_same l.context.now l.cells s.seat.view s.rows.items }

pub works_trans : (l : Lane) (s t u : LaneSeat) → Works l s t → Works l t u → Works l s u
works_trans l s t u a b = record { table = b.table ∙ a.table; grows = grows_trans l.context.now l.cells s.seat.view t.seat.view u.seat.view s.rows.items t.rows.items u.rows.items a.grows b.grows }

adds_none : (ts : List Ticket) (l : Lane) (s : LaneSeat) → AddsOf ts l s s
adds_none ts l s = ([], sym (append-nil s.rows.items), λ k d in'. absurd (omega arith))

adds_more : (ts : List Ticket) (u : Ticket) (l : Lane) (a b c : LaneSeat) → AddsOf ts l a b → AddsIn u l b c → AddsOf (ts ++ u ∷ []) l a c
adds_more ts u l a b c (more, are, all) adds = of adds
  where
    later : All (IsOfModule (ts ++ u ∷ []) l.module) more
    later = All-weaker (IsOfModule ts l.module) (IsOfModule (ts ++ u ∷ []) l.module) (λ row one. (one.0, Contains-append_left ts (u ∷ []) one.0 one.1, one.2, one.3)) more all

    of : AddsIn u l b c → AddsOf (ts ++ u ∷ []) l a c
    of (inl same) = (more, same ∙ are, later)
    of (inr (is, inl same)) = (more, same ∙ are, later)
    of (inr (is, inr (row, same, batch))) = (
      more ++ row ∷ [],
      same ∙ (ap (λ (rows : List Row). rows ++ row ∷ []) are ∙ append_assoc a.rows.items more (row ∷ [])),
      All-push (IsOfModule (ts ++ u ∷ []) l.module) more row later (u, Contains-push ts u, is, batch),
    )

module _ (lanes : List Lane) where
  -- ---- each lane

  pub each_same : {S : Type 0} (P : Lane → S → S → Type 0) (seats : List S) → ((k : ℕ) (l : Lane) (s : S) → slice_get lanes k ≡ Some l → P l s s) → Each P lanes seats seats
  each_same P seats same k l s t lane before after = subst (P l s) (some_one seats k s t before after) (same k l s lane)

  pub each_trans : {S : Type 0} (P Q R : Lane → S → S → Type 0) (xs ys zs : List S) → length ys ≡ length lanes → ((l : Lane) (s t u : S) → P l s t → Q l t u → R l s u) → Each P lanes xs ys → Each Q lanes ys zs → Each R lanes xs zs
  each_trans P Q R xs ys zs count both a b k l s u lane before after =
      let w = slice_get_within lanes k l lane in
      let m = element_at ys k (omega arith) in
      both l s m.0 u (a k l s m.0 lane before m.1) (b k l m.0 u lane m.1 after)

  -- one lane's seat has changed
  pub each_set : {S : Type 0} (P : Lane → S → S → Type 0) (n : ℕ) (seats : List S) (s s' : S) (here : Lane) → slice_get lanes n ≡ Some here → slice_get seats n ≡ Some s → P here s s'
      → ((k : ℕ) (l : Lane) (u : S) → k ≢ n → slice_get lanes k ≡ Some l → P l u u) → Each P lanes seats (set seats n s')
  each_set {S = S} P n seats s s' here at was is rest k l u w lane before after = dite (ℕ_discrete k n)
      (λ same.
      let e : here ≡ l = some_one lanes n here l at (subst (λ (i : ℕ). slice_get lanes i ≡ Some l) same lane) in
      let f : s ≡ u = some_one seats n s u was (subst (λ (i : ℕ). slice_get seats i ≡ Some u) same before) in
      let g : s' ≡ w = some_one (set seats n s') n s' w (slice_set_same seats n s' (slice_get_within seats n s was)) (subst (λ (i : ℕ). slice_get (set seats n s') i ≡ Some w) same after) in
      subst (λ (z : Lane × (S × S)). P z.0 z.1.0 z.1.1) (λ i. (e i, (f i, g i))) is)
      (λ other.
      let f : u ≡ w = some_one seats k u w before (sym (slice_set_other seats k n s' other) ∙ after) in
      subst (P l u) f (rest k l u other lane))

  -- the seats are at the same boards
  pub seated_on : (xs ys : List LaneSeat) → AreSeated lanes xs → length ys ≡ length xs → Each (λ l s t. t.seat.table ≡ s.seat.table) lanes xs ys → AreSeated lanes ys
  seated_on xs ys are count each = record {
    count = count ∙ are.count;
    tables = λ k l t lane seat.
        let w = slice_get_within ys k t seat in
        let o = element_at xs k (omega arith) in
        each k l o.0 t lane o.1 seat ∙ are.tables k l o.0 lane o.1;
  }

  -- ---- a ticket of the n-th lane was served

  module _ (apart : AreApart lanes) (n : ℕ) (here : Lane) (u : Ticket) (at : slice_get lanes n ≡ Some here) (of : here.module ≡ u.module) where
    -- the other lanes' modules are others
    pub apart_from : (k : ℕ) (l : Lane) → k ≢ n → slice_get lanes k ≡ Some l → u.module ≢ l.module
    apart_from k l other lane same = other (apart k n l here lane at (sym same ∙ sym of))

  pub more_rows : (xs ys zs : List LaneSeat) (ts : List Ticket) (t : Ticket) → length ys ≡ length lanes → Each (AddsOf ts) lanes xs ys → Each (AddsIn t) lanes ys zs → Each (AddsOf (ts ++ t ∷ [])) lanes xs zs
  more_rows xs ys zs ts t count a b = each_trans (AddsOf ts) (AddsIn t) (AddsOf (ts ++ t ∷ [])) xs ys zs count (adds_more ts t) a b

  pub more_works : (xs ys zs : List LaneSeat) → length ys ≡ length lanes → Each Works lanes xs ys → Each Works lanes ys zs → Each Works lanes xs zs
  more_works xs ys zs count a b = each_trans Works Works Works xs ys zs count works_trans a b

  -- ---- what a worker did so far

  pub record HasWorkedMany (h0 h : Holder) (seats0 seats : List LaneSeat) : Type 0 where
    pub tickets : List Ticket
    pub took : Took h0 tickets h
    pub seated : AreSeated lanes seats
    pub works : Each Works lanes seats0 seats
    pub rows : Each (AddsOf tickets) lanes seats0 seats
    pub running : Each Runs lanes seats0 seats
    pub served : All (λ u. Each (Serves u) lanes seats0 seats) tickets
    pub queues_stay : queues h ≡ queues h0
    pub counts : CountsStay h0 h

  pub many_begins : (h : Holder) (seats : List LaneSeat) → AreSeated lanes seats → HasWorkedMany h h seats seats
  many_begins h seats are = record {
    tickets = [];
    took = λ weight. omega arith;
    seated = are;
    works = each_same Works seats (λ k l s at. works_same l s);
    rows = each_same (AddsOf []) seats (λ k l s at. adds_none [] l s);
    running = each_same Runs seats (λ k l s at. refl);
    served = λ k d in'. absurd (omega arith);
    queues_stay = refl;
    counts = λ k in'. inl refl;
  }

  pub many_steps : (h0 h h' : Holder) (seats0 seats seats' : List LaneSeat) (t : Ticket) → HasWorkedMany h0 h seats0 seats → queues h' ≡ queues h → Gives h t h' → CountsStay h h' → AreSeated lanes seats'
      → Each Works lanes seats seats' → Each (AddsIn t) lanes seats seats' → Each Runs lanes seats seats' → Each (Serves t) lanes seats seats' → HasWorkedMany h0 h' seats0 seats'
  many_steps h0 h h' seats0 seats seats' t i same gives counts seated works rows running served = record {
    tickets = i.tickets ++ t ∷ [];
    took = took_more h0 h h' i.tickets t i.took gives;
    seated = seated;
    works = each_trans Works Works Works seats0 seats seats' i.seated.count works_trans i.works works;
    rows = more_rows seats0 seats seats' i.tickets t i.seated.count i.rows rows;
    running = each_trans Runs Runs Runs seats0 seats seats' i.seated.count (λ l a b c p q. q ∙ p) i.running running;
    served = All-push (λ u. Each (Serves u) lanes seats0 seats') i.tickets t
        (All-weaker (λ u. Each (Serves u) lanes seats0 seats) (λ u. Each (Serves u) lanes seats0 seats')
        (λ u s. each_trans (Serves u) Works (Serves u) seats0 seats seats' i.seated.count
        (λ l a b c p q of fits. served_stays l.context.now l.cells a.seat.view b.seat.view c.seat.view b.rows.items c.rows.items u q.grows (p of fits)) s works) i.tickets i.served)
        (each_trans Works (Serves t) (Serves t) seats0 seats seats' i.seated.count
        (λ l a b c p q of fits. served_later l.context.now l.cells a.seat.view b.seat.view c.seat.view a.rows.items b.rows.items t p.grows (q of fits)) i.works served);
    queues_stay = same ∙ i.queues_stay;
    counts = later_counts h0 h h' i.queues_stay i.counts counts;
  }
