-- The batches that were tried so far, among those that were kept.
use Rattle.std.proofs.Common.{◌≡◌, ◌≢◌, ◌⊎◌, ◌<◌, ◌≤◌, inl, inr, ℕ, suc, ◌+◌, true, List, ◌∷◌, length, slice_index, get_or, sym, refl, ap, ◌∙◌, subst, arith, Contains}
use mathlib.Core.Logic.{dite}
use Rattle.std.proofs.lemmas.List.Elements.{Contains-append_right}
use native.Mathlib.Decide.{ℕ_discrete}
use Rattle.index_spaces.specs.Spaces.{Spaces}
use Rattle.result_cells.specs.Rooms.{Store}
use Rattle.cancel_drain.specs.declared.view.View.{View}
use Rattle.cancel_drain.specs.Closing.{IsTried}
use Rattle.cancel_drain.specs.Views.{times}
use Rattle.body_compiler.specs.declared.batch.row.Row.{Row}
use Rattle.batch_pool.specs.declared.ticket.Ticket.{Ticket}
use Rattle.batch_pool.specs.Working.{Grows, Fits, IsServed}
use Rattle.batch_pool.proofs.Served.{grows_same, grows_trans, served_stays, served_later}
use Rattle.batch_pool.specs.Settling.{IsKept, AreKept}

pub length_step : {X : Type 0} (xs ys : List X) (x : X) (m n : ℕ) → xs ≡ x ∷ ys → n + 1 ≡ m → length xs ≡ m → length ys ≡ n
length_step xs ys x m n e f g = let l : length xs ≡ suc (length ys) = ap length e in omega arith

module _ (c : Spaces) (cells : Store) (functions : ℕ) where
  -- a batch was served
  pub record IsDoneWith (published : List ℕ) (v0 v : View) (b : ℕ) : Type 0 where
    pub ticket : Ticket
    pub number : ticket.number ≡ b
    pub start : ticket.start ≡ slice_index published b
    pub served : IsServed v0 v ticket

  -- those before the rest were served
  pub record HasTried (v0 v : View) (rows0 rows : List Row) (rest : List Ticket) : Type 0 where
    pub grows : Grows c cells v0 v rows0 rows
    pub running : v.running ≡ v0.running
    pub few : length rest ≤ length v0.published
    pub rest_is : (k : ℕ) (d : Ticket) → k < length rest → (b : ℕ) → b + length rest ≡ length v0.published + k → IsKept c functions v0.published b (get_or rest k d)
    pub front : (b : ℕ) → b + length rest < length v0.published → IsDoneWith v0.published v0 v b

  pub tried_begins : (v : View) (rows : List Row) (rest kept : List Ticket) → rest ≡ kept → AreKept c functions v.published kept → HasTried v v rows rows rest
  tried_begins v rows rest kept same k = let e : length rest ≡ length kept = ap length same in let count = k.count in record {
    grows = grows_same c cells v rows;
    running = refl;
    few = omega arith;
    rest_is = λ n d in' b is. let f : n ≡ b = omega arith in
        subst (λ (l : List Ticket). IsKept c functions v.published b (get_or l n d)) (sym same) (subst (λ (m : ℕ). IsKept c functions v.published m (get_or kept n d)) f (k.each n d (omega arith)));
    front = λ b in'. absurd (omega arith);
  }

  pub tried_steps : (v0 v w : View) (rows0 rows rows' : List Row) (rest rest' : List Ticket) (t : Ticket) → HasTried v0 v rows0 rows rest → rest ≡ t ∷ rest'
      → Grows c cells v w rows rows' → w.running ≡ v.running → (Fits c functions t → IsServed v w t) → HasTried v0 w rows0 rows' rest'
  tried_steps v0 v w rows0 rows rows' rest rest' t h step grows running serves =
      let e : length rest ≡ suc (length rest') = ap length step in
      let few = h.few in
      let here = λ (b : ℕ) (is : b + length rest ≡ length v0.published). subst (λ (l : List Ticket). IsKept c functions v0.published b (get_or l 0 t)) step (h.rest_is 0 t (omega arith) b (omega arith)) in record {
        grows = grows_trans c cells v0 v w rows0 rows rows' h.grows grows;
        running = running ∙ h.running;
        few = omega arith;
        rest_is = λ k d in' b is. subst (λ (l : List Ticket). IsKept c functions v0.published b (get_or l (suc k) d)) step (h.rest_is (suc k) d (omega arith) b (omega arith));
        front = λ b in'. dite (ℕ_discrete (b + length rest) (length v0.published))
            (λ is. let k = here b is in record { ticket = t; number = k.number; start = k.start; served = served_later c cells v0 v w rows0 rows t h.grows (serves k.fits) })
            (λ less. let old = h.front b (omega arith) in record { ticket = old.ticket; number = old.number; start = old.start; served = served_stays c cells v0 v w rows rows' old.ticket grows old.served });
      }

  tried_of : (published : List ℕ) (v0 v : View) (b : ℕ) → v.published ≡ published → v.feeder ≡ true → b < length v.published → IsDoneWith published v0 v b → IsTried v b
  tried_of published v0 v b same feeds in' d = subst (λ (z : ℕ × ℕ). Tried z.0 z.1) (λ i. (d.number i, start i)) (of d.served)
    where
      Tried : ℕ → ℕ → Type 0
      Tried b s = (0 < times b s v.running) ⊎ (0 < times b s v.done) ⊎ (0 < times b s v.drained) ⊎ ((word : ℕ) × (word ≢ 0) × Contains v.lost (b, s, word))

      start : d.ticket.start ≡ slice_index v.published b
      start = d.start ∙ ap (λ (l : List ℕ). slice_index l b) (sym same)

      of : IsServed v0 v d.ticket → Tried d.ticket.number d.ticket.start
      of (inl h) = inr (inl (omega arith))
      of (inr (inl h)) = inr (inr (inl (omega arith)))
      of (inr (inr h)) = let n = d.number in let m = h.2 in inr (inr (inr (
        h.0,
        h.1 feeds (omega arith),
        subst (λ (l : List (ℕ × ℕ × ℕ)). Contains l (d.ticket.number, d.ticket.start, h.0)) (sym m.1) (Contains-append_right v0.lost m.0 (d.ticket.number, d.ticket.start, h.0) m.2),
      )))

  pub tried_ends : (v0 v : View) (rows0 rows : List Row) (rest : List Ticket) → HasTried v0 v rows0 rows rest → length rest ≡ 0 → v0.feeder ≡ true → (b : ℕ) → b < length v.published → IsTried v b
  tried_ends v0 v rows0 rows rest h none feeds b in' =
      let l : length v.published ≡ length v0.published = ap length h.grows.adds.published in
      tried_of v0.published v0 v b h.grows.adds.published (h.grows.adds.feeder ∙ feeds) in' (h.front b (omega arith))
