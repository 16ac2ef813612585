use Rattle.std.proofs.Common.{rules, arith, ◌≡◌, ◌≢◌, ◌∙◌, ℕ, zero, suc, [], ◌∷◌, Some, slice_get, refl, sym, ap, subst, List}
use Rattle.batch_pool.specs.declared.lanes.lane.Lane.{Lane}
use Rattle.batch_pool.specs.declared.lanes.lane.LaneSeat.{LaneSeat}
use Rattle.batch_pool.specs.Lanes.{AreSeated, AreApart}
use Rattle.worker_tests.proofs.workers.two_lanes.Goals as goal

module _ (a b : Lane) (s t : LaneSeat) (first : s.seat.table ≡ a.board.table) (second : t.seat.table ≡ b.board.table) where
  tables : (k : ℕ) (l : Lane) (u : LaneSeat) → slice_get (a ∷ b ∷ []) k ≡ Some l → slice_get (s ∷ t ∷ []) k ≡ Some u → u.seat.table ≡ l.board.table
  tables zero l u at seat = let e : a ≡ l = cc in let f : s ≡ u = cc in subst (λ (z : Lane × LaneSeat). z.1.seat.table ≡ z.0.board.table) (λ i. (e i, f i)) first
  tables (suc zero) l u at seat = let e : b ≡ l = cc in let f : t ≡ u = cc in subst (λ (z : Lane × LaneSeat). z.1.seat.table ≡ z.0.board.table) (λ i. (e i, f i)) second
  tables (suc (suc k)) l u at seat = absurd cc

  two_seated : AreSeated (a ∷ b ∷ []) (s ∷ t ∷ [])
  two_seated = record { count = refl; tables = tables }

two_apart : (a b : Lane) → a.module ≢ b.module → AreApart (a ∷ b ∷ [])
two_apart a b other zero zero l m at bt same = refl
two_apart a b other zero (suc zero) l m at bt same = let e : a ≡ l = cc in let f : b ≡ m = cc in absurd (other (ap (λ (x : Lane). x.module) e ∙ (same ∙ sym (ap (λ (x : Lane). x.module) f))))
two_apart a b other (suc zero) zero l m at bt same = let e : b ≡ l = cc in let f : a ≡ m = cc in absurd (other (ap (λ (x : Lane). x.module) f ∙ (sym same ∙ sym (ap (λ (x : Lane). x.module) e))))
two_apart a b other (suc zero) (suc zero) l m at bt same = refl
two_apart a b other zero (suc (suc k)) l m at bt same = absurd cc
two_apart a b other (suc zero) (suc (suc k)) l m at bt same = absurd cc
two_apart a b other (suc (suc j)) k l m at bt same = absurd cc

pub returns-clause-seated : goal.returns-clause-seated
returns-clause-seated c =
    let a = c.in_ok-three.three in
    let b = c.in_ok-seven.seven in
    let s = c.in_ok-three.first in
    let t = c.in_ok-seven.second in
    let lanes : c.in_ok-lanes.lanes.items ≡ a ∷ b ∷ [] = search rules in
    let seats : c.in_ok-seats.seats.items ≡ s ∷ t ∷ [] = search rules in
    subst (λ (z : List Lane × List LaneSeat). AreSeated z.0 z.1) (λ i. (sym lanes i, sym seats i)) (two_seated a b s t c.in_ok-three.ensures.table c.in_ok-seven.ensures.table)

pub returns-clause-apart : goal.returns-clause-apart
returns-clause-apart c =
    let a = c.in_ok-three.three in
    let b = c.in_ok-seven.seven in
    let lanes : c.in_ok-lanes.lanes.items ≡ a ∷ b ∷ [] = search rules in
    subst AreApart (sym lanes) (two_apart a b (λ same. absurd (omega (arith, c.in_ok-three.ensures.«module», c.in_ok-seven.ensures.«module», same))))
