-- What came of modules whose compilations are lent.
use Rattle.std.proofs.Common.{◌≡◌, ◌⊎◌, inl, inr, ◌<◌, ◌≤◌, ◌+◌, ℕ, zero, suc, Bool, List, [], ◌∷◌, ◌++◌, length, Option, Some, None, Result, Ok, Err, slice_get, refl, sym, ap, ◌∙◌, subst, arith, length-append}
use Rattle.std.specs.Prelude.{OnOk}
use Rattle.std.proofs.Math.ListN.{set, length-set}
use Rattle.std.proofs.lemmas.Option.{slice_get_within}
use Rattle.result_cells.specs.Rooms.{Store}
use Rattle.body_compiler.specs.declared.batch.row.Row.{Row}
use Rattle.many_streams.specs.declared.flow.Flow.{Flow}
use Rattle.many_streams.specs.declared.member.Part.{Part}
use Rattle.many_streams.specs.declared.member.Member.{Member}
use Rattle.many_streams.specs.declared.member.Member.TheVariants as member
use Rattle.many_streams.specs.declared.working.Made.{Made}
use Rattle.many_streams.specs.Flows.{member_with, members_with, IsLent, AreLent}
use Rattle.many_streams.specs.Members.{IsMember, IsEnded, AreRowsOf}
use Rattle.many_streams.specs.Workers.{AreMade}
use Rattle.many_streams.proofs.Feeding.{refused_more, refused_whole}
use Rattle.batch_pool.proofs.Elements.{some_one, element_at, slice_set_same, slice_set_other, slice_push}

-- ---- lists

pub with_none : (ms : List Member) → members_with ms [] ≡ ms
with_none [] = refl
with_none (m ∷ ms) = refl

pub length-with : (ms : List Member) (os : List (Option Flow)) → length (members_with ms os) ≡ length ms
length-with [] [] = refl
length-with (m ∷ ms) [] = refl
length-with [] (o ∷ os) = refl
length-with (m ∷ ms) (o ∷ os) = ap suc (length-with ms os)

pub with_at : (ms : List Member) (os : List (Option Flow)) (k : ℕ) (m : Member) (o : Option Flow) → slice_get ms k ≡ Some m → slice_get os k ≡ Some o → slice_get (members_with ms os) k ≡ Some (member_with m o)
with_at ms [] k m o a b = absurd cc
with_at [] (x ∷ os) k m o a b = absurd cc
with_at (y ∷ ms) (x ∷ os) zero m o a b =
    let e : y ≡ m = cc in
    let f : x ≡ o = cc in λ i. Some (member_with (e i) (f i))
with_at (y ∷ ms) (x ∷ os) (suc k) m o a b = with_at ms os k m o a b

pub with_set : (ms : List Member) (os : List (Option Flow)) (k : ℕ) (m : Member) (o : Option Flow) → slice_get ms k ≡ Some m → k < length os → members_with ms (set os k o) ≡ set (members_with ms os) k (member_with m o)
with_set ms [] k m o at in' = absurd (omega arith)
with_set [] (x ∷ os) k m o at in' = absurd cc
with_set (y ∷ ms) (x ∷ os) zero m o at in' = let e : y ≡ m = cc in ap (λ (z : Member). member_with z o ∷ members_with ms os) e
with_set (y ∷ ms) (x ∷ os) (suc k) m o at in' = ap (λ (l : List Member). member_with y x ∷ l) (with_set ms os k m o at (omega arith))

pub set_same : {X : Type 0} (xs : List X) (k : ℕ) (x : X) → slice_get xs k ≡ Some x → set xs k x ≡ xs
set_same [] k x at = refl
set_same (y ∷ xs) zero x at = let e : y ≡ x = cc in ap (λ z. z ∷ xs) (sym e)
set_same (y ∷ xs) (suc k) x at = ap (λ l. y ∷ l) (set_same xs k x at)

-- what came of one more was taken out
with_push : (now : List Member) (os : List (Option Flow)) (m m' : Member) (o : Option Flow) → slice_get now (length os) ≡ Some m → member_with m' o ≡ m → members_with (set now (length os) m') (os ++ o ∷ []) ≡ members_with now os
with_push [] [] m m' o at same = absurd cc
with_push (y ∷ now) [] m m' o at same = let e : y ≡ m = cc in λ i. (same ∙ sym e) i ∷ with_none now i
with_push [] (x ∷ os) m m' o at same = absurd cc
with_push (y ∷ now) (x ∷ os) m m' o at same = ap (λ (l : List Member). member_with y x ∷ l) (with_push now os m m' o at same)

-- what came of the last was put back
with_pop : (now : List Member) (os : List (Option Flow)) (m : Member) (o : Option Flow) → slice_get now (length os) ≡ Some m → members_with (set now (length os) (member_with m o)) os ≡ members_with now (os ++ o ∷ [])
with_pop [] [] m o at = absurd cc
with_pop (y ∷ now) [] m o at = let e : y ≡ m = cc in λ i. member_with (sym e i) o ∷ sym (with_none now) i
with_pop [] (x ∷ os) m o at = absurd cc
with_pop (y ∷ now) (x ∷ os) m o at = ap (λ (l : List Member). member_with y x ∷ l) (with_pop now os m o at)

-- ---- taking out

pub record HasTakenOut (k : ℕ) (old now : List Member) (os : List (Option Flow)) : Type 0 where
  pub count : length os ≡ k
  pub all : length now ≡ length old
  pub whole : members_with now os ≡ old
  pub lent : AreLent now os
  pub rest : (i : ℕ) → k ≤ i → slice_get now i ≡ slice_get old i

pub out_begins : (ms : List Member) (os : List (Option Flow)) → os ≡ [] → HasTakenOut 0 ms ms os
out_begins ms os none = record {
  count = ap length none;
  all = refl;
  whole = ap (λ (l : List (Option Flow)). members_with ms l) none ∙ with_none ms;
  lent = λ i m o a b. absurd (let e : slice_get os i ≡ None = ap (λ (l : List (Option Flow)). slice_get l i) none in cc);
  rest = λ i over. refl;
}

pub out_next : (k : ℕ) (old now : List Member) (os : List (Option Flow)) (m : Member) → HasTakenOut k old now os → slice_get now k ≡ Some m → slice_get old k ≡ Some m
out_next k old now os m h at = sym (h.rest k (omega arith)) ∙ at

pub out_steps : (k : ℕ) (old now now' : List Member) (os os' : List (Option Flow)) (m m' : Member) (o : Option Flow) → HasTakenOut k old now os → slice_get now k ≡ Some m → now' ≡ set now k m' → os' ≡ os ++ o ∷ [] → IsLent m' o → member_with m' o ≡ m → HasTakenOut (k + 1) old now' os'
out_steps k old now now' os os' m m' o h at set' more lent same = record {
  count = let c = h.count in let a = ap length more in omega (arith, length-append os (o ∷ []));
  all = ap length set' ∙ (length-set now k m' ∙ h.all);
  whole = (λ i. members_with ((set' ∙ ap (λ (j : ℕ). set now j m') (sym h.count)) i) (more i)) ∙ (with_push now os m m' o (ap (λ (j : ℕ). slice_get now j) h.count ∙ at) same ∙ h.whole);
  lent = λ i x y a b. of i x y a (slice_push os o y i (ap (λ (l : List (Option Flow)). slice_get l i) (sym more) ∙ b));
  rest = λ i over. ap (λ (l : List Member). slice_get l i) set' ∙ (slice_set_other now i k m' (λ e. absurd (omega (arith, e))) ∙ h.rest i (omega arith));
}
  where
    of : (i : ℕ) (x : Member) (y : Option Flow) → slice_get now' i ≡ Some x → (slice_get os i ≡ Some y) ⊎ ((i ≡ length os) × (o ≡ y)) → IsLent x y
    of i x y a (inl b) =
        let w = slice_get_within os i y b in
        let c = h.count in
        h.lent i x y (sym (slice_set_other now i k m' (λ e. absurd (omega (arith, e)))) ∙ (ap (λ (l : List Member). slice_get l i) (sym set') ∙ a)) b
    of i x y a (inr b) =
        let w = slice_get_within now k m at in
        let e : m' ≡ x = some_one (set now k m') k m' x (slice_set_same now k m' w) (ap (λ (j : ℕ). slice_get (set now k m') j) (sym (b.0 ∙ h.count)) ∙ (ap (λ (l : List Member). slice_get l i) (sym set') ∙ a)) in
        subst (λ (z : Member × Option Flow). IsLent z.0 z.1) (λ j. (e j, b.1 j)) lent

-- ---- putting back

pub record HasPutBack (old now : List Member) (os left : List (Option Flow)) : Type 0 where
  pub all : length now ≡ length old
  pub few : length left ≤ length old
  pub whole : members_with now left ≡ members_with old os

pub put_begins : (ms : List Member) (os : List (Option Flow)) → length os ≡ length ms → HasPutBack ms ms os os
put_begins ms os same = record { all = refl; few = omega arith; whole = refl }

module _ (old now : List Member) (os left left' : List (Option Flow)) (o : Option Flow) (h : HasPutBack old now os left) (last : left ≡ left' ++ o ∷ []) where
  pub put_in : length left' < length now
  put_in = let f = h.few in let a = h.all in let e = ap length last in omega (arith, length-append left' (o ∷ []))

  pub put_steps : (now' : List Member) (m : Member) → slice_get now (length left') ≡ Some m → now' ≡ set now (length left') (member_with m o) → HasPutBack old now' os left'
  put_steps now' m at set' = record {
    all = ap length set' ∙ (length-set now (length left') (member_with m o) ∙ h.all);
    few = let f = h.few in let e = ap length last in omega (arith, length-append left' (o ∷ []));
    whole = ap (λ (l : List Member). members_with l left') set' ∙ (with_pop now left' m o at ∙ (ap (λ (l : List (Option Flow)). members_with now l) (sym last) ∙ h.whole));
  }

pub put_all : (old now : List Member) (os left : List (Option Flow)) → length left ≡ 0 → HasPutBack old now os left → now ≡ members_with old os
put_all old now os left none h = of left none h.whole
  where
    of : (l : List (Option Flow)) → length l ≡ 0 → members_with now l ≡ members_with old os → now ≡ members_with old os
    of [] none same = sym (with_none now) ∙ same
    of (x ∷ l) none same = absurd (omega arith)

-- ---- a module

-- its bytes have ended: where it is open it is judged later
pub member_ends : (keeps : Bool) (came : List ℕ) (m : Member) → IsMember keeps came m → IsEnded keeps came m
member_ends keeps came (member.Open p) i = i
member_ends keeps came (member.Image built) i = absurd i
member_ends keeps came (member.Valid c) i = absurd i
member_ends keeps came (member.Refused r) i = refused_whole came r i

-- bytes of one that isn't open are passed over
pub closed_passes : (keeps : Bool) (came more : List ℕ) (m : Member) → ((p : Part) → m ≡ member.Open p → ⊥) → IsMember keeps came m → IsMember keeps (came ++ more) m
closed_passes keeps came more (member.Open p) closed i = absurd (closed p refl)
closed_passes keeps came more (member.Image built) closed i = i
closed_passes keeps came more (member.Valid c) closed i = i
closed_passes keeps came more (member.Refused r) closed i = refused_more came more r i

rows_with : (cells : Store) (rows : List (Option Row)) (m : Member) (o : Option Flow) → AreRowsOf cells rows m → AreRowsOf cells rows (member_with m o)
rows_with cells rows m None are = are
rows_with cells rows (member.Open p) (Some f) are = are
rows_with cells rows (member.Image built) (Some f) are = are
rows_with cells rows (member.Valid c) (Some f) are = are
rows_with cells rows (member.Refused r) (Some f) are = are

-- what was made of modules that were lent
pub made_with : (ms : List Member) (os : List (Option Flow)) (made : List Made) → length os ≡ length ms → AreMade ms made → AreMade (members_with ms os) made
made_with ms os made same are = (
  are.0 ∙ sym (length-with ms os),
  λ k m x at in'.
      let w = slice_get_within made k x in' in
      let c = are.0 in
      let a = element_at ms k (omega arith) in
      let b = element_at os k (omega arith) in
      let e : m ≡ member_with a.0 b.0 = some_one (members_with ms os) k m (member_with a.0 b.0) at (with_at ms os k a.0 b.0 a.1 b.1) in
      subst (AreRowsOf x.cells x.rows.items) (sym e) (rows_with x.cells x.rows.items a.0 b.0 (are.1 k a.0 x a.1 in')),
)

-- it holds whatever came
pub ok_anyway : {X Y : Type 0} (r : Result X Y) (P : Type 0) → P → OnOk r P
ok_anyway (Ok x) P p = p
ok_anyway (Err e) P p = tt
