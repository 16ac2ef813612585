-- Several modules, and what each comes to.
use Rattle.std.proofs.Common.{◌≡◌, ◌≢◌, ◌⊎◌, inl, inr, ◌≤◌, ◌<◌, ◌+◌, ◌-◌, ℕ, zero, suc, Bool, true, false, eqb, cond, List, [], ◌∷◌, ◌++◌, length, take, drop, get_or, All, Some, None, Result, Ok, Err, slice_get, refl, sym, ap, ◌∙◌, subst, arith, append_assoc, length-append, eq-eqb}
use mathlib.Core.Logic.{dite}
use native.Mathlib.Decide.{ℕ_discrete}
use Rattle.std.proofs.Math.ListN.{set, length-set}
use Rattle.std.proofs.lemmas.Bool.Decides.{eqb_tells}
use Rattle.std.proofs.lemmas.Option.{slice_get_within, slice_get_read}
use Rattle.std.proofs.lemmas.List.{append-nil, take-append-drop, take_all, length-drop, get_or-set_same, get_or-set_other}
use Rattle.std.proofs.lemmas.List.Elements.{All-head, All-tail}
use Rattle.std.specs.declared.vec.Vec.{Vec}
use Rattle.std.specs.declared.alloc.Global.{Global}
use Rattle.batch_pool.proofs.Elements.{element_at, slice_set_same, slice_set_other, slice_next, slice_push}
use Rattle.many_streams.specs.declared.member.Member.{Member}
use Rattle.many_streams.specs.declared.reader.Taken.{Taken}
use Rattle.many_streams.specs.declared.reader.Taken.TheVariants as taken
use Rattle.many_streams.specs.declared.streams.Streams.{Streams}
use Rattle.many_streams.specs.declared.streams.ManyStop.{ManyStop}
use Rattle.many_streams.specs.declared.streams.ManyStop.TheVariants as stop
use Rattle.many_streams.specs.Frames.{IsBadFrame}
use Rattle.many_streams.specs.Reading.{Progress, IsReading, Takes, Ends, SetsFlags, AreAllSet, with_more}
use Rattle.many_streams.specs.Members.{IsMember, IsEnded}
use Rattle.many_streams.specs.Many.{StandsSo, AreMembers, AreEach, AreStreaming, IsStreaming, TakesSomeSo, TakesSome, TakesAllSo, ComesToEnd, IsFront}

-- ---- what each comes to

-- the elements from some on
pub record AreFrom {X : Type 0} (all rest : List X) (count : ℕ) : Type 0 where
  pub done : List X
  pub are : all ≡ done ++ rest
  pub length_is : length done ≡ count

pub from_none : {X : Type 0} (all rest : List X) (count : ℕ) → rest ≡ all → count ≡ 0 → AreFrom all rest count
from_none all rest count same none = record { done = []; are = sym same; length_is = sym none }

pub from_all : {X : Type 0} (all rest : List X) (count : ℕ) → length rest ≡ 0 → AreFrom all rest count → length all ≡ count
from_all all rest count none a = let e = ap length a.are in let n = a.length_is in omega (arith, length-append a.done rest)

module _ {X : Type 0} (all rest rest' : List X) (count : ℕ) (x : X) (next : rest ≡ x ∷ rest') (a : AreFrom all rest count) where
  pub from_one : AreFrom all rest' (count + 1)
  from_one = record {
    done = a.done ++ x ∷ [];
    are = a.are ∙ (ap (λ (l : List X). a.done ++ l) next ∙ sym (append_assoc a.done (x ∷ []) rest'));
    length_is = let n = a.length_is in omega (arith, length-append a.done (x ∷ []));
  }

  pub from_at : slice_get all count ≡ Some x
  from_at =
      ap (λ (l : List X). slice_get l count) (a.are ∙ ap (λ (l : List X). a.done ++ l) next)
      ∙ (ap (λ (n : ℕ). slice_get (a.done ++ x ∷ rest') n) (sym a.length_is) ∙ slice_next a.done rest' x)

module _ (P : List ℕ → Member → Type 0) (all rest rest' : List Member) (count : ℕ) (m : Member) (next : rest ≡ m ∷ rest') (a : AreFrom all rest count) where
  pub next_so : (list : List (List ℕ)) → AreEach P list all → (bytes : List ℕ) → slice_get list count ≡ Some bytes → P bytes m
  next_so list are bytes at = are.1 count bytes m at (from_at all rest rest' count m next a)

  pub next_is : (list : List (List ℕ)) → AreEach P list all → (bytes : List ℕ) × P bytes m
  next_is list are =
      let n = are.0 in
      let w = slice_get_within all count m (from_at all rest rest' count m next a) in
      let x = element_at list count (omega arith) in
      (x.0, next_so list are x.0 x.1)

module _ {E : Type 0} (Comes : List ℕ → E → Type 0) where
  -- so many of a list come to these
  abbrev pub AreSome : List (List ℕ) → List E → Type 0
  AreSome list each = (i : ℕ) (bytes : List ℕ) (e : E) → slice_get list i ≡ Some bytes → slice_get each i ≡ Some e → Comes bytes e

  pub some_none : (list : List (List ℕ)) (each : List E) → each ≡ [] → AreSome list each
  some_none list each none i bytes e at in' = absurd (let n : slice_get each i ≡ None = ap (λ (l : List E). slice_get l i) none in cc)

  pub some_push : (list : List (List ℕ)) (each each' : List E) (e : E) (k : ℕ) → length each ≡ k → each' ≡ each ++ e ∷ [] → AreSome list each → ((bytes : List ℕ) → slice_get list k ≡ Some bytes → Comes bytes e) → AreSome list each'
  some_push list each each' e k count now are is i bytes f at in' = got (slice_push each e f i (ap (λ (l : List E). slice_get l i) (sym now) ∙ in'))
    where
      got : (slice_get each i ≡ Some f) ⊎ ((i ≡ length each) × (e ≡ f)) → Comes bytes f
      got (inl h) = are i bytes f at h
      got (inr h) = subst (λ (x : E). Comes bytes x) h.1 (is bytes (ap (λ (j : ℕ). slice_get list j) (sym (h.0 ∙ count)) ∙ at))

-- ---- the bytes of one module more

not_eqb : (a b : ℕ) → a ≢ b → eqb a b ≡ false
not_eqb a b other = of (eqb_tells a b)
  where
    of : ((eqb a b ≡ true) × (a ≡ b)) ⊎ ((eqb a b ≡ false) × (a ≢ b)) → eqb a b ≡ false
    of (inl t) = absurd (other t.1)
    of (inr t) = t.0

set_at : {X : Type 0} (xs xs' : List X) (i k : ℕ) (x y : X) → k < length xs → xs' ≡ set xs k y → i ≡ k → slice_get xs' i ≡ Some x → y ≡ x
set_at {X = X} xs xs' i k x y in' now same at =
    let a = slice_set_same xs k y in' in
    let b : slice_get (set xs k y) k ≡ Some x = subst (λ (j : ℕ). slice_get (set xs k y) j ≡ Some x) same (ap (λ (l : List X). slice_get l i) (sym now) ∙ at) in cc

set_apart : {X : Type 0} (xs xs' : List X) (i k : ℕ) (x y : X) → xs' ≡ set xs k y → i ≢ k → slice_get xs' i ≡ Some x → slice_get xs i ≡ Some x
set_apart {X = X} xs xs' i k x y now other at = sym (slice_set_other xs i k y other) ∙ (ap (λ (l : List X). slice_get l i) (sym now) ∙ at)

open_here : (keeps : Bool) (flags : List Bool) (of : ℕ → List ℕ) (members : List Member) (k : ℕ) (m : Member) → k < length members → get_or flags k false ≡ false → m ≡ get_or members k m → AreMembers keeps flags of members → IsMember keeps (of k) m
open_here keeps flags of members k m in' going is are = subst (λ (b : Bool). StandsSo b keeps (of k) m) going (are k m (slice_get_read members (length members) k m refl in' is))

module _ (keeps : Bool) (flags : List Bool) (of : ℕ → List ℕ) (members members' : List Member) (k : ℕ) (m m' : Member) (in' : k < length members) (going : get_or flags k false ≡ false)
    (is : m ≡ get_or members k m) (now : members' ≡ set members k m') (are : AreMembers keeps flags of members) where
  was_open : IsMember keeps (of k) m
  was_open = open_here keeps flags of members k m in' going is are

  -- bytes of one came
  pub members_fed : (more : List ℕ) → (IsMember keeps (of k) m → IsMember keeps (of k ++ more) m') → AreMembers keeps flags (with_more of k more) members'
  members_fed more feeds i x at = dite (ℕ_discrete i k)
      (λ same.
      let here : with_more of k more i ≡ of k ++ more = ap (λ (b : Bool). of i ++ cond b more []) (eq-eqb k i (sym same)) ∙ ap (λ (j : ℕ). of j ++ more) same in
      let flag : get_or flags i false ≡ false = ap (λ (j : ℕ). get_or flags j false) same ∙ going in
      subst (λ (b : Bool). StandsSo b keeps (with_more of k more i) x) (sym flag)
      (subst (λ (l : List ℕ). IsMember keeps l x) (sym here) (subst (λ (y : Member). IsMember keeps (of k ++ more) y) (set_at members members' i k x m' in' now same at) (feeds was_open))))
      (λ other.
      let here : with_more of k more i ≡ of i = ap (λ (b : Bool). of i ++ cond b more []) (not_eqb k i (λ e. other (sym e))) ∙ append-nil (of i) in
      subst (λ (l : List ℕ). StandsSo (get_or flags i false) keeps l x) (sym here) (are i x (set_apart members members' i k x m' now other at)))

  -- one ended
  pub members_ended : k < length flags → (IsMember keeps (of k) m → IsEnded keeps (of k) m') → AreMembers keeps (set flags k true) of members'
  members_ended within ends i x at = dite (ℕ_discrete i k)
      (λ same.
      let flag : get_or (set flags k true) i false ≡ true = ap (λ (j : ℕ). get_or (set flags k true) j false) same ∙ get_or-set_same flags k true false within in
      subst (λ (b : Bool). StandsSo b keeps (of i) x) (sym flag)
      (subst (λ (y : Member). IsEnded keeps (of i) y) (set_at members members' i k x m' in' now same at) (subst (λ (j : ℕ). IsEnded keeps (of j) m') (sym same) (ends was_open))))
      (λ other.
      subst (λ (b : Bool). StandsSo b keeps (of i) x) (sym (get_or-set_other flags k i true false other)) (are i x (set_apart members members' i k x m' now other at)))

slice_all : {X : Type 0} (P : X → Type 0) (xs : List X) (i : ℕ) (x : X) → All P xs → slice_get xs i ≡ Some x → P x
slice_all P [] i x all at = absurd cc
slice_all P (y ∷ xs) zero x all at = subst P (let e : y ≡ x = cc in e) (All-head P y xs all)
slice_all P (y ∷ xs) (suc i) x all at = slice_all P xs i x (All-tail P y xs all) at

pub members_new : (keeps : Bool) (flags : List Bool) (of : ℕ → List ℕ) (members : List Member) → length members ≤ 64 → ((i : ℕ) → i < 64 → get_or flags i false ≡ false) → All (IsMember keeps []) members → ((i : ℕ) → of i ≡ [])
    → AreMembers keeps flags of members
members_new keeps flags of members few clear all none i m at =
    let w = slice_get_within members i m at in
    subst (λ (b : Bool). StandsSo b keeps (of i) m) (sym (clear i (omega arith))) (subst (λ (l : List ℕ). IsMember keeps l m) (sym (none i)) (slice_all (IsMember keeps []) members i m all at))

-- ---- what taking comes to

pub streams_number : (bytes piece : List ℕ) (s s' : Streams) (f : Progress) → (i : IsStreaming bytes s) → s' ≡ record s { reader = f } → 0 < length piece → IsReading (bytes ++ take 1 piece) i.of f → f.modules ≡ s.reader.modules → f.ended ≡ s.reader.ended
    → TakesSome bytes piece (Ok 1) s'
streams_number bytes piece s s' f i now some reading same flags = (
  subst (IsStreaming (bytes ++ take 1 piece)) (sym now) (record {
    of = i.of;
    reading = reading;
    count = i.count ∙ sym same;
    members = subst (λ (l : List Bool). AreMembers s.keeps l i.of s.members.items) (sym flags) i.members;
  }),
  omega arith,
  omega arith,
)

pub streams_counted : (bytes piece : List ℕ) (s s' : Streams) (f : Progress) (members : Vec Member Global) → (i : IsStreaming bytes s) → s' ≡ record s { reader = f; members = members } → 0 < length piece → IsReading (bytes ++ take 1 piece) i.of f
    → ((k : ℕ) → i.of k ≡ []) → length members.items ≡ f.modules → f.modules ≤ 64 → SetsFlags (Ok taken.Count) s.reader.ended f.ended → All (IsMember s.keeps []) members.items → TakesSome bytes piece (Ok 1) s'
streams_counted bytes piece s s' f members i now some reading none count few clear all = (
  subst (IsStreaming (bytes ++ take 1 piece)) (sym now) (record { of = i.of; reading = reading; count = count; members = members_new s.keeps f.ended i.of members.items (omega arith) clear all none }),
  omega arith,
  omega arith,
)

pub none_in : (keeps : Bool) (flags : List Bool) (of : ℕ → List ℕ) (members : List Member) → members ≡ [] → AreMembers keeps flags of members
none_in keeps flags of members none i m at = absurd (let e : slice_get members i ≡ None = ap (λ (l : List Member). slice_get l i) none in cc)

-- what was taken, by what it was
pub taken_so : (bytes : List ℕ) (of : ℕ → List ℕ) (piece : List ℕ) (t u : Taken) (f f' : Progress) → t ≡ u → Takes bytes of piece (Ok t) f f' → Takes bytes of piece (Ok u) f f'
taken_so bytes of piece t u f f' same = subst (λ (x : Taken). Takes bytes of piece (Ok x) f f') same

-- which flags are set, by what was taken
pub flags_so : (t u : Taken) (old new : List Bool) → t ≡ u → SetsFlags (Ok t) old new → SetsFlags (Ok u) old new
flags_so t u old new same = subst (λ (x : Taken). SetsFlags (Ok x) old new) same

pub member_fits : (bytes : List ℕ) (s : Streams) (i : IsStreaming bytes s) (k : ℕ) (m : Member) → k < s.reader.modules → get_or s.reader.ended k false ≡ false → m ≡ get_or s.members.items k m → IsMember s.keeps (i.of k) m
member_fits bytes s i k m in' going is =
    let c = i.count in open_here s.keeps s.reader.ended i.of s.members.items k m (omega arith) going is i.members

pub streams_bytes : (bytes piece : List ℕ) (s : Streams) (f : Progress) (k n : ℕ) (m m' : Member) (members : List Member) → (i : IsStreaming bytes s) → members ≡ set s.members.items k m'
    → Takes bytes i.of piece (Ok (taken.Bytes k n)) s.reader f → SetsFlags (Ok (taken.Bytes k n)) s.reader.ended f.ended → m ≡ get_or s.members.items k m → ((keeps : Bool) (came : List ℕ) → IsMember keeps came m → IsMember keeps (came ++ take n piece) m')
    → TakesSomeSo (λ came. AreStreaming came s.keeps f members) bytes piece (Ok n)
streams_bytes bytes piece s f k n m m' members i items t sets is feeds =
    let c = i.count in
    let below = t.2 in (
      record {
        of = with_more i.of k (take n piece);
        reading = t.0;
        count = ap length items ∙ (length-set s.members.items k m' ∙ (i.count ∙ sym t.1));
        members = subst (λ (l : List Bool). AreMembers s.keeps l (with_more i.of k (take n piece)) members) (sym sets.1)
            (members_fed s.keeps s.reader.ended i.of s.members.items members k m m' (omega arith) sets.0 is items i.members (take n piece) (feeds s.keeps (i.of k)));
      },
      t.3,
      t.4,
    )

pub streams_ended : (bytes piece : List ℕ) (s : Streams) (f : Progress) (k : ℕ) (m m' : Member) (members : List Member) → (i : IsStreaming bytes s) → members ≡ set s.members.items k m'
    → 0 < length piece → Takes bytes i.of piece (Ok (taken.End k)) s.reader f → SetsFlags (Ok (taken.End k)) s.reader.ended f.ended → m ≡ get_or s.members.items k m → ((keeps : Bool) (came : List ℕ) → IsMember keeps came m → IsEnded keeps came m')
    → TakesSomeSo (λ came. AreStreaming came s.keeps f members) bytes piece (Ok 1)
streams_ended bytes piece s f k m m' members i items some t sets is ends =
    let c = i.count in
    let below = t.2 in (
      record {
        of = i.of;
        reading = t.0;
        count = ap length items ∙ (length-set s.members.items k m' ∙ (i.count ∙ sym t.1));
        members = subst (λ (l : List Bool). AreMembers s.keeps l i.of members) (sym sets.2)
            (members_ended s.keeps s.reader.ended i.of s.members.items members k m m' (omega arith) sets.0 is items i.members sets.1 (ends s.keeps (i.of k)));
      },
      omega arith,
      omega arith,
    )

-- ---- pieces

take-add : {X : Type 0} (a b : ℕ) (xs : List X) → take (a + b) xs ≡ take a xs ++ take b (drop a xs)
take-add zero b xs = ap (λ (n : ℕ). take n xs) (none b)
  where
    none : (b : ℕ) → 0 + b ≡ b
    none b = omega arith
take-add (suc a) b [] = take_none (suc a + b) ∙ sym (take_none b)
  where
    take_none : {X : Type 0} (n : ℕ) → take {A = X} n [] ≡ []
    take_none zero = refl
    take_none (suc n) = refl
take-add (suc a) b (x ∷ xs) = ap (λ (n : ℕ). take n (x ∷ xs)) (more a b) ∙ ap (λ l. x ∷ l) (take-add a b xs)
  where
    more : (a b : ℕ) → suc a + b ≡ suc (a + b)
    more a b = omega arith

pub taken_on : (Came : List ℕ → Type 0) (bytes piece : List ℕ) (from n : ℕ) → Came ((bytes ++ take from piece) ++ take n (drop from piece)) → Came (bytes ++ take (from + n) piece)
taken_on Came bytes piece from n = subst Came (append_assoc bytes (take from piece) (take n (drop from piece)) ∙ ap (λ (l : List ℕ). bytes ++ l) (sym (take-add from n piece)))

pub fault_on : (Came Come : List ℕ → Type 0) (bytes piece : List ℕ) (from : ℕ) (e : ManyStop) → TakesSomeSo Came (bytes ++ take from piece) (drop from piece) (Err e) → TakesAllSo Come bytes piece (Err e)
fault_on Came Come bytes piece from (stop.Frame at) t =
    subst (λ (l : List ℕ). IsBadFrame l at) (append_assoc bytes (take from piece) (drop from piece ++ []) ∙ ap (λ (l : List ℕ). bytes ++ l) (ap (λ (l : List ℕ). take from piece ++ l) (append-nil (drop from piece)) ∙ take-append-drop from piece)) (t [])
fault_on Came Come bytes piece from stop.ReadFault t = t
fault_on Came Come bytes piece from stop.NoMemory t = tt

-- what is left of a piece
pub some_rest : (Came : List ℕ → Type 0) (bytes piece : List ℕ) (from : ℕ) (r : Result ℕ ManyStop) → TakesSomeSo Came bytes (take (length piece - from) (drop from piece)) r → TakesSomeSo Came bytes (drop from piece) r
some_rest Came bytes piece from r = subst (λ (l : List ℕ). TakesSomeSo Came bytes l r) (take_all (length piece - from) (drop from piece) (omega (arith, length-drop from piece)))

-- ---- the end

tab : ℕ → (ℕ → List ℕ) → List (List ℕ)
tab zero of = []
tab (suc n) of = of 0 ∷ tab n (λ i. of (suc i))

length-tab : (n : ℕ) (of : ℕ → List ℕ) → length (tab n of) ≡ n
unfolding tab
length-tab zero of = refl
length-tab (suc n) of = ap suc (length-tab n (λ i. of (suc i)))

tab_at : (n : ℕ) (of : ℕ → List ℕ) (i : ℕ) → i < n → slice_get (tab n of) i ≡ Some (of i)
unfolding tab
tab_at zero of i in' = absurd (omega arith)
tab_at (suc n) of zero in' = refl
tab_at (suc n) of (suc i) in' = tab_at n (λ k. of (suc k)) i (omega arith)

pub judged_end : (bytes : List ℕ) (keeps : Bool) (p : Progress) (members : List Member) → (i : AreStreaming bytes keeps p members) → Ends bytes i.of (Ok tt) p → AreAllSet p.modules p.ended → ComesToEnd (IsEnded keeps) bytes (Ok members)
judged_end bytes keeps p members i ends set =
    let n = p.modules in
    let list = tab n i.of in (
      list,
      ends list (length-tab n i.of) (tab_at n i.of),
      (
        i.count ∙ sym (length-tab n i.of),
        λ k b m at is.
            let w = slice_get_within list k b at in
            let l = length-tab n i.of in
            let here : slice_get list k ≡ Some (i.of k) = tab_at n i.of k (omega arith) in
            let same : i.of k ≡ b = cc in
            subst (λ (x : List ℕ). IsEnded keeps x m) same (subst (λ (b : Bool). StandsSo b keeps (i.of k) m) (set k (omega arith)) (i.members k m is)),
      ),
    )

pub front_stands : (bytes : List ℕ) (keeps : Bool) (p : Progress) (members : List Member) (r : Result (Unit {0}) ℕ) → (i : AreStreaming bytes keeps p members) → Ends bytes i.of r p → IsFront bytes
front_stands bytes keeps p members (Ok u) i ends = let n = p.modules in inr (tab n i.of, ends (tab n i.of) (length-tab n i.of) (tab_at n i.of))
front_stands bytes keeps p members (Err at) i ends = inl ends.0
