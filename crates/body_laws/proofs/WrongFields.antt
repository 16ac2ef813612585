-- What stops a reader: a field that isn't encoded.
use Rattle.std.proofs.Common.{◌≡◌, ◌≤◌, inl, inr, ℕ, ◌+◌, ℤ, Bool, true, false, cond, nat_le, List, ◌++◌, length, refl, sym, ap, subst, ◌∙◌, arith, length-append}
use Rattle.wasm_defs.specs.declared.fault.Kind.TheVariants.{Malformed}
use Rattle.wasm_defs.specs.declared.fault.Refusal.{Refusal}
use Rattle.wasm_defs.specs.Numbers.{Reading, Number, CutOff, Bad, number_at}
use Rattle.wasm_defs.specs.Fields.{Cursor, Read, Got, Fault, Wants, Reader, then_go, done, refused, room_of, window, from_reading, nat_of, number, u32}
use Rattle.wasm_defs.specs.Items.{Spelling, u32_is, listed_index_is}
use Rattle.wasm_laws.proofs.Steady.{IfGot}
use Rattle.wasm_laws.proofs.Spelt.{cursor, Ready, Found, Reads}
use Rattle.wasm_laws.proofs.SpeltFields.{Always, u32_spelt}
use Rattle.body_laws.specs.WrongFields.{BeginsNone, IsWrong}

-- ---- what a reader stops at: its error, or the body's last byte where more bytes are owed

abbrev pub IfStops : {A : Type 0} → (Refusal → Type 0) → ℕ → Read A → Type 0
IfStops P last (Got x c) = Unit {0}
IfStops P last (Fault r) = P r
IfStops P last Wants = P (record { offset = last; kind = Malformed })

pub stops_then : {A B : Type 0} (P : Refusal → Type 0) (last : ℕ) (x : Read A) (f : A → Reader B) → IfStops P last x → ((a : A) (d : Cursor) → x ≡ Got a d → IfStops P last (f a d)) → IfStops P last (then_go x f)
stops_then P last (Got a d) f h g = g a d refl
stops_then P last (Fault r) f h g = h
stops_then P last Wants f h g = h

pub stops_as : {A : Type 0} (P Q : Refusal → Type 0) (last : ℕ) (x : Read A) → ((r : Refusal) → P r → Q r) → IfStops P last x → IfStops Q last x
stops_as P Q last (Got a d) f h = tt
stops_as P Q last (Fault r) f h = f r h
stops_as P Q last Wants f h = f (record { offset = last; kind = Malformed }) h

-- what is got has what holds of what may be got
pub got_as : {A : Type 0} (P : A → Cursor → Type 0) (x : Read A) (a : A) (d : Cursor) → x ≡ Got a d → IfGot P x → P a d
got_as P x a d e h = subst (IfGot P) e h

-- ---- a field

-- the bytes fit before the section's end
abbrev pub Fits : Cursor → Type 0
Fits c = c.at + length c.rest ≤ c.end

pub fits_behind : {s : Spelling} {K : Type 0} (c d : Cursor) → Found s K c d → Fits c → Fits d
fits_behind c d found fits = omega (arith, fits, found.at, found.end, ap length found.parts, length-append found.taken d.rest)

-- what is encoded at the beginning is read
pub got_of : {A : Type 0} (p : Reader A) (x : A) (s : Spelling) (c : Cursor) → Fits c → Reads p x s → (front back : List ℕ) → c.rest ≡ front ++ back → s c.at front → p c ≡ Got x (cursor (c.at + length front) back c.end)
got_of p x s c fits reads front back e k = ap (λ (l : List ℕ). p (cursor c.at l c.end)) e ∙ reads.by c.at c.end front back (omega (arith, fits, ap length e, length-append front back)) k

-- a reader of such a field stops at its first byte
module _ {A B : Type 0} (is : B → Spelling) (p : Reader A) (last : ℕ) (c : Cursor) (reads : (v : B) (front back : List ℕ) → c.rest ≡ front ++ back → is v c.at front → (y : A) × (e : Cursor) × (p c ≡ Got y e)) (place : (r : Refusal) → p c ≡ Fault r → r.offset ≡ c.at) where
  none_begins : (x : Read A) → ((y : A) (d : Cursor) → x ≡ Got y d → ⊥) → p c ≡ x → BeginsNone is c.at c.rest
  none_begins x never e v front back parts s = let got = reads v front back parts s in never got.0 got.1 (sym e ∙ got.2)

  stops_so : (x : Read A) → p c ≡ x → IfStops (IsWrong is c.at c.rest last) last x
  stops_so (Got y d) e = tt
  stops_so (Fault r) e = (none_begins (Fault r) (λ y d k. absurd cc) e, inl (place r e))
  stops_so Wants e = (none_begins Wants (λ y d k. absurd cc) e, inr refl)

  pub read_wrong : IfStops (IsWrong is c.at c.rest last) last (p c)
  read_wrong = stops_so (p c) refl

-- ---- where a field's own error is

-- a reader's error
abbrev pub told : (A : Type 0) → Refusal → Read A
told A r = Fault r

pub fault_at : {A : Type 0} (at : ℕ) (s r : Refusal) → s.offset ≡ at → told A s ≡ Fault r → r.offset ≡ at
fault_at at s r o e = let same : s ≡ r = cc in ap (λ (x : Refusal). x.offset) (sym same) ∙ o

pub cut_place : {A B : Type 0} (enough : Bool) (c : Cursor) (f : A → Reader B) (r : Refusal) → then_go (cond enough (refused {A = A} Malformed c.at c) Wants) f ≡ Fault r → r.offset ≡ c.at
cut_place true c f r e = fault_at c.at (record { offset = c.at; kind = Malformed }) r refl e
cut_place false c f r e = absurd cc

pub cut_at : {A : Type 0} (enough : Bool) (c : Cursor) (r : Refusal) → cond enough (refused {A = A} Malformed c.at c) Wants ≡ Fault r → r.offset ≡ c.at
cut_at true c r e = fault_at c.at (record { offset = c.at; kind = Malformed }) r refl e
cut_at false c r e = absurd cc

pub number_place : (signed : Bool) (bits : ℕ) (c : Cursor) (r : Refusal) → number signed bits c ≡ Fault r → r.offset ≡ c.at
unfolding number
number_place signed bits c r e = of (number_at signed bits (window c)) e
  where
    of : (x : Reading) → from_reading c x ≡ Fault r → r.offset ≡ c.at
    of (Number n len) e = absurd cc
    of CutOff e = cut_at (nat_le (room_of c) (length c.rest)) c r e
    of Bad e = fault_at c.at (record { offset = c.at; kind = Malformed }) r refl e

abbrev as_index : ℕ × ℤ → Reader (ℕ × ℕ)
as_index n = done (n.0, nat_of n.1)

index_place : (c : Cursor) (x : Read (ℕ × ℤ)) (r : Refusal) → ((s : Refusal) → x ≡ Fault s → s.offset ≡ c.at) → then_go x as_index ≡ Fault r → r.offset ≡ c.at
index_place c (Got n d) r h e = absurd cc
index_place c (Fault s) r h e = fault_at c.at s r (h s refl) e
index_place c Wants r h e = absurd cc

pub u32_place : (c : Cursor) (r : Refusal) → u32 c ≡ Fault r → r.offset ≡ c.at
unfolding u32
u32_place c r e = index_place c (number false 32 c) r (number_place false 32 c) e

pub index_stops : (last : ℕ) (c : Cursor) → Fits c → IfStops (IsWrong listed_index_is c.at c.rest last) last (u32 c)
index_stops last c fits = read_wrong listed_index_is u32 last c (λ i front back e s. ((c.at, i), cursor (c.at + length front) back c.end, got_of u32 (c.at, i) (u32_is (c.at, i)) c fits (u32_spelt.complete (c.at, i) tt) front back e (refl, s))) (u32_place c)

pub index_found : (c : Cursor) (n : ℕ × ℕ) (d : Cursor) → Ready c → u32 c ≡ Got n d → Found (u32_is n) (Always n) c d
index_found c n d ready e = got_as (λ (n : ℕ × ℕ) (d : Cursor). Found (u32_is n) (Always n) c d) (u32 c) n d e (u32_spelt.sound c ready)
