-- Bytes and numbers are steady fields.
use Rattle.std.proofs.Common.{◌≡◌, ℕ, zero, suc, ◌+◌, ◌-◌, ◌≤◌, ◌<◌, Bool, true, false, ltb, List, [], ◌∷◌, ◌++◌, length, take, refl, sym, ap, ◌∙◌, arith, length-append, length-take, inl, inr}
use Rattle.std.proofs.Common.{ℤ, ◌^◌}
use Rattle.std.proofs.lemmas.List.{take-append-drop, take-append-le, drop-append-le}
use Rattle.std.proofs.lemmas.Bool.{cases_lt, cases_Bool, le-leb, lt-leb}
use Rattle.wasm_defs.specs.Numbers.{Reading, Number, CutOff, Bad, number_at, last_byte, after_byte}
use Rattle.wasm_defs.specs.declared.fault.Kind.{Kind}
use Rattle.wasm_defs.specs.Fields.{Cursor, Read, Got, past, room_of, window, cut, first_of, byte, from_reading, number}
use Rattle.wasm_laws.proofs.Steady.{with_more, Extends, got, faulty, owed, Advance, Advances, Stands, StandsIn, IsThere, IsDecided, IfGot, IsMarked, Field}

-- ---- windows

pub same_window : (c : Cursor) (more : List ℕ) → IsThere c → window (with_more c more) ≡ window c
same_window c more h = take-append-le (c.end - c.at) c.rest more h

pub all_of : (n : ℕ) (xs : List ℕ) → length xs ≤ n → take n xs ≡ xs
all_of zero [] h = refl
all_of (suc n) [] h = refl
all_of zero (x ∷ xs) h = absurd (omega arith)
all_of (suc n) (x ∷ xs) h = ap (λ (l : List ℕ). x ∷ l) (all_of n xs (omega arith))

pub take_over : (n : ℕ) (xs ys : List ℕ) → length xs ≤ n → take n (xs ++ ys) ≡ xs ++ take (n - length xs) ys
take_over n [] ys h = let e : n - 0 ≡ n = omega arith in rw e refl
take_over zero (x ∷ xs) ys h = absurd (omega arith)
take_over (suc n) (x ∷ xs) ys h =
    let e : suc n - length (x ∷ xs) ≡ n - length xs = omega arith in
    rw e (ap (λ (l : List ℕ). x ∷ l) (take_over n xs ys (omega arith)))

-- what more bytes add to the window
abbrev pub added : Cursor → List ℕ → List ℕ
added c more = take (room_of c - length c.rest) more

pub wider_window : (c : Cursor) (more : List ℕ) → length c.rest < room_of c → window (with_more c more) ≡ window c ++ added c more
wider_window c more h = take_over (c.end - c.at) c.rest more (omega arith) ∙ ap (λ (l : List ℕ). l ++ added c more) (sym (all_of (c.end - c.at) c.rest (omega arith)))

-- the window has no more bytes than are there, and than the section has
pub window_short : (c : Cursor) → (length (window c) ≤ length c.rest) × (length (window c) ≤ room_of c)
window_short c = (omega (arith, length-take (c.end - c.at) c.rest), omega (arith, length-take (c.end - c.at) c.rest))

pub window_whole : (c : Cursor) → IsThere c → length (window c) ≡ room_of c
window_whole c h = omega (arith, length-take (c.end - c.at) c.rest)

pub past_more : (c : Cursor) (more : List ℕ) (len : ℕ) → len ≤ length (window c) → past (with_more c more) len ≡ with_more (past c len) more
past_more c more len h =
    let short = window_short c in
    ap (λ (l : List ℕ). record { at = c.at + len; rest = l; end = c.end }) (drop-append-le len c.rest more (omega arith))

pub past_advance : (c : Cursor) (len : ℕ) → len ≤ length (window c) → Advance c (past c len)
past_advance c len h =
    let short = window_short c in
    record {
      taken = take len c.rest;
      parts = sym (take-append-drop len c.rest);
      at = omega (arith, length-take len c.rest);
      end = refl;
      fits = omega (arith, length-take len c.rest);
    }

-- what is got of the first bytes
pub got_past : {A : Type 0} (x : A) (c : Cursor) (more : List ℕ) (len : ℕ) → len ≤ length (window c) → Extends A more (Got x (past c len)) (Got x (past (with_more c more) len))
got_past x c more len h = rw (past_more c more len h) (got x (past c len))

-- ---- where a field is cut off

-- where more is owed, more bytes may come to anything; where the section is there, to the same
pub cut_extends : {A : Type 0} (c : Cursor) (more : List ℕ) (later : Read A) → (IsThere c → later ≡ cut (with_more c more)) → Extends A more (cut c) later
cut_extends c more later same =
    elim (cases_lt (length c.rest) (room_of c)) [
      | inl lt ↦ rw (lt-leb (room_of c) (length c.rest) lt) (owed later)
      | inr ge ↦ rw (le-leb (room_of c) (length c.rest) ge, same ge, le-leb (room_of c) (length (c.rest ++ more)) (omega (arith, length-append c.rest more))) (faulty _)
    ]

pub cut_advances : (A : Type 0) (c : Cursor) → Advances {A = A} c (cut c)
cut_advances A c =
    elim (cases_lt (length c.rest) (room_of c)) [
      | inl lt ↦ rw (lt-leb (room_of c) (length c.rest) lt) tt
      | inr ge ↦ rw (le-leb (room_of c) (length c.rest) ge) tt
    ]

-- an error at the cursor, where a byte is there if the section's end isn't near
pub stands_here : (low : ℕ) (c : Cursor) (kind : Kind) → low ≤ c.at → (length c.rest < room_of c → 0 < length c.rest) → Stands low c (record { offset = c.at; kind = kind })
stands_here low c kind le some = record { from = le; within = omega arith; at_a_byte = λ h. omega (arith, some h) }

pub cut_stands : (A : Type 0) (low : ℕ) (c : Cursor) → low ≤ c.at → StandsIn {A = A} low c (cut c)
cut_stands A low c le =
    elim (cases_lt (length c.rest) (room_of c)) [
      | inl lt ↦ rw (lt-leb (room_of c) (length c.rest) lt) tt
      | inr ge ↦ rw (le-leb (room_of c) (length c.rest) ge) (stands_here low c _ le (λ h. absurd (omega arith)))
    ]

pub cut_decides : (A : Type 0) (c : Cursor) → IsThere c → IsDecided {A = A} (cut c)
cut_decides A c there = rw (le-leb (room_of c) (length c.rest) there) tt

pub cut_got : (A : Type 0) (P : A → Cursor → Type 0) (c : Cursor) → IfGot P (cut c)
cut_got A P c =
    elim (cases_lt (length c.rest) (room_of c)) [
      | inl lt ↦ rw (lt-leb (room_of c) (length c.rest) lt) tt
      | inr ge ↦ rw (le-leb (room_of c) (length c.rest) ge) tt
    ]

-- ---- bytes

first_extends : (c : Cursor) (more w : List ℕ) → window c ≡ w → Extends (ℕ × ℕ) more (first_of c w) (first_of (with_more c more) (window (with_more c more)))
first_extends c more [] e = cut_extends c more _ (λ there. rw (same_window c more there, e) refl)
first_extends c more (b ∷ w) e =
    let len : 1 ≤ length (window c) = omega (arith, ap length e) in
    elim (cases_lt (length c.rest) (room_of c)) [
      | inl lt ↦ rw (wider_window c more lt, e) (got_past (c.at, b) c more 1 len)
      | inr ge ↦ rw (same_window c more ge, e) (got_past (c.at, b) c more 1 len)
    ]

first_advances : (c : Cursor) (w : List ℕ) → window c ≡ w → Advances c (first_of c w)
first_advances c [] e = cut_advances _ c
first_advances c (b ∷ w) e = past_advance c 1 (omega (arith, ap length e))

first_stands : (low : ℕ) (c : Cursor) (w : List ℕ) → low ≤ c.at → StandsIn low c (first_of c w)
first_stands low c [] le = cut_stands _ low c le
first_stands low c (b ∷ w) le = tt

first_decides : (c : Cursor) (w : List ℕ) → IsThere c → IsDecided (first_of c w)
first_decides c [] there = cut_decides _ c there
first_decides c (b ∷ w) there = tt

first_marked : (c : Cursor) (w : List ℕ) → IfGot (IsMarked c) (first_of c w)
first_marked c [] = cut_got _ _ c
first_marked c (b ∷ w) = (omega arith, omega arith)

pub byte_field : Field byte
unfolding byte
byte_field = record {
  steady = λ marks. record {
    by = λ c more. first_extends c more (window c) refl;
    moves = λ c. first_advances c (window c) refl;
    place = λ low c le behind. first_stands low c (window c) le;
    decides = λ c there. first_decides c (window c) there;
  };
  marked = λ c. first_marked c (window c);
}

-- ---- numbers

-- more bytes change no number and no error
abbrev pub ReadsOn : Reading → Reading → Type 0
ReadsOn (Number n len) r = r ≡ Number n len
ReadsOn CutOff r = Unit {0}
ReadsOn Bad r = r ≡ Bad

reads_itself : (r : Reading) → ReadsOn r r
reads_itself (Number n len) = refl
reads_itself CutOff = tt
reads_itself Bad = refl

after_reads_on : (b : ℕ) (r s : Reading) → ReadsOn r s → ReadsOn (after_byte b r) (after_byte b s)
after_reads_on b (Number n len) s e = ap (after_byte b) e
after_reads_on b CutOff s e = tt
after_reads_on b Bad s e = ap (after_byte b) e

pub number_reads_on : (signed : Bool) (bits : ℕ) (bytes more : List ℕ) → ReadsOn (number_at signed bits bytes) (number_at signed bits (bytes ++ more))
unfolding number_at
number_reads_on signed bits [] more = tt
number_reads_on signed bits (b ∷ bytes) more =
    elim (cases_Bool (ltb b 128)) [
      | inl low ↦ rw low (reads_itself (last_byte signed bits b))
      | inr high ↦ rw high (elim (cases_Bool (ltb 7 bits)) [
        | inl wide ↦ rw wide (after_reads_on b (number_at signed (bits - 7) bytes) (number_at signed (bits - 7) (bytes ++ more)) (number_reads_on signed (bits - 7) bytes more))
        | inr narrow ↦ rw narrow refl
      ])
    ]

-- a number is in its bytes, and has one at least; no number comes of none
abbrev pub LiesIn : ℕ → Reading → Type 0
LiesIn most (Number n len) = (1 ≤ len) × (len ≤ most)
LiesIn most CutOff = Unit {0}
LiesIn most Bad = 1 ≤ most

last_lies : (signed : Bool) (bits b most : ℕ) → LiesIn (suc most) (last_byte signed bits b)
last_lies false bits b most =
    elim (cases_Bool (ltb b (2 ^ bits))) [
      | inl h ↦ rw h (omega arith, omega arith)
      | inr h ↦ rw h (omega arith)
    ]
last_lies true bits b most =
    elim (cases_Bool (ltb b 64)) [
      | inl low ↦ rw low (elim (cases_Bool (ltb b (2 ^ (bits - 1)))) [
        | inl h ↦ rw h (omega arith, omega arith)
        | inr h ↦ rw h (omega arith)
      ])
      | inr high ↦ rw high (elim (cases_Bool (ltb (b + 2 ^ (bits - 1)) 128)) [
        | inl h ↦ rw h (omega arith)
        | inr h ↦ rw h (omega arith, omega arith)
      ])
    ]

after_lies : (b most : ℕ) (r : Reading) → LiesIn most r → LiesIn (suc most) (after_byte b r)
after_lies b most (Number n len) h = (omega (arith, h.0), omega (arith, h.1))
after_lies b most CutOff h = tt
after_lies b most Bad h = omega arith

pub number_lies : (signed : Bool) (bits : ℕ) (bytes : List ℕ) → LiesIn (length bytes) (number_at signed bits bytes)
unfolding number_at
number_lies signed bits [] = tt
number_lies signed bits (b ∷ bytes) =
    elim (cases_Bool (ltb b 128)) [
      | inl low ↦ rw low (last_lies signed bits b (length bytes))
      | inr high ↦ rw high (elim (cases_Bool (ltb 7 bits)) [
        | inl wide ↦ rw wide (after_lies b (length bytes) (number_at signed (bits - 7) bytes) (number_lies signed (bits - 7) bytes))
        | inr narrow ↦ rw narrow (omega arith)
      ])
    ]

reading_extends : (c : Cursor) (more : List ℕ) (r s : Reading) → LiesIn (length (window c)) r → ReadsOn r s → (IsThere c → s ≡ r) → Extends (ℕ × ℤ) more (from_reading c r) (from_reading (with_more c more) s)
reading_extends c more (Number n len) s h e same = rw e (got_past (c.at, n) c more len h.1)
reading_extends c more CutOff s h e same = cut_extends c more _ (λ there. ap (from_reading (with_more c more)) (same there))
reading_extends c more Bad s h e same = rw e (faulty _)

reading_advances : (c : Cursor) (r : Reading) → LiesIn (length (window c)) r → Advances c (from_reading c r)
reading_advances c (Number n len) h = past_advance c len h.1
reading_advances c CutOff h = cut_advances _ c
reading_advances c Bad h = tt

reading_stands : (low : ℕ) (c : Cursor) (r : Reading) → low ≤ c.at → LiesIn (length (window c)) r → StandsIn low c (from_reading c r)
reading_stands low c (Number n len) le h = tt
reading_stands low c CutOff le h = cut_stands _ low c le
reading_stands low c Bad le h = let short = window_short c in stands_here low c _ le (λ lt. omega arith)

reading_decides : (c : Cursor) (r : Reading) → IsThere c → IsDecided (from_reading c r)
reading_decides c (Number n len) there = tt
reading_decides c CutOff there = cut_decides _ c there
reading_decides c Bad there = tt

reading_marked : (c : Cursor) (r : Reading) → LiesIn (length (window c)) r → IfGot (IsMarked c) (from_reading c r)
reading_marked c (Number n len) h = (omega arith, omega (arith, h.0))
reading_marked c CutOff h = cut_got _ _ c
reading_marked c Bad h = tt

-- what is read in a window is read in a wider one
pub window_reads_on : (signed : Bool) (bits : ℕ) (c : Cursor) (more : List ℕ) → ReadsOn (number_at signed bits (window c)) (number_at signed bits (window (with_more c more)))
window_reads_on signed bits c more =
    elim (cases_lt (length c.rest) (room_of c)) [
      | inl lt ↦ rw (wider_window c more lt) (number_reads_on signed bits (window c) (added c more))
      | inr ge ↦ rw (same_window c more ge) (reads_itself (number_at signed bits (window c)))
    ]

pub number_field : (signed : Bool) (bits : ℕ) → Field (number signed bits)
unfolding number
number_field signed bits = record {
  steady = λ marks. record {
    by = λ c more. reading_extends c more (number_at signed bits (window c)) (number_at signed bits (window (with_more c more))) (number_lies signed bits (window c)) (window_reads_on signed bits c more) (λ there. ap (number_at signed bits) (same_window c more there));
    moves = λ c. reading_advances c (number_at signed bits (window c)) (number_lies signed bits (window c));
    place = λ low c le behind. reading_stands low c (number_at signed bits (window c)) le (number_lies signed bits (window c));
    decides = λ c there. reading_decides c (number_at signed bits (window c)) there;
  };
  marked = λ c. reading_marked c (number_at signed bits (window c)) (number_lies signed bits (window c));
}
