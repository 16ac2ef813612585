-- A field that wants more bytes can be completed.
use Rattle.std.proofs.Common.{◌≡◌, ℕ, zero, suc, ◌+◌, ◌-◌, ◌^◌, ◌≤◌, ◌<◌, Bool, true, false, ltb, eqb, if◌then◌else◌, ◌||◌, List, [], ◌∷◌, ◌++◌, length, take, drop, Option, Some, None, refl, sym, ap, ◌∙◌, arith, length-append, length-drop, length-take, inl, inr, ◌⊎◌, ℤ, pos, ◌+ℤ◌}
use Rattle.std.specs.Prelude.{◌*ℤ◌}
use Rattle.std.proofs.lemmas.Bool.{cases_lt, cases_Bool, lt-ltb, le-ltb, le-leb, leb-true, and_parts, and_from, eq-eqb, ne_eqb}
use Rattle.std.proofs.lemmas.List.{drop-append-le}
use Rattle.std.proofs.lemmas.List.Elements.{All-nil, All-cons, All-drop}
use Rattle.std.proofs.lemmas.Nat.{pow_pos}
use Rattle.wasm_defs.specs.Numbers.{Reading, Number, CutOff, Bad, number_at, last_byte}
use Rattle.wasm_defs.specs.Limits.{max_name}
use Rattle.wasm_defs.specs.declared.text.Inside.{Inside}
use Rattle.wasm_defs.specs.Text.{between, due_in, first_byte, next_byte, completes}
use Rattle.wasm_defs.specs.Fields.{Cursor, Read, Wants, room_of, window, cut, first_of, byte, from_reading, number, nat_of, agree, fixed, text_after, least, length_owed, name_from, name}
use Rattle.wasm_defs.proofs.NumberLaws.{last_is_whole, after_cut}
use Rattle.wasm_laws.specs.Sections.{AreBytes}
use Rattle.wasm_laws.specs.Completing.{IsGot, IsTooLong, Completes, CompletesOrPasses}
use Rattle.wasm_laws.proofs.Steady.{with_more}
use Rattle.wasm_laws.proofs.Windows.{all_of, ReadsOn, number_lies, number_reads_on}
use Rattle.wasm_laws.proofs.Names.{text_outcome}

-- ---- bytes that complete

no_bytes : AreBytes []
no_bytes = All-nil (λ b. b < 256)

then_byte : (b : ℕ) (bytes : List ℕ) → b < 256 → AreBytes bytes → AreBytes (b ∷ bytes)
then_byte b bytes h all = All-cons (λ b. b < 256) b bytes h all

zero_byte : AreBytes (0 ∷ [])
zero_byte = then_byte 0 [] (omega arith) no_bytes

-- ---- windows

-- where a field wants more, the section has room after the bytes that are there
pub room_left : (A : Type 0) (c : Cursor) → cut {A = A} c ≡ Wants → length c.rest < room_of c
room_left A c e =
    elim (cases_lt (length c.rest) (room_of c)) [
      | inl lt ↦ lt
      | inr ge ↦ absurd (let t = rw (le-leb (room_of c) (length c.rest) ge) at e in cc)
    ]

pub window_is : (c : Cursor) → length c.rest ≤ room_of c → window c ≡ c.rest
window_is c h = all_of (room_of c) c.rest h

window_with : (c : Cursor) (more : List ℕ) → length c.rest + length more ≤ room_of c → window (with_more c more) ≡ c.rest ++ more
window_with c more h = all_of (room_of c) (c.rest ++ more) (omega (arith, length-append c.rest more))

-- ---- bytes

first_got : (c : Cursor) (xs ys : List ℕ) (b : ℕ) → IsGot (first_of c (xs ++ b ∷ ys))
first_got c [] ys b = tt
first_got c (x ∷ xs) ys b = tt

first_wants : (c : Cursor) (w : List ℕ) → first_of c w ≡ Wants → cut {A = ℕ × ℕ} c ≡ Wants
first_wants c [] e = e
first_wants c (b ∷ w) e = absurd cc

pub byte_completes : (c : Cursor) → byte c ≡ Wants → Completes byte c
unfolding byte
byte_completes c e =
    let room = room_left (ℕ × ℕ) c (first_wants c (window c) e) in
    (0 ∷ [], zero_byte, rw (window_with c (0 ∷ []) (omega arith)) (first_got (with_more c (0 ∷ [])) c.rest [] 0))

-- ---- numbers

last_zero : (signed : Bool) (bits : ℕ) → last_byte signed bits 0 ≡ Number (pos 0) 1
last_zero false bits = rw (lt-ltb 0 (2 ^ bits) (pow_pos bits)) refl
last_zero true bits = rw (lt-ltb 0 (2 ^ (bits - 1)) (pow_pos (bits - 1))) refl

-- a byte 0 ends a number that is cut off
zero_ends : (signed : Bool) (bits : ℕ) (bytes more : List ℕ) → number_at signed bits bytes ≡ CutOff → (n : ℤ) × (number_at signed bits (bytes ++ 0 ∷ more) ≡ Number n (length bytes + 1))
unfolding number_at
zero_ends signed bits [] more e = (pos 0, last_zero signed bits)
zero_ends signed bits (b ∷ bytes) more e =
    elim (cases_Bool (ltb b 128)) [
      | inl low ↦ absurd (last_is_whole signed bits b (rw low at e))
      | inr high ↦ let t = rw high at e in elim (cases_Bool (ltb 7 bits)) [
        | inl wide ↦
            let u = rw wide at t in
            let h = zero_ends signed (bits - 7) bytes more (after_cut b (number_at signed (bits - 7) bytes) u) in
            let len : length bytes + 1 + 1 ≡ length (b ∷ bytes) + 1 = omega arith in
            rw (high, wide, h.1) (pos (b - 128) +ℤ (pos 128 *ℤ h.0), ap (Number (pos (b - 128) +ℤ (pos 128 *ℤ h.0))) len)
        | inr narrow ↦ absurd (let u = rw narrow at t in cc)
      ]
    ]

-- the number is the least that begins so
zero_is_least : (bits : ℕ) (bytes more : List ℕ) → number_at false bits bytes ≡ CutOff → number_at false bits (bytes ++ 0 ∷ more) ≡ Number (pos (least bytes)) (length bytes + 1)
unfolding number_at
zero_is_least bits [] more e = last_zero false bits
zero_is_least bits (b ∷ bytes) more e =
    elim (cases_Bool (ltb b 128)) [
      | inl low ↦ absurd (last_is_whole false bits b (rw low at e))
      | inr high ↦ let t = rw high at e in elim (cases_Bool (ltb 7 bits)) [
        | inl wide ↦
            let u = rw wide at t in
            let len : length bytes + 1 + 1 ≡ length (b ∷ bytes) + 1 = omega arith in
            rw (high, wide, zero_is_least (bits - 7) bytes more (after_cut b (number_at false (bits - 7) bytes) u)) (ap (Number (pos (least (b ∷ bytes)))) len)
        | inr narrow ↦ absurd (let u = rw narrow at t in cc)
      ]
    ]

reading_got : (c : Cursor) (n : ℤ) (len : ℕ) (r : Reading) → r ≡ Number n len → IsGot (from_reading c r)
reading_got c n len r e = rw e tt

number_from : (signed : Bool) (bits : ℕ) (c : Cursor) (r : Reading) → number_at signed bits (window c) ≡ r → from_reading c r ≡ Wants → Completes (number signed bits) c
unfolding number
number_from signed bits c (Number n len) is e = absurd cc
number_from signed bits c CutOff is e =
    let room = room_left (ℕ × ℤ) c e in
    let there = zero_ends signed bits c.rest [] (ap (number_at signed bits) (sym (window_is c (omega arith))) ∙ is) in
    (0 ∷ [], zero_byte, rw (window_with c (0 ∷ []) (omega arith)) (reading_got (with_more c (0 ∷ [])) there.0 (length c.rest + 1) _ there.1))
number_from signed bits c Bad is e = absurd cc

pub number_completes : (signed : Bool) (bits : ℕ) (c : Cursor) → number signed bits c ≡ Wants → Completes (number signed bits) c
unfolding number
number_completes signed bits c e = number_from signed bits c (number_at signed bits (window c)) refl e

-- ---- given bytes

agree_itself : (xs : List ℕ) → agree xs xs ≡ true
agree_itself [] = refl
agree_itself (x ∷ xs) = and_from (eqb x x) (agree xs xs) (eq-eqb x x refl) (agree_itself xs)

agree_filled : (xs ys : List ℕ) → length ys ≤ length xs → agree xs ys ≡ true → agree xs (ys ++ drop (length ys) xs) ≡ true
agree_filled [] [] h e = refl
agree_filled [] (y ∷ ys) h e = refl
agree_filled (x ∷ xs) [] h e = agree_itself (x ∷ xs)
agree_filled (x ∷ xs) (y ∷ ys) h e =
    let p = and_parts (eqb x y) (agree xs ys) e in
    and_from (eqb x y) (agree xs (ys ++ drop (length ys) xs)) p.0 (agree_filled xs ys (omega arith) p.1)

fixed_got : (bytes w : List ℕ) (c : Cursor) → window c ≡ w → agree bytes w ≡ true → length bytes ≤ length w → IsGot (fixed bytes c)
unfolding fixed
fixed_got bytes w c is same long = rw (is, same, le-ltb (length w) (length bytes) long) tt

pub fixed_completes : (bytes : List ℕ) → AreBytes bytes → (c : Cursor) → length bytes ≤ room_of c → fixed bytes c ≡ Wants → Completes (fixed bytes) c
unfolding fixed
fixed_completes bytes all c fits e =
    elim (cases_Bool (agree bytes (window c))) [
      | inr other ↦ absurd (let t = rw other at e in cc)
      | inl same ↦ let t = rw same at e in elim (cases_lt (length (window c)) (length bytes)) [
        | inr ge ↦ absurd (let u = rw (le-ltb (length (window c)) (length bytes) ge) at t in cc)
        | inl lt ↦
            let room = room_left ℕ c (rw (lt-ltb (length (window c)) (length bytes) lt) at t) in
            let whole = window_is c (omega arith) in
            let short : length c.rest < length bytes = omega (arith, ap length whole) in
            let more = drop (length c.rest) bytes in
            (more, All-drop (λ b. b < 256) (length c.rest) bytes all, fixed_got bytes (c.rest ++ more) (with_more c more) (window_with c more (omega (arith, length-drop (length c.rest) bytes))) (agree_filled bytes c.rest (omega arith) (rw whole at same)) (omega (arith, length-append c.rest more, length-drop (length c.rest) bytes)))
      ]
    ]

-- ---- texts

-- some byte may come next
abbrev IsRight : Option Inside → Type 0
IsRight None = Unit {0}
IsRight (Some s) = (s.least ≤ s.most) × (s.least < 256)

one_of : (P : Option Inside → Type 0) (b : Bool) (x y : Option Inside) → P x → P y → P (if b then x else y)
one_of P true x y p q = p
one_of P false x y p q = q

first_right : (b : ℕ) → IsRight (first_byte b)
first_right b =
    one_of IsRight (ltb b 0x80) _ _ (omega arith, omega arith)
    (one_of IsRight (ltb b 0xC2) _ _ tt
    (one_of IsRight (ltb b 0xE0) _ _ (omega arith, omega arith)
    (one_of IsRight (eqb b 0xE0) _ _ (omega arith, omega arith)
    (one_of IsRight (eqb b 0xED) _ _ (omega arith, omega arith)
    (one_of IsRight (ltb b 0xF0) _ _ (omega arith, omega arith)
    (one_of IsRight (eqb b 0xF0) _ _ (omega arith, omega arith)
    (one_of IsRight (ltb b 0xF4) _ _ (omega arith, omega arith)
    (one_of IsRight (eqb b 0xF4) _ _ (omega arith, omega arith) tt))))))))

next_right : (s : Inside) (b : ℕ) → IsRight (next_byte s b)
next_right s b =
    one_of IsRight (eqb s.due 0) _ _ (first_right b)
    (one_of IsRight (ltb b s.least || ltb s.most b) _ _ tt (omega arith, omega arith))

-- so many bytes complete a text there
record Fills (n : ℕ) (s : Inside) : Type 0 where
  more : List ℕ
  bytes : AreBytes more
  count : length more ≡ n
  right : completes n (Some s) more ≡ true

next_zero : (s : Inside) → s.due ≡ 0 → next_byte s 0 ≡ between
next_zero s e = rw e refl

next_least : (s : Inside) (d : ℕ) → s.due ≡ suc d → s.least ≤ s.most → next_byte s s.least ≡ due_in d 0x80 0xBF
next_least s d e h =
    let some : eqb s.due 0 ≡ false = ne_eqb s.due 0 (λ none. omega (arith, e)) in
    let one : s.due - 1 ≡ d = omega (arith, e) in
    rw (some, le-ltb s.least s.least (omega arith), le-ltb s.most s.least h, one) refl

filled : (n : ℕ) (s : Inside) (due : ℕ) → s.due ≡ due → due ≤ n → IsRight (Some s) → Fills n s
filled zero s due is le right = record { more = []; bytes = no_bytes; count = refl; right = le-leb s.due 0 (omega (arith, is)) }
filled (suc n) s zero is le right =
    let rest = filled n (record { due = 0; least = 0; most = 0 }) 0 refl (omega arith) (omega arith, omega arith) in
    let less : suc n - 1 ≡ n = omega arith in
    record {
      more = 0 ∷ rest.more;
      bytes = then_byte 0 rest.more (omega arith) rest.bytes;
      count = omega (arith, rest.count);
      right = ap (λ (k : ℕ). completes k (next_byte s 0) rest.more) less ∙ ap (λ (o : Option Inside). completes n o rest.more) (next_zero s is) ∙ rest.right;
    }
filled (suc n) s (suc d) is le right =
    let rest = filled n (record { due = d; least = 0x80; most = 0xBF }) d refl (omega arith) (omega arith, omega arith) in
    let less : suc n - 1 ≡ n = omega arith in
    record {
      more = s.least ∷ rest.more;
      bytes = then_byte s.least rest.more right.1 rest.bytes;
      count = omega (arith, rest.count);
      right = ap (λ (k : ℕ). completes k (next_byte s s.least) rest.more) less ∙ ap (λ (o : Option Inside). completes n o rest.more) (next_least s d is right.0) ∙ rest.right;
    }

-- and these after a text that may be completed
record Finishes (n : ℕ) (o : Option Inside) (text : List ℕ) : Type 0 where
  more : List ℕ
  bytes : AreBytes more
  count : length text + length more ≡ n
  right : completes n o (text ++ more) ≡ true

finished : (n : ℕ) (o : Option Inside) (text : List ℕ) → IsRight o → length text ≤ n → completes n o text ≡ true → Finishes n o text
finished n None text right le e = absurd cc
finished n (Some s) [] right le e =
    let f = filled n s s.due refl (leb-true s.due n e) right in
    record { more = f.more; bytes = f.bytes; count = omega (arith, f.count); right = f.right }
finished n (Some s) (b ∷ text) right le e =
    let f = finished (n - 1) (next_byte s b) text (next_right s b) (omega arith) e in
    record { more = f.more; bytes = f.bytes; count = omega (arith, f.count); right = f.right }

-- ---- names

abbrev Ends : Read (ℕ × List ℕ) → Type 0
Ends r = IsGot r ⊎ IsTooLong r

-- a text that is there whole
text_ends : (len n : ℕ) (c : Cursor) (text : List ℕ) → take n (drop len (window c)) ≡ text → len + n ≤ room_of c → completes n between text ≡ true → length text ≡ n → Ends (text_after len n c)
text_ends len n c text is fits right whole =
    rw (is, le-ltb (room_of c) (len + n) fits, right, le-ltb (length text) n (omega (arith, whole))) (elim (cases_Bool (ltb max_name n)) [
      | inl over ↦ rw over (inr refl)
      | inr under ↦ rw under (inl tt)
    ])

name_read : (c : Cursor) (n : ℤ) (len : ℕ) → number_at false 32 (window c) ≡ Number n len → Ends (text_after len (nat_of n) c) → Ends (name c)
unfolding name
name_read c n len e h = rw e h

-- a text that isn't whole, in a section with room for it
pub record Owes (len n : ℕ) (c : Cursor) : Type 0 where
  pub fits : len + n ≤ room_of c
  pub right : completes n between (take n (drop len (window c))) ≡ true
  pub short : length (take n (drop len (window c))) < n

pub text_owes : (len n : ℕ) (c : Cursor) → text_after len n c ≡ Wants → Owes len n c
text_owes len n c =
    text_outcome (λ r. r ≡ Wants → Owes len n c) len n c (λ e. absurd (cc)) (λ e. absurd (cc)) (λ fits right lt e. record { fits = fits; right = right; short = lt })
    (λ fits right ge under e. absurd (cc))

text_completes : (c : Cursor) (n : ℤ) (len : ℕ) → number_at false 32 (window c) ≡ Number n len → len ≤ length (window c) → ((more : List ℕ) → number_at false 32 (window c ++ more) ≡ Number n len) → Owes len (nat_of n) c → CompletesOrPasses name c
text_completes c n len is lies on o =
    let k = nat_of n in
    let few : length (window c) < len + k = omega (arith, o.short, length-take k (drop len (window c)), length-drop len (window c)) in
    let short : length c.rest < len + k = omega (arith, few, length-take (room_of c) c.rest, o.fits) in
    let whole = window_is c (omega (arith, short, o.fits)) in
    let there : len ≤ length c.rest = omega (arith, lies, ap length whole) in
    let text : take k (drop len (window c)) ≡ drop len c.rest = ap (λ (l : List ℕ). take k (drop len l)) whole ∙ all_of k (drop len c.rest) (omega (arith, length-drop len c.rest)) in
    let f = finished k between (drop len c.rest) (omega arith, omega arith) (omega (arith, length-drop len c.rest)) (rw text at o.right) in
    let all : window (with_more c f.more) ≡ c.rest ++ f.more = window_with c f.more (omega (arith, f.count, length-drop len c.rest, o.fits)) in
    let behind : take k (drop len (window (with_more c f.more))) ≡ drop len c.rest ++ f.more =
    ap (λ (l : List ℕ). take k (drop len l)) all
    ∙ ap (take k) (drop-append-le len c.rest f.more there)
    ∙ all_of k (drop len c.rest ++ f.more) (omega (arith, f.count, length-append (drop len c.rest) f.more)) in
    (f.more, f.bytes, name_read (with_more c f.more) n len (ap (number_at false 32) all ∙ ap (λ (l : List ℕ). number_at false 32 (l ++ f.more)) (sym whole) ∙ on f.more) (text_ends len k (with_more c f.more) (drop len c.rest ++ f.more) behind o.fits f.right (omega (arith, f.count, length-append (drop len c.rest) f.more))))

drop_past : (xs ys : List ℕ) (b : ℕ) → drop (suc (length xs)) (xs ++ b ∷ ys) ≡ ys
drop_past [] ys b = refl
drop_past (x ∷ xs) ys b = drop_past xs ys b

pub owed_fits : (c : Cursor) → length_owed c ≡ Wants → length (window c) + 1 + least (window c) ≤ room_of c
owed_fits c e =
    elim (cases_lt (room_of c) (length (window c) + 1 + least (window c))) [
      | inl long ↦ absurd (let t = rw (lt-ltb (room_of c) (length (window c) + 1 + least (window c)) long) at e in cc)
      | inr fits ↦ fits
    ]

-- a name whose length is cut off: a byte 0 ends the length, and so many bytes 0 are the text
length_completes : (c : Cursor) → number_at false 32 (window c) ≡ CutOff → length_owed c ≡ Wants → CompletesOrPasses name c
length_completes c is e =
    let room = owed_fits c e in
    let whole = window_is c (omega (arith, room, length-take (room_of c) c.rest)) in
    let k = least c.rest in
    let fits : length c.rest + 1 + k ≤ room_of c = rw whole at room in
    let f = filled k (record { due = 0; least = 0; most = 0 }) 0 refl (omega arith) (omega arith, omega arith) in
    let more = 0 ∷ f.more in
    let all : window (with_more c more) ≡ c.rest ++ more = window_with c more (omega (arith, fits, f.count)) in
    let reading = zero_is_least 32 c.rest f.more (ap (number_at false 32) (sym whole) ∙ is) in
    let one : length c.rest + 1 ≡ suc (length c.rest) = omega arith in
    let behind : take k (drop (length c.rest + 1) (window (with_more c more))) ≡ f.more =
    ap (λ (l : List ℕ). take k (drop (length c.rest + 1) l)) all
    ∙ ap (λ (n : ℕ). take k (drop n (c.rest ++ more))) one
    ∙ ap (take k) (drop_past c.rest f.more 0)
    ∙ all_of k f.more (omega (arith, f.count)) in
    (more, then_byte 0 f.more (omega arith) f.bytes, name_read (with_more c more) (pos k) (length c.rest + 1) (ap (number_at false 32) all ∙ reading) (text_ends (length c.rest + 1) k (with_more c more) f.more behind fits f.right f.count))

reads_on : (n : ℤ) (len : ℕ) (r s : Reading) → r ≡ Number n len → ReadsOn r s → s ≡ Number n len
reads_on n len r s e h = rw e at h

name_from_wants : (c : Cursor) (r : Reading) → number_at false 32 (window c) ≡ r → name_from c r ≡ Wants → CompletesOrPasses name c
name_from_wants c (Number n len) is e =
    let lies = rw is at (number_lies false 32 (window c)) in
    text_completes c n len is lies.1 (λ more. reads_on n len _ _ is (number_reads_on false 32 (window c) more)) (text_owes len (nat_of n) c e)
name_from_wants c CutOff is e = length_completes c is e
name_from_wants c Bad is e = absurd cc

pub name_completes : (c : Cursor) → name c ≡ Wants → CompletesOrPasses name c
unfolding name
name_completes c e = name_from_wants c (number_at false 32 (window c)) refl e
