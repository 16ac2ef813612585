-- Names are steady fields: what more bytes can't complete, they don't.
use Rattle.std.proofs.Common.{◌≡◌, ℕ, suc, ◌+◌, ◌-◌, ◌*◌, ◌≤◌, ◌<◌, true, false, ltb, eqb, ◌||◌, List, [], ◌∷◌, ◌++◌, length, take, drop, Option, Some, None, refl, sym, ap, ◌∙◌, arith, length-drop, length-take, inl, inr, ◌⊎◌, ℤ, pos, ◌+ℤ◌, ◌^◌}
use Rattle.std.specs.Prelude.{◌*ℤ◌}
use Rattle.std.proofs.lemmas.List.{append-nil, take-append-le, drop-append-le}
use Rattle.std.proofs.lemmas.Bool.{cases_lt, cases_Bool, lt-ltb, le-ltb, lt-leb, leb-false, ne_eqb}
use Rattle.wasm_defs.specs.Numbers.{Reading, Number, CutOff, Bad, number_at, last_byte, after_byte}
use Rattle.wasm_defs.specs.declared.fault.Kind.TheVariants.{Malformed, Limit}
use Rattle.wasm_defs.specs.declared.text.Inside.{Inside}
use Rattle.wasm_defs.specs.Limits.{max_name}
use Rattle.wasm_defs.specs.Text.{between, due_in, next_byte, completes}
use Rattle.wasm_defs.specs.Fields.{Cursor, Read, Got, Wants, refused, room_of, window, past, nat_of, text_after, least, length_owed, name_from, name}
use Rattle.wasm_defs.proofs.NumberLaws.{after_cut}
use Rattle.wasm_laws.proofs.Steady.{with_more, Extends, faulty, owed, Advances, StandsIn, IsThere, IsDecided, IfGot, IsMarked, Field}
use Rattle.wasm_laws.proofs.Windows.{same_window, wider_window, added, window_short, window_whole, take_over, all_of, got_past, past_advance, stands_here, LiesIn, ReadsOn, number_lies, window_reads_on}

-- ---- texts

-- where bytes are due, the next one is wrong or leaves one less
next_due : (s : Inside) (b : ℕ) → 0 < s.due → (next_byte s b ≡ None) ⊎ (next_byte s b ≡ due_in (s.due - 1) 0x80 0xBF)
next_due s b h =
    let some : eqb s.due 0 ≡ false = ne_eqb s.due 0 (λ e. omega arith) in
    elim (cases_Bool (ltb b s.least || ltb s.most b)) [
      | inl out ↦ inl (rw (some, out) refl)
      | inr good ↦ inr (rw (some, good) refl)
    ]

-- a character has more bytes due than there is room for
due_past : (room : ℕ) (s : Inside) (bytes : List ℕ) → length bytes ≤ room → room < s.due → completes room (Some s) bytes ≡ false
due_past room s [] l h = lt-leb s.due room h
due_past room s (b ∷ bytes) l h =
    let rest = due_past (room - 1) (record { due = s.due - 1; least = 0x80; most = 0xBF }) bytes (omega arith) (omega arith) in
    elim (next_due s b (omega arith)) [
      | inl none ↦ ap (λ (o : Option Inside). completes (room - 1) o bytes) none
      | inr one_less ↦ ap (λ (o : Option Inside). completes (room - 1) o bytes) one_less ∙ rest
    ]

-- what no bytes complete, no longer text completes
longer_fails : (room : ℕ) (s : Option Inside) (text more : List ℕ) → length (text ++ more) ≤ room → completes room s text ≡ false → completes room s (text ++ more) ≡ false
longer_fails room None text more l e = refl
longer_fails room (Some s) [] more l e = due_past room s more l (leb-false s.due room e)
longer_fails room (Some s) (b ∷ text) more l e = longer_fails (room - 1) (next_byte s b) text more (omega arith) e

-- ---- lengths that are cut off

abbrev AtLeast : ℕ → ℕ → List ℕ → Reading → Type 0
AtLeast v k bytes (Number n len) = (m : ℕ) × (n ≡ pos m) × (v ≤ m) × (k < len)
AtLeast v k bytes CutOff = (v ≤ least bytes) × (k ≤ length bytes)
AtLeast v k bytes Bad = Unit {0}

last_least : (bits b : ℕ) (bytes : List ℕ) → AtLeast 0 0 bytes (last_byte false bits b)
last_least bits b bytes =
    elim (cases_Bool (ltb b (2 ^ bits))) [
      | inl h ↦ rw h (b, refl, omega arith, omega arith)
      | inr h ↦ rw h tt
    ]

after_least : (b v k : ℕ) (bytes : List ℕ) (r : Reading) → AtLeast v k bytes r → AtLeast (b - 128 + 128 * v) (suc k) (b ∷ bytes) (after_byte b r)
after_least b v k bytes (Number n len) h = (b - 128 + 128 * h.0, ap (λ (z : ℤ). pos (b - 128) +ℤ (pos 128 *ℤ z)) h.1, omega (arith, h.2), omega (arith, h.3))
after_least b v k bytes CutOff h = (omega (arith, h.0), omega (arith, h.1))
after_least b v k bytes Bad h = tt

weaker : (v k : ℕ) (bytes : List ℕ) (r : Reading) → AtLeast v k bytes r → AtLeast 0 0 bytes r
weaker v k bytes (Number n len) h = (h.0, h.1, omega arith, omega (arith, h.3))
weaker v k bytes CutOff h = (omega arith, omega arith)
weaker v k bytes Bad h = tt

some_least : (bits : ℕ) (bytes : List ℕ) → AtLeast 0 0 bytes (number_at false bits bytes)
unfolding number_at
some_least bits [] = (omega arith, omega arith)
some_least bits (b ∷ bytes) =
    elim (cases_Bool (ltb b 128)) [
      | inl low ↦ rw low (last_least bits b (b ∷ bytes))
      | inr high ↦ rw high (elim (cases_Bool (ltb 7 bits)) [
        | inl wide ↦ rw wide (weaker (b - 128 + 128 * 0) 1 (b ∷ bytes) (after_byte b (number_at false (bits - 7) bytes)) (after_least b 0 0 bytes (number_at false (bits - 7) bytes) (some_least (bits - 7) bytes)))
        | inr narrow ↦ rw narrow tt
      ])
    ]

last_is_whole : (bits b : ℕ) → last_byte false bits b ≡ CutOff → ⊥
last_is_whole bits b e =
    elim (cases_Bool (ltb b (2 ^ bits))) [
      | inl h ↦ absurd (let t = rw h at e in cc)
      | inr h ↦ absurd (let t = rw h at e in cc)
    ]

-- an encoding that goes on is no less, and longer
pub least_of_more : (bits : ℕ) (bytes more : List ℕ) → number_at false bits bytes ≡ CutOff → AtLeast (least bytes) (length bytes) (bytes ++ more) (number_at false bits (bytes ++ more))
unfolding number_at
least_of_more bits [] more e = some_least bits more
least_of_more bits (b ∷ bytes) more e =
    elim (cases_Bool (ltb b 128)) [
      | inl low ↦ absurd (last_is_whole bits b (rw low at e))
      | inr high ↦ let t = rw high at e in rw high (elim (cases_Bool (ltb 7 bits)) [
        | inl wide ↦ let u = rw wide at t in rw wide (after_least b (least bytes) (length bytes) (bytes ++ more) (number_at false (bits - 7) (bytes ++ more)) (least_of_more (bits - 7) bytes more (after_cut b (number_at false (bits - 7) bytes) u)))
        | inr narrow ↦ rw narrow tt
      ])
    ]

-- ---- names

-- a text in a wider window goes on as it began, and only where it wasn't whole
pub record Grows (n : ℕ) (text wider : List ℕ) : Type 0 where
  pub tail : List ℕ
  pub is : wider ≡ text ++ tail
  pub whole : n ≤ length text → wider ≡ text

take_grows : (n : ℕ) (xs ys : List ℕ) → Grows n (take n xs) (take n (xs ++ ys))
take_grows n xs ys =
    elim (cases_lt (length xs) n) [
      | inl lt ↦ record { tail = take (n - length xs) ys; is = take_over n xs ys (omega arith) ∙ ap (λ (l : List ℕ). l ++ take (n - length xs) ys) (sym (all_of n xs (omega arith))); whole = λ h. absurd (omega (arith, length-take n xs)) }
      | inr ge ↦ record { tail = []; is = take-append-le n xs ys ge ∙ sym (append-nil (take n xs)); whole = λ h. take-append-le n xs ys ge }
    ]

text_grows : (len n : ℕ) (c : Cursor) (more : List ℕ) → len ≤ length (window c) → Grows n (take n (drop len (window c))) (take n (drop len (window (with_more c more))))
text_grows len n c more h =
    elim (cases_lt (length c.rest) (room_of c)) [
      | inl lt ↦ rw (wider_window c more lt, drop-append-le len (window c) (added c more) h) (take_grows n (drop len (window c)) (added c more))
      | inr ge ↦ rw (same_window c more ge) (record { tail = []; is = sym (append-nil (take n (drop len (window c)))); whole = λ h. refl })
    ]

text_extends : (len n : ℕ) (c : Cursor) (more : List ℕ) → len ≤ length (window c) → Extends (ℕ × List ℕ) more (text_after len n c) (text_after len n (with_more c more))
text_extends len n c more h =
    let text = take n (drop len (window c)) in
    let g = text_grows len n c more h in
    elim (cases_Bool (ltb (room_of c) (len + n))) [
      | inl long ↦ rw long (faulty _)
      | inr fits ↦ rw fits (elim (cases_Bool (completes n between text)) [
        | inr wrong ↦ rw (g.is, wrong, longer_fails n between text g.tail (omega (arith, length-take n (drop len (window (with_more c more))), ap length g.is)) wrong) (faulty _)
        | inl right ↦ elim (cases_lt (length text) n) [
          | inl lt ↦ rw (right, lt-ltb (length text) n lt) (owed _)
          | inr ge ↦ rw (g.whole ge, right, le-ltb (length text) n ge) (elim (cases_Bool (ltb max_name n)) [
            | inl over ↦ rw over (faulty _)
            | inr under ↦ rw under (got_past (c.at, text) c more (len + n) (omega (arith, length-take n (drop len (window c)), length-drop len (window c))))
          ])
        ]
      ])
    ]

-- a text by its outcomes: it is refused, or is owed, or is there whole
pub text_outcome : (P : Read (ℕ × List ℕ) → Type 0) (len n : ℕ) (c : Cursor) → P (refused Malformed c.at c) → P (refused Limit c.at c)
    → (len + n ≤ room_of c → completes n between (take n (drop len (window c))) ≡ true → length (take n (drop len (window c))) < n → P Wants)
    → (len + n ≤ room_of c → completes n between (take n (drop len (window c))) ≡ true → n ≤ length (take n (drop len (window c))) → n ≤ max_name
    → P (Got (c.at, take n (drop len (window c))) (past c (len + n))))
    → P (text_after len n c)
text_outcome P len n c malformed limit late whole =
    let text = take n (drop len (window c)) in
    elim (cases_lt (room_of c) (len + n)) [
      | inl long ↦ rw (lt-ltb (room_of c) (len + n) long) malformed
      | inr fits ↦ rw (le-ltb (room_of c) (len + n) fits) (elim (cases_Bool (completes n between text)) [
        | inr wrong ↦ rw wrong malformed
        | inl right ↦ rw right (elim (cases_lt (length text) n) [
          | inl lt ↦ rw (lt-ltb (length text) n lt) (late fits right lt)
          | inr ge ↦ rw (le-ltb (length text) n ge) (elim (cases_lt max_name n) [
            | inl over ↦ rw (lt-ltb max_name n over) limit
            | inr under ↦ rw (le-ltb max_name n under) (whole fits right ge under)
          ])
        ])
      ])
    ]

-- so many bytes of the length and the text are there
pub text_there : (len n : ℕ) (c : Cursor) → len ≤ length (window c) → n ≤ length (take n (drop len (window c))) → len + n ≤ length (window c)
text_there len n c h ge = omega (arith, length-take n (drop len (window c)), length-drop len (window c))

text_advances : (len n : ℕ) (c : Cursor) → len ≤ length (window c) → Advances c (text_after len n c)
text_advances len n c h = text_outcome (Advances c) len n c tt tt (λ fits right lt. tt) (λ fits right ge under. past_advance c (len + n) (text_there len n c h ge))

text_stands : (len n low : ℕ) (c : Cursor) → low ≤ c.at → 1 ≤ len → len ≤ length (window c) → StandsIn low c (text_after len n c)
text_stands len n low c le some h =
    let short = window_short c in
    let byte : length c.rest < room_of c → 0 < length c.rest = λ lt. omega arith in
    text_outcome (StandsIn low c) len n c (stands_here low c Malformed le byte) (stands_here low c Limit le byte) (λ fits right lt. tt) (λ fits right ge under. tt)

-- where the section is there, so is the text that is in it
text_decides : (len n : ℕ) (c : Cursor) → IsThere c → IsDecided (text_after len n c)
text_decides len n c there =
    let whole = window_whole c there in
    text_outcome IsDecided len n c tt tt (λ fits right lt. absurd (omega (arith, length-take n (drop len (window c)), length-drop len (window c)))) (λ fits right ge under. tt)

text_marked : (len n : ℕ) (c : Cursor) → 1 ≤ len → IfGot (IsMarked c) (text_after len n c)
text_marked len n c some = text_outcome (IfGot (IsMarked c)) len n c tt tt (λ fits right lt. tt) (λ fits right ge under. (omega arith, omega arith))

owed_extends : (c : Cursor) (more : List ℕ) (s : Reading) → AtLeast (least (window c)) (length (window c)) (window (with_more c more)) s → Extends (ℕ × List ℕ) more (length_owed c) (name_from (with_more c more) s)
owed_extends c more s h =
    elim (cases_lt (room_of c) (length (window c) + 1 + least (window c))) [
      | inr fits ↦ rw (le-ltb (room_of c) (length (window c) + 1 + least (window c)) fits) (owed _)
      | inl long ↦ rw (lt-ltb (room_of c) (length (window c) + 1 + least (window c)) long) (still_long s h long)
    ]
  where
    still_long : (s : Reading) → AtLeast (least (window c)) (length (window c)) (window (with_more c more)) s → room_of c < length (window c) + 1 + least (window c) → Extends (ℕ × List ℕ) more (refused Malformed c.at c) (name_from (with_more c more) s)
    still_long (Number n len) h long = rw (ap nat_of h.1, lt-ltb (room_of c) (len + h.0) (omega (arith, h.2, h.3))) (faulty _)
    still_long CutOff h long = rw (lt-ltb (room_of c) (length (window (with_more c more)) + 1 + least (window (with_more c more))) (omega (arith, h.0, h.1))) (faulty _)
    still_long Bad h long = faulty _

owed_advances : (c : Cursor) → Advances c (length_owed c)
owed_advances c =
    elim (cases_Bool (ltb (room_of c) (length (window c) + 1 + least (window c)))) [
      | inl long ↦ rw long tt
      | inr fits ↦ rw fits tt
    ]

-- no bytes are the beginning of the shortest name, which fits where the section has a byte
no_bytes_fit : (c : Cursor) → length c.rest < room_of c → room_of c < length (window c) + 1 + least (window c) → 0 < length c.rest
no_bytes_fit c lt long = some (window c) long (window_short c).0
  where
    some : (w : List ℕ) → room_of c < length w + 1 + least w → length w ≤ length c.rest → 0 < length c.rest
    some [] h le = absurd (omega arith)
    some (b ∷ w) h le = omega arith

owed_stands : (low : ℕ) (c : Cursor) → low ≤ c.at → StandsIn low c (length_owed c)
owed_stands low c le =
    elim (cases_lt (room_of c) (length (window c) + 1 + least (window c))) [
      | inr fits ↦ rw (le-ltb (room_of c) (length (window c) + 1 + least (window c)) fits) tt
      | inl long ↦ rw (lt-ltb (room_of c) (length (window c) + 1 + least (window c)) long) (stands_here low c _ le (λ lt. no_bytes_fit c lt long))
    ]

owed_decides : (c : Cursor) → IsThere c → IsDecided (length_owed c)
owed_decides c there =
    let whole = window_whole c there in
    rw (lt-ltb (room_of c) (length (window c) + 1 + least (window c)) (omega arith)) tt

owed_marked : (c : Cursor) → IfGot (IsMarked c) (length_owed c)
owed_marked c =
    elim (cases_Bool (ltb (room_of c) (length (window c) + 1 + least (window c)))) [
      | inl long ↦ rw long tt
      | inr fits ↦ rw fits tt
    ]

-- what is there when the length is cut off
least_in_window : (c : Cursor) (more : List ℕ) → number_at false 32 (window c) ≡ CutOff → AtLeast (least (window c)) (length (window c)) (window (with_more c more)) (number_at false 32 (window (with_more c more)))
least_in_window c more e =
    elim (cases_lt (length c.rest) (room_of c)) [
      | inl lt ↦ rw (wider_window c more lt) (least_of_more 32 (window c) (added c more) e)
      | inr ge ↦ rw (same_window c more ge, e) (omega arith, omega arith)
    ]

name_extends : (c : Cursor) (more : List ℕ) (r s : Reading) → number_at false 32 (window c) ≡ r → number_at false 32 (window (with_more c more)) ≡ s → LiesIn (length (window c)) r → ReadsOn r s → Extends (ℕ × List ℕ) more (name_from c r) (name_from (with_more c more) s)
name_extends c more (Number n len) s re se h e = rw e (text_extends len (nat_of n) c more h.1)
name_extends c more CutOff s re se h e = owed_extends c more s (rw se at (least_in_window c more re))
name_extends c more Bad s re se h e = rw e (faulty _)

name_advances : (c : Cursor) (r : Reading) → LiesIn (length (window c)) r → Advances c (name_from c r)
name_advances c (Number n len) h = text_advances len (nat_of n) c h.1
name_advances c CutOff h = owed_advances c
name_advances c Bad h = tt

name_stands : (low : ℕ) (c : Cursor) (r : Reading) → low ≤ c.at → LiesIn (length (window c)) r → StandsIn low c (name_from c r)
name_stands low c (Number n len) le h = text_stands len (nat_of n) low c le h.0 h.1
name_stands low c CutOff le h = owed_stands low c le
name_stands low c Bad le h = let short = window_short c in stands_here low c _ le (λ lt. omega arith)

name_decides : (c : Cursor) (r : Reading) → IsThere c → IsDecided (name_from c r)
name_decides c (Number n len) there = text_decides len (nat_of n) c there
name_decides c CutOff there = owed_decides c there
name_decides c Bad there = tt

name_marked : (c : Cursor) (r : Reading) → LiesIn (length (window c)) r → IfGot (IsMarked c) (name_from c r)
name_marked c (Number n len) h = text_marked len (nat_of n) c h.0
name_marked c CutOff h = owed_marked c
name_marked c Bad h = tt

pub name_field : Field name
unfolding name
name_field = record {
  steady = λ marks. record {
    by = λ c more. name_extends c more (number_at false 32 (window c)) (number_at false 32 (window (with_more c more))) refl refl (number_lies false 32 (window c)) (window_reads_on false 32 c more);
    moves = λ c. name_advances c (number_at false 32 (window c)) (number_lies false 32 (window c));
    place = λ low c le behind. name_stands low c (number_at false 32 (window c)) le (number_lies false 32 (window c));
    decides = λ c there. name_decides c (number_at false 32 (window c)) there;
  };
  marked = λ c. name_marked c (number_at false 32 (window c)) (number_lies false 32 (window c));
}
