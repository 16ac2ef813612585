-- Bytes, numbers and runs of bytes are read as they are encoded.
use Rattle.std.proofs.Common.{◌≡◌, ◌≤◌, inl, inr, ℕ, zero, suc, ◌+◌, ◌-◌, ◌*◌, ◌^◌, ℤ, pos, ◌+ℤ◌, Bool, true, false, List, [], ◌∷◌, ◌++◌, length, take, drop, refl, sym, ap, subst, ◌∙◌, add-one, arith, length-append, length-take, eqb}
use Rattle.std.specs.Prelude.{◌*ℤ◌}
use Rattle.std.proofs.lemmas.Bool.{cases_Bool, cases_lt, lt-ltb, le-ltb, eq-eqb, eqb-true, and_from, and_parts}
use Rattle.std.proofs.lemmas.List.{take-take, take-append-drop, drop_at, take_at}
use Rattle.wasm_defs.proofs.NumberLaws.{AreBytes, reading_means, last_below}
use Rattle.wasm_defs.specs.Numbers.{IsLastByte, Spells, Reading, Number, CutOff, Bad, Means, last_byte, after_byte, number_at}
use Rattle.wasm_defs.specs.Fields.{Cursor, Read, Got, Fault, Wants, then_go, done, nat_of, past, window, first_of, byte, from_reading, number, u32, run, fixed, agree}
use Rattle.wasm_defs.specs.Items.{Spelling, exactly, byte_is, number_is, u32_is}
use Rattle.wasm_laws.proofs.Steady.{IfGot}
use Rattle.wasm_laws.proofs.Windows.{window_short, take_over, cut_got}
use Rattle.wasm_laws.proofs.Spelt.{cursor, Ready, Found, found_as, reads_last, Spelt}

abbrev pub Always : {A : Type 0} → A → Type 0
Always x = Unit {0}

-- ---- what is found as a prefix

pub found_front : (s : Spelling) (K : Type 0) (c : Cursor) (len : ℕ) → Ready c → len ≤ length (window c) → s c.at (take len (window c)) → K → Found s K c (past c len)
found_front s K c len ready h spelled kept =
    let short = window_short c in
    let size = length-take len (window c) in
    let same : take len (window c) ≡ take len c.rest = take-take len (c.end - c.at) c.rest (omega arith) in
    record {
      taken = take len (window c);
      parts = sym (ap (λ (l : List ℕ). l ++ drop len c.rest) same ∙ take-append-drop len c.rest);
      at = omega arith;
      end = refl;
      fits = omega (arith, ready.low);
      spelled = spelled;
      kept = kept;
    }

pub front_window : (at end : ℕ) (front back : List ℕ) → at + length front ≤ end → window (cursor at (front ++ back) end) ≡ front ++ take (end - at - length front) back
front_window at end front back fits = take_over (end - at) front back (omega arith)

pub past_front : (at end : ℕ) (front back : List ℕ) → past (cursor at (front ++ back) end) (length front) ≡ cursor (at + length front) back end
past_front at end front back = ap (λ (l : List ℕ). cursor (at + length front) l end) (drop_at front back (length front) refl)

-- ---- bytes

first_found : (c : Cursor) (w : List ℕ) → window c ≡ w → Ready c → IfGot (λ b d. Found (byte_is b.0 b.1) (Always b) c d) (first_of c w)
first_found c [] e ready = cut_got _ _ c
first_found c (b ∷ w) e ready = found_front (byte_is c.at b) (Unit {0}) c 1 ready (omega (arith, ap length e)) (refl, ap (take 1) e) tt

byte_here : (at end b : ℕ) (back : List ℕ) → at + 1 ≤ end → byte (cursor at (b ∷ back) end) ≡ Got (at, b) (cursor (at + 1) back end)
unfolding byte
byte_here at end b back fits = ap (first_of (cursor at (b ∷ back) end)) (front_window at end (b ∷ []) back fits)

byte_read : (x : ℕ × ℕ) (at end : ℕ) (front back : List ℕ) → at + length front ≤ end → byte_is x.0 x.1 at front → byte (cursor at (front ++ back) end) ≡ Got x (cursor (at + length front) back end)
byte_read x at end front back fits k = rw (k.1, k.0) (byte_here at end x.1 back (omega (arith, ap length k.1)))

pub byte_spelt : Spelt (λ b. byte_is b.0 b.1) Always byte
unfolding byte
byte_spelt = record {
  sound = λ c ready. first_found c (window c) refl ready;
  complete = λ x h. record { by = byte_read x };
}

-- ---- numbers

-- an encoding is read as its number, whatever follows
last_read : (signed : Bool) (bits b : ℕ) (n : ℤ) → IsLastByte signed bits b n → last_byte signed bits b ≡ Number n 1
last_read false bits b n h = rw (lt-ltb b (2 ^ bits) h.1, h.2) refl
last_read true bits b n (inl h) = rw (lt-ltb b 64 h.0, lt-ltb b (2 ^ (bits - 1)) h.1, h.2) refl
last_read true bits b n (inr h) = rw (le-ltb b 64 h.0, le-ltb (b + 2 ^ (bits - 1)) 128 h.2, h.3) refl

pub spelling_read : (signed : Bool) (bits : ℕ) (n : ℤ) (front more : List ℕ) → Spells n bits signed front → number_at signed bits (front ++ more) ≡ Number n (length front)
unfolding number_at
spelling_read signed bits n [] more h = absurd h
spelling_read signed bits n (b ∷ []) more h = rw (lt-ltb b 128 (last_below signed bits b n h)) (last_read signed bits b n h)
spelling_read signed bits n (b ∷ c ∷ front) more h =
    let rest = spelling_read signed (bits - 7) h.3 (c ∷ front) more h.4 in
    rw (le-ltb b 128 h.0, lt-ltb 7 bits h.2, h.5) (ap (after_byte b) rest ∙ ap (Number (pos (b - 128) +ℤ (pos 128 *ℤ h.3))) (add-one (length (c ∷ front))))

reading_found : (signed : Bool) (bits : ℕ) (c : Cursor) (r : Reading) → Ready c → Means signed bits (window c) r → IfGot (λ n d. Found (number_is signed bits n) (Always n) c d) (from_reading c r)
reading_found signed bits c (Number n len) ready h = found_front (number_is signed bits (c.at, n)) (Unit {0}) c len ready h.0 (refl, h.1) tt
reading_found signed bits c CutOff ready h = cut_got _ _ c
reading_found signed bits c Bad ready h = tt

pub front_bytes : (n : ℕ) (bytes : List ℕ) → AreBytes bytes → AreBytes (take n bytes)
front_bytes zero bytes h = tt
front_bytes (suc n) [] h = tt
front_bytes (suc n) (b ∷ bytes) h = (h.0, front_bytes n bytes h.1)

pub window_bytes : (c : Cursor) → Ready c → AreBytes (window c)
window_bytes c ready = front_bytes (c.end - c.at) c.rest ready.bytes

number_read : (signed : Bool) (bits : ℕ) (x : ℕ × ℤ) (at end : ℕ) (front back : List ℕ) → at + length front ≤ end → number_is signed bits x at front → number signed bits (cursor at (front ++ back) end) ≡ Got x (cursor (at + length front) back end)
unfolding number
number_read signed bits x at end front back fits k =
    let c = cursor at (front ++ back) end in
    let whole : number_at signed bits (window c) ≡ Number x.1 (length front) = ap (number_at signed bits) (front_window at end front back fits) ∙ spelling_read signed bits x.1 front (take (end - at - length front) back) k.1 in
    ap (from_reading c) whole ∙ ap (λ (d : Cursor). Got (at, x.1) d) (past_front at end front back) ∙ ap (λ (o : ℕ). Got (o, x.1) (cursor (at + length front) back end)) (sym k.0)

pub number_spelt : (signed : Bool) (bits : ℕ) → Spelt (number_is signed bits) Always (number signed bits)
unfolding number
number_spelt signed bits = record {
  sound = λ c ready. reading_found signed bits c (number_at signed bits (window c)) ready (reading_means signed bits (window c) (window_bytes c ready));
  complete = λ x h. record { by = number_read signed bits x };
}

-- unsigned numbers are naturals
last_natural : (bits b : ℕ) (n : ℤ) → IsLastByte false bits b n → n ≡ pos (nat_of n)
last_natural bits b n h = h.2 ∙ ap pos (sym (ap nat_of h.2))

higher : (b m : ℕ) → pos (b - 128) +ℤ (pos 128 *ℤ pos m) ≡ pos (b - 128 + 128 * m)
higher b m = refl

pub natural : (bits : ℕ) (n : ℤ) (bytes : List ℕ) → Spells n bits false bytes → n ≡ pos (nat_of n)
natural bits n [] h = absurd h
natural bits n (b ∷ []) h = last_natural bits b n h
natural bits n (b ∷ c ∷ bytes) h =
    let m = natural (bits - 7) h.3 (c ∷ bytes) h.4 in
    let e : n ≡ pos (b - 128 + 128 * nat_of h.3) = h.5 ∙ ap (λ (z : ℤ). pos (b - 128) +ℤ (pos 128 *ℤ z)) m ∙ higher b (nat_of h.3) in
    e ∙ ap pos (sym (ap nat_of e))

u32_found : (c : Cursor) (x : Read (ℕ × ℤ)) → IfGot (λ n d. Found (number_is false 32 n) (Always n) c d) x → IfGot (λ n d. Found (u32_is n) (Always n) c d) (then_go x (λ n. done (n.0, nat_of n.1)))
u32_found c (Got n d) p = found_as (u32_is (n.0, nat_of n.1)) (Unit {0}) c d p (λ at bytes s. (s.0, subst (λ (z : ℤ). Spells z 32 false bytes) (natural 32 n.1 bytes s.1) s.1)) tt
u32_found c (Fault r) p = tt
u32_found c Wants p = tt

pub u32_spelt : Spelt u32_is Always u32
unfolding u32
u32_spelt = record {
  sound = λ c ready. u32_found c (number false 32 c) ((number_spelt false 32).sound c ready);
  complete = λ x h. reads_last (number false 32) (λ n. (n.0, nat_of n.1)) (x.0, pos x.1) (u32_is x) ((number_spelt false 32).complete (x.0, pos x.1) tt);
}

-- ---- runs of bytes

run_found : (n : ℕ) (c : Cursor) → Ready c → IfGot (λ bytes d. Found (exactly bytes) (length bytes ≡ n) c d) (run n c)
unfolding run
run_found n c ready =
    elim (cases_lt (length (window c)) n) [
      | inl lt ↦ rw (lt-ltb (length (window c)) n lt) (cut_got _ _ c)
      | inr ge ↦ rw (le-ltb (length (window c)) n ge) (found_front (exactly (take n (window c))) (length (take n (window c)) ≡ n) c n ready ge refl (omega (arith, length-take n (window c))))
    ]

run_read : (n : ℕ) (x : List ℕ) → length x ≡ n → (at end : ℕ) (front back : List ℕ) → at + length front ≤ end → front ≡ x → run n (cursor at (front ++ back) end) ≡ Got x (cursor (at + length front) back end)
unfolding run
run_read n x len at end front back fits e =
    let w = front_window at end front back fits in
    let size : length front ≡ n = ap length e ∙ len in
    rw (w, le-ltb (length (front ++ take (end - at - length front) back)) n (omega (arith, length-append front (take (end - at - length front) back))), take_at front (take (end - at - length front) back) n size, ← size, past_front at end front back, e) refl

pub run_spelt : (n : ℕ) → Spelt exactly (λ bytes. length bytes ≡ n) (run n)
run_spelt n = record { sound = λ c ready. run_found n c ready; complete = λ x len. record { by = run_read n x len } }

-- ---- given bytes

agree_read : (bytes more : List ℕ) → agree bytes (bytes ++ more) ≡ true
agree_read [] more = refl
agree_read (b ∷ bytes) more = and_from (eqb b b) (agree bytes (bytes ++ more)) (eq-eqb b b refl) (agree_read bytes more)

agree_found : (bytes w : List ℕ) → agree bytes w ≡ true → length bytes ≤ length w → take (length bytes) w ≡ bytes
agree_found [] w e h = refl
agree_found (b ∷ bytes) [] e h = absurd (omega arith)
agree_found (b ∷ bytes) (x ∷ w) e h =
    let p = and_parts (eqb b x) (agree bytes w) e in
    ap (λ (l : List ℕ). x ∷ l) (agree_found bytes w p.1 (omega arith)) ∙ ap (λ (y : ℕ). y ∷ bytes) (sym (eqb-true b x p.0))

pub fixed_found : (bytes : List ℕ) (c : Cursor) → Ready c → IfGot (λ at d. Found (exactly bytes) (at ≡ c.at) c d) (fixed bytes c)
unfolding fixed
fixed_found bytes c ready =
    elim (cases_Bool (agree bytes (window c))) [
      | inr other ↦ rw other tt
      | inl same ↦ rw same (elim (cases_lt (length (window c)) (length bytes)) [
        | inl lt ↦ rw (lt-ltb (length (window c)) (length bytes) lt) (cut_got _ _ c)
        | inr ge ↦ rw (le-ltb (length (window c)) (length bytes) ge) (found_front (exactly bytes) (c.at ≡ c.at) c (length bytes) ready ge (agree_found bytes (window c) same ge) refl)
      ])
    ]

pub fixed_read : (bytes : List ℕ) (at end : ℕ) (front back : List ℕ) → at + length front ≤ end → front ≡ bytes → fixed bytes (cursor at (front ++ back) end) ≡ Got at (cursor (at + length front) back end)
unfolding fixed
fixed_read bytes at end front back fits e =
    let more = take (end - at - length front) back in
    let w : window (cursor at (front ++ back) end) ≡ bytes ++ more = front_window at end front back fits ∙ ap (λ (l : List ℕ). l ++ more) e in
    rw (w, agree_read bytes more, le-ltb (length (bytes ++ more)) (length bytes) (omega (arith, length-append bytes more)), ← (ap length e), past_front at end front back) refl
