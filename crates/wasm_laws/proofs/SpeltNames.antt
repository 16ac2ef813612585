-- Names are read as they are encoded.
use Rattle.std.proofs.Common.{◌≡◌, ◌≤◌, ℕ, ◌+◌, ◌-◌, ℤ, pos, true, false, ltb, List, ◌++◌, length, take, drop, refl, sym, ap, subst, ◌∙◌, append_assoc, arith, length-append, length-take, length-drop, inl, inr}
use Rattle.std.proofs.lemmas.Bool.{cases_Bool, le-ltb}
use Rattle.std.proofs.lemmas.List.{take-take, take-append-drop, drop_at, take_at, drop-take}
use Rattle.wasm_defs.proofs.NumberLaws.{reading_means}
use Rattle.wasm_defs.specs.Numbers.{Spells, Reading, Number, CutOff, Bad, Means, number_at}
use Rattle.wasm_defs.specs.Limits.{max_name}
use Rattle.wasm_defs.specs.Text.{between, completes}
use Rattle.wasm_defs.specs.Fields.{Cursor, Got, nat_of, past, room_of, window, text_after, least, length_owed, name_from, name}
use Rattle.wasm_defs.specs.Items.{u32_is, name_is}
use Rattle.wasm_laws.proofs.Steady.{IfGot}
use Rattle.wasm_laws.proofs.Names.{text_outcome}
use Rattle.wasm_laws.proofs.Utf8.{utf8_completes, completes_utf8}
use Rattle.wasm_laws.proofs.Spelt.{cursor, Ready, Found, Spelt}
use Rattle.wasm_laws.proofs.SpeltFields.{found_front, front_window, past_front, window_bytes, spelling_read, natural}

abbrev pub IsShort : ℕ × List ℕ → Type 0
IsShort name = length name.1 ≤ max_name

-- ---- sound

-- a length of so many bytes, and the text after it
name_spelled : (at m len : ℕ) (n : ℤ) (w : List ℕ) → n ≡ pos m → Spells n 32 false (take len w) → length (take m (drop len w)) ≡ m → completes m between (take m (drop len w)) ≡ true → name_is (at, take m (drop len w)) at (take (len + m) w)
name_spelled at m len n w is spelled size right =
    let text = take m (drop len w) in (
      completes_utf8 text (subst (λ (k : ℕ). completes k between text ≡ true) (sym size) right),
      record {
        front = take len w;
        content = text;
        parts = sym (take-append-drop len (take (len + m) w)) ∙ ap (λ (l : List ℕ). l ++ drop len (take (len + m) w)) (take-take len (len + m) w (omega arith)) ∙ ap (λ (l : List ℕ). take len w ++ l) (drop-take len m w);
        size = (refl, subst (λ (z : ℤ). Spells z 32 false (take len w)) (is ∙ ap pos (sym size)) spelled);
        is = refl;
      },
    )

text_found : (c : Cursor) (n : ℤ) (len : ℕ) → Ready c → len ≤ length (window c) → Spells n 32 false (take len (window c)) → IfGot (λ x d. Found (name_is x) (IsShort x) c d) (text_after len (nat_of n) c)
text_found c n len ready h spelled =
    let m = nat_of n in
    let w = window c in
    let text = take m (drop len w) in
    let short = length-take m (drop len w) in
    let left = length-drop len w in
    text_outcome (IfGot (λ x d. Found (name_is x) (IsShort x) c d)) len m c tt tt (λ fits right lt. tt)
    (λ fits right ge under.
    let size : length text ≡ m = omega arith in
    found_front (name_is (c.at, text)) (IsShort (c.at, text)) c (len + m) ready (omega arith) (name_spelled c.at m len n w (natural 32 n (take len w) spelled) spelled size right) (omega arith))

owed_found : (c : Cursor) → IfGot (λ x d. Found (name_is x) (IsShort x) c d) (length_owed c)
owed_found c =
    elim (cases_Bool (ltb (room_of c) (length (window c) + 1 + least (window c)))) [
      | inl long ↦ rw long tt
      | inr fits ↦ rw fits tt
    ]

name_found : (c : Cursor) (r : Reading) → Ready c → Means false 32 (window c) r → IfGot (λ x d. Found (name_is x) (IsShort x) c d) (name_from c r)
name_found c (Number n len) ready h = text_found c n len ready h.0 h.1
name_found c CutOff ready h = owed_found c
name_found c Bad ready h = tt

-- ---- complete

text_read : (len : ℕ) (text : List ℕ) (c : Cursor) → take (length text) (drop len (window c)) ≡ text → len + length text ≤ room_of c → completes (length text) between text ≡ true → length text ≤ max_name → text_after len (length text) c ≡ Got (c.at, text) (past c (len + length text))
text_read len text c is fits right small = rw (is, le-ltb (room_of c) (len + length text) fits, right, le-ltb (length text) (length text) (omega arith), le-ltb max_name (length text) small) refl

name_at : (at end : ℕ) (f text back : List ℕ) → at + length (f ++ text) ≤ end → u32_is (at, length text) at f → completes (length text) between text ≡ true → length text ≤ max_name → name (cursor at ((f ++ text) ++ back) end) ≡ Got (at, text) (cursor (at + length (f ++ text)) back end)
unfolding name
name_at at end f text back fits n right small =
    let c = cursor at ((f ++ text) ++ back) end in
    let more = take (end - at - length (f ++ text)) back in
    let len = length-append f text in
    let w : window c ≡ f ++ (text ++ more) = front_window at end (f ++ text) back fits ∙ append_assoc f text more in
    let size : number_at false 32 (window c) ≡ Number (pos (length text)) (length f) = ap (number_at false 32) w ∙ spelling_read false 32 (pos (length text)) f (text ++ more) n.1 in
    let is : take (length text) (drop (length f) (window c)) ≡ text =
    ap (λ (l : List ℕ). take (length text) (drop (length f) l)) w ∙ ap (take (length text)) (drop_at f (text ++ more) (length f) refl) ∙ take_at text more (length text) refl in
    ap (name_from c) size ∙ text_read (length f) text c is (omega arith) right small ∙ ap (λ (k : ℕ). Got (at, text) (past c k)) (sym len) ∙ ap (λ (d : Cursor). Got (at, text) d) (past_front at end (f ++ text) back)

name_read : (x : ℕ × List ℕ) → IsShort x → (at end : ℕ) (front back : List ℕ) → at + length front ≤ end → name_is x at front → name (cursor at (front ++ back) end) ≡ Got x (cursor (at + length front) back end)
name_read x small at end front back fits h =
    let s = h.1 in
    let whole : front ≡ s.front ++ x.1 = s.parts ∙ ap (λ (l : List ℕ). s.front ++ l) s.is in
    let here : x.0 ≡ at = s.size.0 in
    let size : u32_is (at, length x.1) at s.front = (refl, subst (λ (l : List ℕ). Spells (pos (length l)) 32 false s.front) s.is s.size.1) in
    rw (whole, here) (name_at at end s.front x.1 back (omega (arith, ap length whole)) size (utf8_completes x.1 h.0) small)

pub name_spelt : Spelt name_is IsShort name
unfolding name
name_spelt = record {
  sound = λ c ready. name_found c (number_at false 32 (window c)) ready (reading_means false 32 (window c) (window_bytes c ready));
  complete = λ x small. record { by = name_read x small };
}
