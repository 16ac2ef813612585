-- Sizes that are read byte by byte, and bodies piece by piece, are those that are read whole.
use Rattle.std.proofs.Common.{◌≡◌, ℕ, suc, ◌+◌, ◌-◌, ◌^◌, ◌<◌, ◌≤◌, inl, inr, true, false, ltb, leb, eqb, ◌||◌, Option, Some, None, List, [], ◌∷◌, ◌++◌, length, take, drop, refl, sym, ap, ◌∙◌, arith, ℤ, pos, length-append}
use Rattle.std.proofs.lemmas.Bool.{cases_lt, lt-ltb, le-ltb, le-leb, lt-leb, ne_eqb, cases_Bool}
use Rattle.std.proofs.lemmas.List.{take_all, append-nil}
use Rattle.std.proofs.Math.Seq.{take-append_seam, drop-append_seam, take-append-add}
use Rattle.wasm_defs.specs.declared.fault.Kind.{Kind}
use Rattle.wasm_defs.specs.declared.fault.Kind.TheVariants.{Malformed}
use Rattle.wasm_defs.specs.Limits.{max_body}
use Rattle.wasm_defs.specs.Numbers.{Reading, Number, CutOff, Bad, Spells, number_at, after_byte}
use Rattle.wasm_defs.specs.Fields.{Cursor, Got, u32, number, room, run, here}
use Rattle.wasm_defs.specs.Outside.{Part, Coded, body, section_end}
use Rattle.body_cutter.specs.Sections.{Given, Faulty, Whole, Owed, ends, with_part, goes_on, bodies_from, sized, size_fault}

-- ---- numbers: what is decided stays

spelled_front : (n : ℤ) (bits : ℕ) (bytes more : List ℕ) → Spells n bits false bytes → number_at false bits (bytes ++ more) ≡ Number n (length bytes)
unfolding number_at
spelled_front n bits [] more p = absurd p
spelled_front n bits (b ∷ []) more p = rw (lt-ltb b 128 p.0, lt-ltb b (2 ^ bits) p.1) (ap (λ (z : ℤ). Number z 1) (sym p.2))
spelled_front n bits (b ∷ c ∷ bytes) more p =
    let k : length (c ∷ bytes) + 1 ≡ length (b ∷ c ∷ bytes) = omega arith in
    rw (le-ltb b 128 p.0, lt-ltb 7 bits p.2, spelled_front p.3 (bits - 7) (c ∷ bytes) more p.4, k) (ap (λ (z : ℤ). Number z (length (b ∷ c ∷ bytes))) (sym p.5))

after_bad : (b : ℕ) (r : Reading) → after_byte b r ≡ Bad → r ≡ Bad
after_bad b (Number m len) e = absurd cc
after_bad b CutOff e = absurd cc
after_bad b Bad e = refl

bad_front : (bits : ℕ) (bytes more : List ℕ) → number_at false bits bytes ≡ Bad → number_at false bits (bytes ++ more) ≡ Bad
unfolding number_at
bad_front bits [] more e = absurd cc
bad_front bits (b ∷ bytes) more e =
    elim (cases_lt b 128) [
      | inl low ↦ rw (lt-ltb b 128 low) (rw (lt-ltb b 128 low) at e)
      | inr high ↦ let t = rw (le-ltb b 128 high) at e in rw (le-ltb b 128 high) (elim (cases_lt 7 bits) [
        | inl wide ↦ let u = rw (lt-ltb 7 bits wide) at t in rw (lt-ltb 7 bits wide, bad_front (bits - 7) bytes more (after_bad b (number_at false (bits - 7) bytes) u)) refl
        | inr narrow ↦ rw (le-ltb 7 bits narrow) refl
      ])
    ]

-- ---- windows

-- a prefix that is in the section
window_front : (front more : List ℕ) (n : ℕ) → length front ≤ n → take n (front ++ more) ≡ front ++ take (n - length front) more
window_front front more n le =
    let e : length front + (n - length front) ≡ n = omega arith in
    ap (λ (k : ℕ). take k (front ++ more)) (sym e) ∙ take-append-add front more (n - length front)

window_whole : (front more : List ℕ) (n : ℕ) → length front ≡ n → take n (front ++ more) ≡ front
window_whole front more n e = ap (λ (k : ℕ). take k (front ++ more)) (sym e) ∙ take-append_seam front more

abbrev pub from_there : ℕ → List ℕ → ℕ → Cursor
from_there at rest end = record { at = at; rest = rest; end = end }

abbrev pub malformed : ℕ → Given
malformed at = ends (Faulty (record { offset = at; kind = Malformed }))

module _ (index n at end : ℕ) (front more : List ℕ) where
  -- a size that the section's end cuts off
  pub cut_size : length front ≡ end - at → number_at false 32 front ≡ CutOff → bodies_from index (suc n) (from_there at (front ++ more) end) ≡ malformed at
  unfolding bodies_from body u32 number
  cut_size e cut =
      let all = window_whole front more (end - at) e in
      let le : leb (end - at) (length (front ++ more)) ≡ true = le-leb (end - at) (length (front ++ more)) (omega (arith, length-append front more)) in
      rw (all, cut, le) refl

  -- bytes that begin no size
  pub bad_size : length front ≤ end - at → number_at false 32 front ≡ Bad → bodies_from index (suc n) (from_there at (front ++ more) end) ≡ malformed at
  unfolding bodies_from body u32 number
  bad_size le bad =
      let part = window_front front more (end - at) le in
      rw (part, bad_front 32 front (take (end - at - length front) more) bad) refl

  module _ (v : ℕ) (spelled : Spells (pos v) 32 false front) (le : length front ≤ end - at) where
    size_read : u32 (from_there at (front ++ more) end) ≡ Got (at, v) (from_there (at + length front) more end)
    unfolding u32 number
    size_read =
        let part = window_front front more (end - at) le in
        rw (part, spelled_front (pos v) 32 front (take (end - at - length front) more) spelled, drop-append_seam front more) refl

    -- what follows a size that is right, and that is wrong
    abbrev pub after_size : Option Kind → Given
    after_size (Some kind) = ends (Faulty (record { offset = at; kind = kind }))
    after_size None = goes_on (sized at v (from_there (at + length front) more end)) (λ part d. with_part index part (bodies_from (suc index) n d))

    pub whole_size : bodies_from index (suc n) (from_there at (front ++ more) end) ≡ after_size (size_fault v (end - (at + length front)))
    unfolding bodies_from body room sized
    whole_size =
        let left = end - (at + length front) in
        elim (cases_Bool (ltb v 2 || ltb left v)) [
          | inl wrong ↦ rw (size_read, wrong) refl
          | inr right ↦ elim (cases_Bool (ltb max_body v)) [
            | inl large ↦ rw (size_read, right, large) refl
            | inr small ↦ rw (size_read, right, small) refl
          ]
        ]

-- ---- bodies

-- a body whose bytes are all there
pub body_read : (size len first end : ℕ) (bytes more : List ℕ) → length bytes ≡ len → first + len ≤ end
    → sized size len (from_there first (bytes ++ more) end) ≡ Got (Coded (record { counted = false; size = size; first = first; bytes = bytes })) (from_there (first + len) more end)
unfolding sized here run
body_read size len first end bytes more e le =
    let within : length bytes ≤ end - first = omega arith in
    let part = window_front bytes more (end - first) within in
    let long : ltb (length (bytes ++ take (end - first - length bytes) more)) len ≡ false = le-ltb (length (bytes ++ take (end - first - length bytes) more)) len (omega (arith, length-append bytes (take (end - first - length bytes) more))) in
    let taken : take len (bytes ++ take (end - first - length bytes) more) ≡ bytes = window_whole bytes (take (end - first - length bytes) more) len e in
    let left : drop len (bytes ++ more) ≡ more = ap (λ (k : ℕ). drop k (bytes ++ more)) (sym e) ∙ drop-append_seam bytes more in
    rw (part, long, taken, left) refl

-- ---- after the last body

pub whole_section : (index end : ℕ) (more : List ℕ) → bodies_from index 0 (from_there end more end) ≡ ends Whole
unfolding bodies_from section_end
whole_section index end more = let e : end - end ≡ 0 = omega arith in rw e refl

pub left_over : (index at end b : ℕ) (more : List ℕ) → at < end → bodies_from index 0 (from_there at (b ∷ more) end) ≡ malformed at
unfolding bodies_from section_end
left_over index at end b more lt = let e : eqb (end - at) 0 ≡ false = ne_eqb (end - at) 0 (λ h. omega arith) in rw e refl

-- ---- what the bytes that came leave open

-- where a size is owed, and the section has room for it
pub size_owed : (index n at end : ℕ) (front : List ℕ) → length front < end - at → number_at false 32 front ≡ CutOff → bodies_from index (suc n) (from_there at (front ++ []) end) ≡ ends Owed
unfolding bodies_from body u32 number
size_owed index n at end front room cut =
    let all : take (end - at) (front ++ []) ≡ front = ap (take (end - at)) (append-nil front) ∙ take_all (end - at) front (omega arith) in
    let more : leb (end - at) (length (front ++ [])) ≡ false = lt-leb (end - at) (length (front ++ [])) (omega (arith, length-append front [])) in
    rw (all, cut, more) refl

-- where a body is owed, and the section has room for it
pub body_owed : (size len first end : ℕ) (bytes : List ℕ) (next : Part → Cursor → Given) → length bytes < len → first + len ≤ end → goes_on (sized size len (from_there first (bytes ++ []) end)) next ≡ ends Owed
unfolding sized here run
body_owed size len first end bytes next short le =
    let all : take (end - first) (bytes ++ []) ≡ bytes = ap (take (end - first)) (append-nil bytes) ∙ take_all (end - first) bytes (omega arith) in
    let few : ltb (length bytes) len ≡ true = lt-ltb (length bytes) len short in
    let more : leb (end - first) (length (bytes ++ [])) ≡ false = lt-leb (end - first) (length (bytes ++ [])) (omega (arith, length-append bytes [])) in
    rw (all, few, more) refl

pub nothing_left : (index at end : ℕ) → at < end → bodies_from index 0 (from_there at [] end) ≡ ends Owed
unfolding bodies_from section_end
nothing_left index at end lt = let e : eqb (end - at) 0 ≡ false = ne_eqb (end - at) 0 (λ h. omega arith) in rw e refl

-- an encoding that is cut off is read so
pub cut_read : (n : ℤ) (bits : ℕ) (bytes : List ℕ) (c : ℕ) (more : List ℕ) → Spells n bits false (bytes ++ c ∷ more) → number_at false bits bytes ≡ CutOff
unfolding number_at
cut_read n bits [] c more p = refl
cut_read n bits (b ∷ []) c more p = rw (le-ltb b 128 p.0, lt-ltb 7 bits p.2) refl
cut_read n bits (b ∷ d ∷ bytes) c more p = rw (le-ltb b 128 p.0, lt-ltb 7 bits p.2, cut_read p.3 (bits - 7) (d ∷ bytes) c more p.4) refl
