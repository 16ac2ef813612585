-- Segments that are written over zeros, one after another.
use Rattle.std.proofs.Common.{◌≡◌, ℕ, ◌+◌, ◌-◌, ◌≤◌, true, List, [], ◌∷◌, ◌++◌, drop, take, length, refl, sym, ap, ◌∙◌, append_assoc, arith, length-append, length-take, length-drop}
use Rattle.std.specs.Prelude.{nat_le, IsTrue}
use Rattle.std.proofs.lemmas.Bool.{and_parts, leb-true, le-leb}
use Rattle.wasm_defs.specs.Instances.{over, all_over, all_fit}
use Rattle.image_format.specs.declared.image.Segment.{Segment}
use Rattle.image_format.specs.Environment.{segments_of}
use Rattle.std.specs.Prelude.{replicate}
use Rattle.std.proofs.lemmas.List.{take-append-le, drop-append-le, replicate-append-replicate, length-replicate}
use Rattle.image_run.specs.States.{zeros}

-- these bytes, with the rest of the segments still to be written, are the memory with all of them
pub record Placing (size : ℕ) (all : List Segment) (bytes : List ℕ) (rest : List Segment) : Type 0 where
  pub filled : length bytes ≡ size
  pub fit : all_fit size (segments_of rest) ≡ true
  pub whole : all_over bytes (segments_of rest) ≡ all_over (zeros size) (segments_of all)

length-over : (old new : List ℕ) (at : ℕ) → at + length new ≤ length old → length (over old (at, new)) ≡ length old
length-over old new at inside =
    omega (arith, length-append (take at old) (new ++ drop (at + length new) old), length-append new (drop (at + length new) old), length-take at old, length-drop (at + length new) old)

-- a memory with segments has its size
pub length-all_over : (size : ℕ) (bytes : List ℕ) (segments : List Segment) → length bytes ≡ size → all_fit size (segments_of segments) ≡ true → length (all_over bytes (segments_of segments)) ≡ size
length-all_over size bytes [] is fit = is
length-all_over size bytes (s ∷ later) is fit =
    let parts = and_parts (nat_le (s.place + length s.bytes) size) (all_fit size (segments_of later)) fit in
    let inside : s.place + length s.bytes ≤ length bytes = omega (arith, leb-true (s.place + length s.bytes) size parts.0, is) in
    length-all_over size (over bytes (s.place, s.bytes)) later (length-over bytes s.bytes s.place inside ∙ is) parts.1

-- segments that fit in the first bytes fit in all
pub all_fit-more : (first size : ℕ) (segments : List Segment) → first ≤ size → all_fit first (segments_of segments) ≡ true → all_fit size (segments_of segments) ≡ true
all_fit-more first size [] more fit = refl
all_fit-more first size (s ∷ later) more fit =
    let parts = and_parts (nat_le (s.place + length s.bytes) first) (all_fit first (segments_of later)) fit in
    let here : nat_le (s.place + length s.bytes) size ≡ true = le-leb (s.place + length s.bytes) size (omega (arith, leb-true (s.place + length s.bytes) first parts.0, more)) in
    rw (here, all_fit-more first size later more parts.1) refl

-- segments that fit in the first bytes leave those after them
over_front : (front rest new : List ℕ) (at : ℕ) → at + length new ≤ length front → over (front ++ rest) (at, new) ≡ over front (at, new) ++ rest
over_front front rest new at inside =
    let before : take at (front ++ rest) ≡ take at front = take-append-le at front rest (omega arith) in
    let behind : drop (at + length new) (front ++ rest) ≡ drop (at + length new) front ++ rest = drop-append-le (at + length new) front rest inside in
    rw (before, behind) (ap (λ (l : List ℕ). take at front ++ l) (sym (append_assoc new (drop (at + length new) front) rest)) ∙ sym (append_assoc (take at front) (new ++ drop (at + length new) front) rest))

all_over_front : (size : ℕ) (front rest : List ℕ) (segments : List Segment) → length front ≡ size → all_fit size (segments_of segments) ≡ true
    → all_over (front ++ rest) (segments_of segments) ≡ all_over front (segments_of segments) ++ rest
all_over_front size front rest [] is fit = refl
all_over_front size front rest (s ∷ later) is fit =
    let parts = and_parts (nat_le (s.place + length s.bytes) size) (all_fit size (segments_of later)) fit in
    let inside : s.place + length s.bytes ≤ length front = omega (arith, leb-true (s.place + length s.bytes) size parts.0, is) in
    ap (λ (l : List ℕ). all_over l (segments_of later)) (over_front front rest s.bytes s.place inside)
    ∙ all_over_front size (over front (s.place, s.bytes)) rest later (length-over front s.bytes s.place inside ∙ is) parts.1

-- the first bytes with all segments, and zeros after them, are a memory with all of them
pub over_more : (first size : ℕ) (segments : List Segment) (bytes : List ℕ) → first ≤ size → all_fit first (segments_of segments) ≡ true → length bytes ≡ first
    → bytes ≡ all_over (zeros first) (segments_of segments) → bytes ++ replicate (size - length bytes) 0 ≡ all_over (zeros size) (segments_of segments)
unfolding zeros
over_more first size segments bytes within fit long is =
    let rest = replicate (size - first) 0 in
    let count : first + (size - first) ≡ size = omega arith in
    let whole : zeros first ++ rest ≡ zeros size = replicate-append-replicate first (size - first) 0 ∙ ap (λ (n : ℕ). replicate n 0) count in
    ap (λ (n : ℕ). bytes ++ replicate (size - n) 0) long
    ∙ ap (λ (l : List ℕ). l ++ rest) is
    ∙ sym (all_over_front first (zeros first) rest segments (length-replicate first 0) fit)
    ∙ ap (λ (l : List ℕ). all_over l (segments_of segments)) whole

-- zeros, before the first segment is written
pub placing_begins : (first : ℕ) (all : List Segment) (bytes : List ℕ) → bytes ≡ zeros first → IsTrue (all_fit first (segments_of all)) → Placing first all bytes all
unfolding zeros
placing_begins first all bytes is fit = record {
  filled = ap length is ∙ length-replicate first 0;
  fit = fit;
  whole = ap (λ (l : List ℕ). all_over l (segments_of all)) is;
}

-- and all of them, after the last one
pub placing_ends : (first size : ℕ) (all : List Segment) (bytes : List ℕ) (rest : List Segment) → first ≤ size → rest ≡ [] → IsTrue (all_fit first (segments_of all)) → Placing first all bytes rest
    → bytes ++ replicate (size - length bytes) 0 ≡ all_over (zeros size) (segments_of all)
placing_ends first size all bytes rest within none fit h =
    let whole : bytes ≡ all_over (zeros first) (segments_of all) = ap (λ (l : List Segment). all_over bytes (segments_of l)) (sym none) ∙ h.whole in
    over_more first size all bytes within fit h.filled whole
