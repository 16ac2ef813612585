-- What is written of a list whose bytes are written piece by piece.
use Rattle.std.proofs.Common.{◌≡◌, ◌∙◌, ◌+◌, ◌++◌, ℕ, Bool, true, false, List, Option, take, drop, ap, sym, subst}
use Rattle.std.specs.List.{flat_map}
use Rattle.std.proofs.Math.Seq.{take-add}
use Rattle.std.proofs.lemmas.Grind.{flat_map-append}
use Rattle.std.proofs.lemmas.List.{take-append-drop}
use Rattle.io_edges.specs.Streams.{WritesText}
use Rattle.image_run.proofs.PrintLaws.{writes_then, fails_first}

module _ {A : Type 0} (spell : A → List ℕ) where
  more : (items : List A) (from n : ℕ) → flat_map spell (take (from + n) items) ≡ flat_map spell (take from items) ++ flat_map spell (take n (drop from items))
  more items from n = ap (flat_map spell) (take-add from n items) ∙ flat_map-append spell (take from items) (take n (drop from items))

  apart : (items : List A) (from : ℕ) → flat_map spell items ≡ flat_map spell (take from items) ++ flat_map spell (drop from items)
  apart items from = ap (flat_map spell) (sym (take-append-drop from items)) ∙ flat_map-append spell (take from items) (drop from items)

  -- after the bytes of the first items, a piece with those of some more
  pub piece_step : (r : Bool) (items part : List A) (from n : ℕ) (held piece : List ℕ) (old between new : Option (List ℕ)) (before middle now : ℕ)
      → part ≡ drop from items → held ≡ flat_map spell (take n part) → piece ≡ held
      → WritesText true (flat_map spell (take from items)) old between before middle → WritesText r piece between new middle now
      → WritesText r (flat_map spell (take (from + n) items)) old new before now
  piece_step r items part from n held piece old between new before middle now rest holds same first second =
      let is : piece ≡ flat_map spell (take n (drop from items)) = same ∙ holds ∙ ap (λ (l : List A). flat_map spell (take n l)) rest in
      let here = subst (λ (l : List ℕ). WritesText r l between new middle now) is second in
      subst (λ (l : List ℕ). WritesText r l old new before now) (sym (more items from n))
      (writes_then r (flat_map spell (take from items)) (flat_map spell (take n (drop from items))) old between new before middle now first here)

  -- where the sink failed at the bytes of the first items
  pub piece_failed : (items : List A) (from : ℕ) (old new : Option (List ℕ)) (before now : ℕ) → WritesText false (flat_map spell (take from items)) old new before now → WritesText false (flat_map spell items) old new before now
  piece_failed items from old new before now h =
      subst (λ (l : List ℕ). WritesText false l old new before now) (sym (apart items from))
      (fails_first (flat_map spell (take from items)) (flat_map spell (drop from items)) old new before now h)
