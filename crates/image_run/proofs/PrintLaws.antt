-- Texts that are written one after the other.
use Rattle.std.proofs.Common.{◌≡◌, ℕ, ◌+◌, Bool, true, false, List, ◌++◌, take, drop, length, Option, refl, sym, ap, ◌∙◌, subst, arith, length-append}
use Rattle.std.proofs.lemmas.List.{take_at, drop_at, take-append-le}
use Rattle.std.specs.Io.KnownBytes.{append_known}
use Rattle.io_edges.specs.Causes.{Rose}
use Rattle.io_edges.specs.Streams.{WritesText}
use Rattle.io_edges.proofs.Known.{append_more, take_step}

pub past : (first second : List ℕ) (n : ℕ) → take (length first + n) (first ++ second) ≡ first ++ take n second
past first second n =
    take_step (length first) n (first ++ second)
    ∙ ap (λ (l : List ℕ). l ++ take n (drop (length first) (first ++ second))) (take_at first second (length first) refl)
    ∙ ap (λ (l : List ℕ). first ++ take n l) (drop_at first second (length first) refl)

-- the first text was written whole
pub writes_then : (r : Bool) (first second : List ℕ) (old between new : Option (List ℕ)) (before middle now : ℕ) → WritesText true first old between before middle → WritesText r second between new middle now → WritesText r (first ++ second) old new before now
writes_then true first second old between new before middle now h g =
    (g.0 ∙ ap (λ (k : Option (List ℕ)). append_known k second) h.0 ∙ append_more old first second, g.1 ∙ h.1)
writes_then false first second old between new before middle now h g = (
  length first + g.0,
  g.1 ∙ ap (λ (k : Option (List ℕ)). append_known k (take g.0 second)) h.0 ∙ append_more old first (take g.0 second) ∙ ap (λ (l : List ℕ). append_known old l) (sym (past first second g.0)),
  subst (λ (n : ℕ). Rose n now) h.1 g.2,
  omega (arith, g.3, length-append first second),
)

-- it was not, and the second wasn't begun
pub fails_first : (first second : List ℕ) (old new : Option (List ℕ)) (before now : ℕ) → WritesText false first old new before now → WritesText false (first ++ second) old new before now
fails_first first second old new before now h = (
  h.0,
  h.1 ∙ ap (λ (l : List ℕ). append_known old l) (sym (take-append-le h.0 first second (omega (arith, h.3)))),
  h.2,
  omega (arith, h.3, length-append first second),
)
