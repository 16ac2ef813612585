-- Vectors of bytes, one after another.
use Rattle.std.proofs.Common.{◌≡◌, ℕ, zero, suc, ◌+◌, ◌-◌, ◌<◌, true, false, List, [], ◌++◌, length, Option, None, Some, refl, sym, ap, ◌∙◌, subst, arith, append_assoc, length-append}
use Rattle.std.specs.Prelude.{IsSome, option_map}
use Rattle.io_edges.specs.Streams.{WritesText}
use Rattle.io_edges.proofs.Known.{append_nothing}
use Rattle.image_run.proofs.PrintLaws.{writes_then, fails_first}
use Rattle.wasi_host.specs.Vectors.{prepended, gathered, joined, vector_at}

-- ---- how many bytes

before_next : (n : ℕ) → suc n - 1 ≡ n
before_next n = omega arith

added : (sum : ℕ) (v : List ℕ) (o : Option (List ℕ)) → option_map (λ n. sum + n) (option_map length (prepended v o)) ≡ option_map (λ n. (sum + length v) + n) (option_map length o)
added sum v None = refl
added sum v (Some l) = ap (λ (n : ℕ). Some n) (omega (arith, length-append v l))

pub summed : (memory : List ℕ) (address left sum : ℕ) (v : List ℕ) → 0 < left → Some v ≡ vector_at memory address
    → option_map (λ n. sum + n) (option_map length (gathered memory address left)) ≡ option_map (λ n. (sum + length v) + n) (option_map length (gathered memory (address + 8) (left - 1)))
summed memory address zero sum v more is = absurd (omega (arith, more))
summed memory address (suc left) sum v more is = rw (before_next left) (rw (sym is) (added sum v (gathered memory (address + 8) left)))

-- ---- what is written

-- the vectors before an address are written, and those from there on are in the memory
pub record Writing (memory : List ℕ) (iovs count address left : ℕ) (old now : Option (List ℕ)) (before after : ℕ) : Type 0 where
  pub done : List ℕ
  pub rest : List ℕ
  pub there : gathered memory address left ≡ Some rest
  pub whole : gathered memory iovs count ≡ Some (done ++ rest)
  pub wrote : WritesText true done old now before after

pub some_bytes : (o : Option (List ℕ)) → IsSome o → (bytes : List ℕ) × (o ≡ Some bytes)
some_bytes None h = absurd cc
some_bytes (Some bytes) h = (bytes, refl)

pub begun : (memory : List ℕ) (iovs count : ℕ) (text : List ℕ) (old : Option (List ℕ)) (before : ℕ) → gathered memory iovs count ≡ Some text → Writing memory iovs count iovs count old old before before
begun memory iovs count text old before h = record { done = []; rest = text; there = h; whole = h; wrote = (sym (append_nothing old), refl) }

record Parted (memory : List ℕ) (address left : ℕ) (v rest : List ℕ) : Type 0 where
  later : List ℕ
  there : gathered memory (address + 8) left ≡ Some later
  same : rest ≡ v ++ later

prepended_some : (v rest : List ℕ) (o : Option (List ℕ)) → prepended v o ≡ Some rest → (later : List ℕ) × (o ≡ Some later) × (rest ≡ v ++ later)
prepended_some v rest None h = absurd cc
prepended_some v rest (Some l) h = (l, refl, (let s : v ++ l ≡ rest = cc in sym s))

parted : (memory : List ℕ) (address left : ℕ) (v rest : List ℕ) → 0 < left → Some v ≡ vector_at memory address → gathered memory address left ≡ Some rest → Parted memory address (left - 1) v rest
parted memory address zero v rest more is h = absurd (omega (arith, more))
parted memory address (suc left) v rest more is h =
    let t : prepended v (gathered memory (address + 8) left) ≡ Some rest = subst (λ (o : Option (List ℕ)). joined o (gathered memory (address + 8) left) ≡ Some rest) (sym is) h in
    let b = prepended_some v rest (gathered memory (address + 8) left) t in
    record { later = b.0; there = rw (before_next left) b.1; same = b.2 }

pub went_on : (memory : List ℕ) (iovs count address left : ℕ) (v : List ℕ) (old now new : Option (List ℕ)) (before after last : ℕ) → Writing memory iovs count address left old now before after → 0 < left
    → Some v ≡ vector_at memory address → WritesText true v now new after last → Writing memory iovs count (address + 8) (left - 1) old new before last
went_on memory iovs count address left v old now new before after last w more is h =
    let p = parted memory address left v w.rest more is w.there in
    record {
      done = w.done ++ v;
      rest = p.later;
      there = p.there;
      whole = w.whole ∙ ap (λ (l : List ℕ). Some (w.done ++ l)) p.same ∙ ap (λ (l : List ℕ). Some l) (sym (append_assoc w.done v p.later));
      wrote = writes_then true w.done v old now new before after last w.wrote h;
    }

pub failed : (memory : List ℕ) (iovs count address left : ℕ) (v : List ℕ) (old now new : Option (List ℕ)) (before after last : ℕ) → Writing memory iovs count address left old now before after → 0 < left
    → Some v ≡ vector_at memory address → WritesText false v now new after last → (text : List ℕ) × (gathered memory iovs count ≡ Some text) × WritesText false text old new before last
failed memory iovs count address left v old now new before after last w more is h =
    let p = parted memory address left v w.rest more is w.there in (
      (w.done ++ v) ++ p.later,
      w.whole ∙ ap (λ (l : List ℕ). Some (w.done ++ l)) p.same ∙ ap (λ (l : List ℕ). Some l) (sym (append_assoc w.done v p.later)),
      fails_first (w.done ++ v) p.later old new before last (writes_then false w.done v old now new before after last w.wrote h),
    )
