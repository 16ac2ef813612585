-- The direction of a copy, by its two addresses.
use Rattle.std.proofs.Common.{◌≡◌, ℕ, ◌+◌, ◌<◌, ◌≤◌, Bool, if◌then◌else◌, List, ◌++◌, take, drop, length, Option, None, Some, inl, inr, sym, refl, subst, arith, length-take, length-drop}
use Rattle.std.proofs.lemmas.Bool.{cases_lt, le-leb, lt-leb}
use Rattle.wasm_defs.specs.Memory.{bytes_at, copied_at, written_with}

module _ (source now : List ℕ) (d from n have size : ℕ) (source_size : length source ≡ have) (size_is : length now ≡ size) (P : Option (List ℕ) → Type 0) where
  abbrev bytes : List ℕ
  bytes = take n (drop from source)

  abbrev behind : List ℕ
  behind = take d now ++ (bytes ++ drop (d + length bytes) now)

  count : from + n ≤ have → length (take n (drop from source)) ≡ n
  count within = omega (arith, length-take n (drop from source), length-drop from source, source_size)

  reads : from + n ≤ have → bytes_at source from n ≡ Some (take n (drop from source))
  reads within = rw (le-leb (from + n) (length source) (omega (arith, source_size))) refl

  reads_none : have < from + n → bytes_at source from n ≡ None
  reads_none large = rw (lt-leb (from + n) (length source) (omega (arith, source_size))) refl

  pub by_bounds : (have < from + n → P None) → (from + n ≤ have → size < d + n → P None)
      → (from + n ≤ have → d + n ≤ size → P (Some (take d now ++ (take n (drop from source) ++ drop (d + length (take n (drop from source))) now))))
      → P (copied_at source now d from n)
  by_bounds no_source no_place fits =
      elim (cases_lt have (from + n)) [
        | inl large ↦ subst (λ (o : Option (List ℕ)). P (written_with now d o)) (sym (reads_none large)) (no_source large)
        | inr within ↦ subst (λ (o : Option (List ℕ)). P (written_with now d o)) (sym (reads within)) (by_place within)
      ]
    where
      by_place : from + n ≤ have → P (written_with now d (Some bytes))
      by_place within =
          elim (cases_lt size (d + n)) [
            | inl far ↦ subst (λ (t : Bool). P (if t then Some behind else None)) (sym (lt-leb (d + length bytes) (length now) (omega (arith, count within, size_is)))) (no_place within far)
            | inr inside ↦ subst (λ (t : Bool). P (if t then Some behind else None)) (sym (le-leb (d + length bytes) (length now) (omega (arith, count within, size_is)))) (fits within inside)
          ]
