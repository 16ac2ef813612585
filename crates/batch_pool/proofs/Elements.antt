-- The element of a list at an index.
use Rattle.std.proofs.Common.{◌≡◌, ◌≢◌, ◌⊎◌, inl, inr, ◌<◌, ℕ, zero, suc, List, [], ◌∷◌, ◌++◌, length, Some, slice_get, refl, ap, arith}
use Rattle.std.proofs.Math.ListN.{set}

pub some_one : {X : Type 0} (xs : List X) (k : ℕ) (x y : X) → slice_get xs k ≡ Some x → slice_get xs k ≡ Some y → x ≡ y
some_one xs k x y a b = cc

pub element_at : {X : Type 0} (xs : List X) (k : ℕ) → k < length xs → (x : X) × (slice_get xs k ≡ Some x)
element_at [] k in' = absurd (omega arith)
element_at (x ∷ xs) zero in' = (x, refl)
element_at (x ∷ xs) (suc k) in' = element_at xs k (omega arith)

-- ---- one element is set

pub slice_set_same : {X : Type 0} (xs : List X) (k : ℕ) (x : X) → k < length xs → slice_get (set xs k x) k ≡ Some x
slice_set_same [] k x in' = absurd (omega arith)
slice_set_same (y ∷ xs) zero x in' = refl
slice_set_same (y ∷ xs) (suc k) x in' = slice_set_same xs k x (omega arith)

pub slice_set_other : {X : Type 0} (xs : List X) (j k : ℕ) (x : X) → j ≢ k → slice_get (set xs k x) j ≡ slice_get xs j
slice_set_other [] j k x other = refl
slice_set_other (y ∷ xs) zero zero x other = absurd (other refl)
slice_set_other (y ∷ xs) zero (suc k) x other = refl
slice_set_other (y ∷ xs) (suc j) zero x other = refl
slice_set_other (y ∷ xs) (suc j) (suc k) x other = slice_set_other xs j k x (λ e. other (ap suc e))

-- ---- two lists

pub slice_front : {X : Type 0} (xs ys : List X) (x : X) (i : ℕ) → slice_get xs i ≡ Some x → slice_get (xs ++ ys) i ≡ Some x
slice_front [] ys x i at = absurd cc
slice_front (z ∷ xs) ys x zero at = at
slice_front (z ∷ xs) ys x (suc i) at = slice_front xs ys x i at

-- the first element after some
pub slice_next : {X : Type 0} (xs ys : List X) (x : X) → slice_get (xs ++ x ∷ ys) (length xs) ≡ Some x
slice_next [] ys x = refl
slice_next (z ∷ xs) ys x = slice_next xs ys x

-- an element of a list with one more
pub slice_push : {X : Type 0} (xs : List X) (x y : X) (i : ℕ) → slice_get (xs ++ x ∷ []) i ≡ Some y → (slice_get xs i ≡ Some y) ⊎ ((i ≡ length xs) × (x ≡ y))
slice_push [] x y zero at = inr (refl, cc)
slice_push [] x y (suc i) at = absurd cc
slice_push (z ∷ xs) x y zero at = inl at
slice_push (z ∷ xs) x y (suc i) at = of (slice_push xs x y i at)
  where
    of : (slice_get xs i ≡ Some y) ⊎ ((i ≡ length xs) × (x ≡ y)) → (slice_get xs i ≡ Some y) ⊎ ((suc i ≡ suc (length xs)) × (x ≡ y))
    of (inl h) = inl h
    of (inr h) = inr (ap suc h.0, h.1)
