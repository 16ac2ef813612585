-- Two lists whose elements belong together, in two parts.
use Rattle.std.proofs.Common.{◌≡◌, ◌∙◌, ◌⊎◌, inl, inr, ◌≤◌, ◌<◌, ◌+◌, ℕ, zero, suc, List, [], ◌∷◌, ◌++◌, length, take, drop, Some, slice_get, refl, sym, ap, arith, length-append, length-take, length-drop}
use Rattle.std.proofs.lemmas.Option.{slice_get_within}

front_at : {X : Type 0} (n : ℕ) (l : List X) (i : ℕ) (x : X) → slice_get (take n l) i ≡ Some x → slice_get l i ≡ Some x
front_at zero l i x at = absurd cc
front_at (suc n) [] i x at = at
front_at (suc n) (y ∷ l) zero x at = at
front_at (suc n) (y ∷ l) (suc i) x at = front_at n l i x at

front_in : {X : Type 0} (n : ℕ) (l : List X) (i : ℕ) → i < n → slice_get (take n l) i ≡ slice_get l i
front_in zero l i in' = absurd (omega arith)
front_in (suc n) [] i in' = refl
front_in (suc n) (y ∷ l) zero in' = refl
front_in (suc n) (y ∷ l) (suc i) in' = front_in n l i (omega arith)

back_at : {X : Type 0} (n : ℕ) (l : List X) (i : ℕ) → slice_get (drop n l) i ≡ slice_get l (n + i)
back_at zero l i = let p : i ≡ 0 + i = omega arith in ap (λ (k : ℕ). slice_get l k) p
back_at (suc n) [] i = refl
back_at (suc n) (y ∷ l) i = let p : suc (n + i) ≡ suc n + i = omega arith in back_at n l i ∙ ap (λ (k : ℕ). slice_get (y ∷ l) k) p

in_either : {X : Type 0} (xs ys : List X) (i : ℕ) (y : X) → slice_get (xs ++ ys) i ≡ Some y → (slice_get xs i ≡ Some y) ⊎ ((j : ℕ) × (i ≡ length xs + j) × (slice_get ys j ≡ Some y))
in_either [] ys i y at = inr (i, omega arith, at)
in_either (z ∷ xs) ys zero y at = inl at
in_either {X} (z ∷ xs) ys (suc i) y at = further (in_either xs ys i y at)
  where
    further : (slice_get xs i ≡ Some y) ⊎ ((j : ℕ) × (i ≡ length xs + j) × (slice_get ys j ≡ Some y))
        → (slice_get (z ∷ xs) (suc i) ≡ Some y) ⊎ ((j : ℕ) × (suc i ≡ length (z ∷ xs) + j) × (slice_get ys j ≡ Some y))
    further (inl h) = inl h
    further (inr h) = inr (h.0, (let e = h.1 in omega arith), h.2)

module _ {X Y : Type 0} (P : X → Y → Type 0) where
  abbrev pub ArePairs : List X → List Y → Type 0
  ArePairs xs ys = (length ys ≡ length xs) × ((i : ℕ) (x : X) (y : Y) → slice_get xs i ≡ Some x → slice_get ys i ≡ Some y → P x y)

  pub front : (n : ℕ) (xs xs' : List X) (ys ys' : List Y) → xs' ≡ take n xs → ys' ≡ take n ys → ArePairs xs ys → ArePairs xs' ys'
  front n xs xs' ys ys' x_is y_is are = rw (x_is, y_is) (
    (let e = are.0 in omega (arith, length-take n xs, length-take n ys)),
    λ i x y at in'. are.1 i x y (front_at n xs i x at) (front_at n ys i y in'),
  )

  pub back : (n : ℕ) (xs xs' : List X) (ys ys' : List Y) → xs' ≡ drop n xs → ys' ≡ drop n ys → ArePairs xs ys → ArePairs xs' ys'
  back n xs xs' ys ys' x_is y_is are = rw (x_is, y_is) (
    (let e = are.0 in omega (arith, length-drop n xs, length-drop n ys)),
    λ i x y at in'. are.1 (n + i) x y (sym (back_at n xs i) ∙ at) (sym (back_at n ys i) ∙ in'),
  )

  pub both : (n : ℕ) (xs : List X) (ys zs all : List Y) → all ≡ ys ++ zs → n ≤ length xs → ArePairs (take n xs) ys → ArePairs (drop n xs) zs → ArePairs xs all
  both n xs ys zs all is some front back = rw is (
    (let f = front.0 in let b = back.0 in omega (arith, length-append ys zs, length-take n xs, length-drop n xs)),
    λ i x y at in'. at_either i x y at (in_either ys zs i y in'),
  )
    where
      at_either : (i : ℕ) (x : X) (y : Y) → slice_get xs i ≡ Some x → (slice_get ys i ≡ Some y) ⊎ ((j : ℕ) × (i ≡ length ys + j) × (slice_get zs j ≡ Some y)) → P x y
      at_either i x y at (inl h) =
          let w = slice_get_within ys i y h in let f = front.0 in
          front.1 i x y (front_in n xs i (omega (arith, length-take n xs)) ∙ at) h
      at_either i x y at (inr h) =
          let e = h.1 in let f = front.0 in
          let p : n + h.0 ≡ i = omega (arith, length-take n xs) in
          back.1 h.0 x y (back_at n xs h.0 ∙ (ap (λ (k : ℕ). slice_get xs k) p ∙ at)) h.2
