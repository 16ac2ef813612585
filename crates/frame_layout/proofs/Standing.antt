-- Operations that are one after the other.
use Rattle.std.proofs.Common.{◌≡◌, ℕ, suc, ◌+◌, List, [], ◌∷◌, ◌++◌, length, Option, subst, arith}
use Rattle.rv_isa.specs.declared.operations.Op.{Op}
use Rattle.rv_isa.specs.Runs.{HasAt}

pub has_first : (code : List (Option Op)) (i : ℕ) (xs ys : List Op) → HasAt code i (xs ++ ys) → HasAt code i xs
has_first code i [] ys has = tt
has_first code i (x ∷ xs) ys has = (has.0, has_first code (suc i) xs ys has.1)

pub has_rest : (code : List (Option Op)) (i : ℕ) (xs ys : List Op) → HasAt code i (xs ++ ys) → HasAt code (i + length xs) ys
has_rest code i [] ys has = let here : i ≡ i + 0 = omega arith in subst (λ (j : ℕ). HasAt code j ys) here has
has_rest code i (x ∷ xs) ys has =
    let there : suc i + length xs ≡ i + suc (length xs) = omega arith in
    subst (λ (j : ℕ). HasAt code j ys) there (has_rest code (suc i) xs ys has.1)

pub has_both : (code : List (Option Op)) (i : ℕ) (xs ys : List Op) → HasAt code i xs → HasAt code (i + length xs) ys → HasAt code i (xs ++ ys)
has_both code i [] ys first rest = let here : i + 0 ≡ i = omega arith in subst (λ (j : ℕ). HasAt code j ys) here rest
has_both code i (x ∷ xs) ys first rest =
    let there : i + suc (length xs) ≡ suc i + length xs = omega arith in
    (first.0, has_both code (suc i) xs ys first.1 (subst (λ (j : ℕ). HasAt code j ys) there rest))
