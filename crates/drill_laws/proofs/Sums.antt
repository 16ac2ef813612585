-- The sum of the first numbers.
use Rattle.std.proofs.Common.{◌≡◌, ℕ, zero, suc, ◌+◌, ◌*◌, ◌^◌, ◌<◌, ◌≤◌, arith}
use Rattle.std.specs.List.{sum, range_with_len}
use Rattle.std.proofs.lemmas.List.Sums.{sum_by-cons}
use Rattle.std.proofs.lemmas.Nat.{mul-le}
use Rattle.drill_laws.specs.Functions.{sum_below}

-- twice the sum of so many numbers, from one on
sum_from : (first count : ℕ) → 2 * sum (range_with_len first count) + count ≡ 2 * first * count + count * count
sum_from first zero = omega arith
sum_from first (suc c) =
    let more : sum (range_with_len first (suc c)) ≡ first + sum (range_with_len (first + 1) c) = sum_by-cons (λ x. x) first (range_with_len (first + 1) c) in
    let rest = sum_from (first + 1) c in
    grind (arith, more, rest)

pub sum_is : (n : ℕ) → 2 * sum_below n + n ≡ n * n
sum_is n = let all = sum_from 0 n in omega (arith, all)

pub sum_small : (n : ℕ) → n ≤ 50000 → sum_below n < 2 ^ 31
sum_small n most =
    let all = sum_is n in
    let square : n * n ≤ 50000 * 50000 = mul-le n n 50000 50000 most most in
    omega (arith, all, square)
