-- Counting ones by lanes: pairs, fours and bytes of bits each become the number of their ones, and a product sums the bytes.
use Rattle.std.proofs.Common.{◌≡◌, ℕ, zero, suc, ◌+◌, ◌-◌, ◌*◌, ◌/◌, ◌%◌, ◌^◌, ◌<◌, ◌≤◌, refl, ap, ◌∙◌, arith}
use Rattle.std.specs.Prelude.{bit_and, count_ones}
use Rattle.std.specs.Int.Count.{ones, ones_in, ones_cat, ones-le}
use Rattle.std.proofs.lemmas.Nat.{and_block, and_mask, and_le_l, mod-pow-add, mod_below, pow_pos}

-- ---- the stages

-- each pair of bits becomes the number of its ones
abbrev pub pairs : ℕ → ℕ
pairs x = (x + (2 ^ 64 - bit_and (x / 2) 0x5555_5555_5555_5555)) % 2 ^ 64

-- each four
abbrev pub fours : ℕ → ℕ
fours x = (bit_and x 0x3333_3333_3333_3333 + bit_and (x / 4) 0x3333_3333_3333_3333) % 2 ^ 64

-- each byte
abbrev pub bytes : ℕ → ℕ
bytes x = bit_and ((x + x / 16) % 2 ^ 64) 0x0F0F_0F0F_0F0F_0F0F

-- a product gathers the bytes in the uppermost
abbrev pub gather : ℕ → ℕ
gather x = (x * 0x0101_0101_0101_0101) % 2 ^ 64 / 2 ^ 56

abbrev pub population_value : ℕ → ℕ
population_value x = gather (bytes (fours (pairs x)))

-- ---- lanes

-- n lanes of k bits, each c
unfoldable lanes : ℕ → ℕ → ℕ → ℕ
lanes k c zero = 0
lanes k c (suc n) = lanes k c n * 2 ^ k + c

-- the lowest n lanes of k bits of x, each replaced by the number of its ones
unfoldable counts : ℕ → ℕ → ℕ → ℕ
counts k zero x = 0
counts k (suc n) x = counts k n (x / 2 ^ k) * 2 ^ k + ones (x % 2 ^ k)

abbrev double : ℕ → ℕ
double zero = zero
double (suc n) = suc (suc (double n))

-- ---- pairs

ones_of_pair : (r : ℕ) → r < 4 → ones r ≡ r - r / 2
unfolding ones ones_in
ones_of_pair zero h = refl
ones_of_pair (suc zero) h = refl
ones_of_pair (suc (suc zero)) h = refl
ones_of_pair (suc (suc (suc zero))) h = refl
ones_of_pair (suc (suc (suc (suc r)))) h = absurd (omega arith)

upper_bits : (n x : ℕ) → bit_and (x / 2) (lanes 2 1 (suc n)) ≡ bit_and (x / 4 / 2) (lanes 2 1 n) * 2 ^ 2 + (x % 4) / 2
unfolding lanes
upper_bits n x =
    let split : x / 2 ≡ (x / 4 / 2) * 2 ^ 2 + (x / 2) % 4 = omega arith in
    let low : ((x / 2) % 4) % 2 ≡ (x % 4) / 2 = omega arith in
    ap (λ (y : ℕ). bit_and y (lanes 2 1 n * 2 ^ 2 + 1)) split
    ∙ and_block 2 (x / 4 / 2) (lanes 2 1 n) ((x / 2) % 4) 1 (omega arith) (omega arith)
    ∙ ap (λ (y : ℕ). bit_and (x / 4 / 2) (lanes 2 1 n) * 2 ^ 2 + y) (and_mask ((x / 2) % 4) 1 ∙ low)

pairs_counted : (n x : ℕ) → x < 4 ^ n → x - bit_and (x / 2) (lanes 2 1 n) ≡ counts 2 n x
unfolding counts
pairs_counted zero x h = omega arith
pairs_counted (suc n) x h =
    let small : x / 4 < 4 ^ n = omega arith in
    omega (arith, upper_bits n x, and_le_l (x / 4 / 2) (lanes 2 1 n), pairs_counted n (x / 4) small, ones_of_pair (x % 4) (omega arith))

-- ---- fours

-- the ones of two lanes together
joined : (h x : ℕ) → ones (x % 2 ^ (h + h)) ≡ ones (x / 2 ^ h % 2 ^ h) + ones (x % 2 ^ h)
joined h x = ap ones (mod-pow-add x h h) ∙ ones_cat h (x / 2 ^ h % 2 ^ h) (x % 2 ^ h) (mod_below x (2 ^ h) (pow_pos h))

fours_counted : (n x : ℕ) → bit_and (counts 2 (double n) x) (lanes 4 3 n) + bit_and (counts 2 (double n) x / 4) (lanes 4 3 n) ≡ counts 4 n x
unfolding counts lanes
fours_counted zero x = refl
fours_counted (suc n) x =
    let Y = counts 2 (double n) (x / 4 / 4) in
    let L = lanes 4 3 n in
    let a = ones (x / 4 % 4) in
    let b = ones (x % 4) in
    let a_small : a ≤ 2 = ones-le 2 (x / 4 % 4) (omega arith) in
    let b_small : b ≤ 2 = ones-le 2 (x % 4) (omega arith) in
    let here : (Y * 4 + a) * 4 + b ≡ Y * 2 ^ 4 + (a * 4 + b) = omega arith in
    let up : ((Y * 4 + a) * 4 + b) / 4 ≡ (Y / 4) * 2 ^ 4 + (Y % 4 * 4 + a) = omega arith in
    let first : bit_and ((Y * 4 + a) * 4 + b) (L * 2 ^ 4 + 3) ≡ bit_and Y L * 2 ^ 4 + (a * 4 + b) % 4 =
    ap (λ (y : ℕ). bit_and y (L * 2 ^ 4 + 3)) here ∙ and_block 4 Y L (a * 4 + b) 3 (omega arith) (omega arith) ∙ ap (λ (y : ℕ). bit_and Y L * 2 ^ 4 + y) (and_mask (a * 4 + b) 2) in
    let second : bit_and (((Y * 4 + a) * 4 + b) / 4) (L * 2 ^ 4 + 3) ≡ bit_and (Y / 4) L * 2 ^ 4 + (Y % 4 * 4 + a) % 4 =
    ap (λ (y : ℕ). bit_and y (L * 2 ^ 4 + 3)) up ∙ and_block 4 (Y / 4) L (Y % 4 * 4 + a) 3 (omega arith) (omega arith) ∙ ap (λ (y : ℕ). bit_and (Y / 4) L * 2 ^ 4 + y) (and_mask (Y % 4 * 4 + a) 2) in
    let e : x / 4 / 4 ≡ x / 16 = omega arith in
    let rest : bit_and Y L + bit_and (Y / 4) L ≡ counts 4 n (x / 16) = fours_counted n (x / 4 / 4) ∙ ap (counts 4 n) e in
    omega (arith, first, second, rest, joined 2 x)

-- ---- bytes

-- a four has at most four ones
fours_bounded : (n x : ℕ) → 15 * counts 4 n x + 4 ≤ 4 * 16 ^ n
unfolding counts
fours_bounded zero x = omega arith
fours_bounded (suc n) x = omega (arith, fours_bounded n (x / 16), ones-le 4 (x % 16) (omega arith))

lowest_bounded : (n x : ℕ) → counts 4 n x % 16 ≤ 4
unfolding counts
lowest_bounded zero x = omega arith
lowest_bounded (suc n) x = omega (arith, ones-le 4 (x % 16) (omega arith))

bytes_counted : (n x : ℕ) → bit_and (counts 4 (double n) x + counts 4 (double n) x / 16) (lanes 8 15 n) ≡ counts 8 n x
unfolding counts lanes
bytes_counted zero x = refl
bytes_counted (suc n) x =
    let Y = counts 4 (double n) (x / 16 / 16) in
    let L = lanes 8 15 n in
    let a = ones (x / 16 % 16) in
    let b = ones (x % 16) in
    let a_small : a ≤ 4 = ones-le 4 (x / 16 % 16) (omega arith) in
    let b_small : b ≤ 4 = ones-le 4 (x % 16) (omega arith) in
    let y_small : Y % 16 ≤ 4 = lowest_bounded (double n) (x / 16 / 16) in
    let here : ((Y * 16 + a) * 16 + b) + ((Y * 16 + a) * 16 + b) / 16 ≡ (Y + Y / 16) * 2 ^ 8 + ((Y % 16 + a) * 16 + (a + b)) = omega arith in
    let sum : bit_and (((Y * 16 + a) * 16 + b) + ((Y * 16 + a) * 16 + b) / 16) (L * 2 ^ 8 + 15) ≡ bit_and (Y + Y / 16) L * 2 ^ 8 + ((Y % 16 + a) * 16 + (a + b)) % 16 =
    ap (λ (y : ℕ). bit_and y (L * 2 ^ 8 + 15)) here ∙ and_block 8 (Y + Y / 16) L ((Y % 16 + a) * 16 + (a + b)) 15 (omega arith) (omega arith)
    ∙ ap (λ (y : ℕ). bit_and (Y + Y / 16) L * 2 ^ 8 + y) (and_mask ((Y % 16 + a) * 16 + (a + b)) 4) in
    let e : x / 16 / 16 ≡ x / 256 = omega arith in
    let rest : bit_and (Y + Y / 16) L ≡ counts 8 n (x / 256) = bytes_counted n (x / 16 / 16) ∙ ap (counts 8 n) e in
    omega (arith, sum, rest, joined 4 x)

-- ---- the sum of the bytes

byte_off : (x : ℕ) → ones x ≡ ones (x / 256) + ones (x % 256)
byte_off x =
    let split : x ≡ (x / 256) * 2 ^ 8 + x % 256 = omega arith in
    ap ones split ∙ ones_cat 8 (x / 256) (x % 256) (omega arith)

gathered : (a b c d e f g h : ℕ) → a ≤ 8 → b ≤ 8 → c ≤ 8 → d ≤ 8 → e ≤ 8 → f ≤ 8 → g ≤ 8 → h ≤ 8
    → (((((((((0 * 256 + a) * 256 + b) * 256 + c) * 256 + d) * 256 + e) * 256 + f) * 256 + g) * 256 + h) * 0x0101_0101_0101_0101) % 2 ^ 64 / 2 ^ 56
    ≡ 0 + a + b + c + d + e + f + g + h
gathered a b c d e f g h pa pb pc pd pe pf pg ph = omega arith

product : (x : ℕ) → x < 2 ^ 64 → (counts 8 8 x * 0x0101_0101_0101_0101) % 2 ^ 64 / 2 ^ 56 ≡ ones x
unfolding counts
product x h =
    let x1 = x / 2 ^ 8 in
    let x2 = x1 / 2 ^ 8 in
    let x3 = x2 / 2 ^ 8 in
    let x4 = x3 / 2 ^ 8 in
    let x5 = x4 / 2 ^ 8 in
    let x6 = x5 / 2 ^ 8 in
    let x7 = x6 / 2 ^ 8 in
    let small = λ (y : ℕ). ones-le 8 (y % 2 ^ 8) (mod_below y (2 ^ 8) (pow_pos 8)) in
    let none : x7 / 256 ≡ 0 = omega arith in
    gathered (ones (x7 % 2 ^ 8)) (ones (x6 % 2 ^ 8)) (ones (x5 % 2 ^ 8)) (ones (x4 % 2 ^ 8)) (ones (x3 % 2 ^ 8)) (ones (x2 % 2 ^ 8)) (ones (x1 % 2 ^ 8)) (ones (x % 2 ^ 8))
    (small x7) (small x6) (small x5) (small x4) (small x3) (small x2) (small x1) (small x)
    ∙ omega (arith, byte_off x, byte_off x1, byte_off x2, byte_off x3, byte_off x4, byte_off x5, byte_off x6, byte_off x7, ap ones none, ones-le 0 0 (omega arith))

-- ---- all stages

pairs_is : (x : ℕ) → x < 2 ^ 64 → pairs x ≡ counts 2 32 x
unfolding lanes
pairs_is x h = omega (arith, pairs_counted 32 x h, and_le_l (x / 2) (lanes 2 1 32))

fours_is : (x : ℕ) → fours (counts 2 32 x) ≡ counts 4 16 x
unfolding lanes
fours_is x = omega (arith, fours_counted 16 x, fours_bounded 16 x)

bytes_is : (x : ℕ) → bytes (counts 4 16 x) ≡ counts 8 8 x
unfolding lanes
bytes_is x =
    let y = counts 4 16 x in
    let e : (y + y / 16) % 2 ^ 64 ≡ y + y / 16 = omega (arith, fours_bounded 16 x) in
    ap (λ (z : ℕ). bit_and z 0x0F0F_0F0F_0F0F_0F0F) e ∙ bytes_counted 8 x

-- the number of ones of a word
pub population_is : (x : ℕ) → x < 2 ^ 64 → population_value x ≡ count_ones x
population_is x h =
    ap (λ (y : ℕ). gather (bytes (fours y))) (pairs_is x h) ∙ ap (λ (y : ℕ). gather (bytes y)) (fours_is x) ∙ ap gather (bytes_is x) ∙ product x h
