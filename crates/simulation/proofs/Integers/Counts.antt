-- Counts of bits: what their bodies compute.
use Rattle.std.proofs.Common.{◌≡◌, ℕ, ◌+◌, ◌-◌, ◌*◌, ◌/◌, ◌%◌, ◌^◌, ◌<◌, ◌≤◌, refl, sym, ap, ap₂, ◌∙◌, arith, lt_of_lt_of_le, le_trans}
use Rattle.std.specs.Prelude.{bit_and, bit_or, bit_xor}
use Rattle.std.specs.Int.Bits.{and_mask, and_mod, xor_add_and}
use Rattle.std.specs.Int.Count.{ones-ones, ones-le, count_leading_zeros, count_trailing_zeros, trailing_le}
use Rattle.std.proofs.Math.Pow.{ones_lt, pow_mono}
use Rattle.std.proofs.lemmas.Nat.{leading_length}
use Rattle.wasm_defs.specs.declared.types.ValType.{ValType}
use Rattle.wasm_defs.specs.declared.types.ValType.TheVariants.{I32, I64}
use Rattle.wasm_defs.specs.declared.operation.UnaryOp.{UnaryOp}
use Rattle.wasm_defs.specs.declared.operation.UnaryOp.TheVariants.{Clz, Ctz, Popcnt}
use Rattle.wasm_defs.specs.Values.{modulus, word, bits}
use Rattle.wasm_defs.specs.Integers.{unary}
use Rattle.simulation.proofs.Integers.Extensions.{word_below}
use Rattle.simulation.proofs.Integers.Populations.{population_value, population_is}
use Rattle.simulation.proofs.Integers.Smears.{filled_first, filled_more, filled_all, trailing}
use Rattle.frame_layout.proofs.WordLaws.{word_small, low_word}

-- ---- what the bodies compute, from what is in the register

-- without the bits that extend an i32
abbrev pub cut_value : ValType → ℕ → ℕ
cut_value I32 x = (x * 2 ^ 32) % 2 ^ 64 / 2 ^ 32
cut_value I64 x = x

abbrev pub smear_value : (amount x : ℕ) → ℕ
smear_value amount x = bit_or x (x / 2 ^ amount)

-- all bits below the highest one
abbrev pub smeared : ValType → ℕ → ℕ
smeared I32 x = smear_value 16 (smear_value 8 (smear_value 4 (smear_value 2 (smear_value 1 (cut_value I32 x)))))
smeared I64 x = smear_value 32 (smear_value 16 (smear_value 8 (smear_value 4 (smear_value 2 (smear_value 1 x)))))

-- all bits below the lowest one
abbrev pub below_lowest : ℕ → ℕ
below_lowest x = bit_and ((x + (2 ^ 64 - 1)) % 2 ^ 64) (bit_xor x (2 ^ 64 - 1))

abbrev pub unary_value : UnaryOp → ValType → ℕ → ℕ
unary_value Clz t x = (bits t + (2 ^ 64 - population_value (smeared t x))) % 2 ^ 64
unary_value Ctz t x = population_value (cut_value t (below_lowest x))
unary_value Popcnt t x = population_value (cut_value t x)

-- ---- on words

cut_low : (x : ℕ) → cut_value I32 x ≡ x % 2 ^ 32
cut_low x = omega arith

cut_is : (t : ValType) (a : ℕ) → a < modulus t → cut_value t (word t a) ≡ a
cut_is I32 a h = cut_low (word I32 a) ∙ low_word a h
cut_is I64 a h = refl

bits_few : (t : ValType) → bits t ≤ 64
bits_few I32 = omega arith
bits_few I64 = omega arith

below_power : (t : ValType) (a : ℕ) → a < modulus t → a < 2 ^ bits t
below_power I32 a h = h
below_power I64 a h = h

below_word : (t : ValType) (a : ℕ) → a < modulus t → a < 2 ^ 64
below_word I32 a h = omega arith
below_word I64 a h = h

-- a count is its own word
count_word : (t : ValType) (n : ℕ) → n ≤ 64 → n ≡ word t n
count_word I32 n h = sym (word_small n (omega arith))
count_word I64 n h = refl

-- a run of ones from the lowest bit
run_of_ones : (m : ℕ) → m ≤ 64 → population_value (2 ^ m - 1) ≡ m
run_of_ones m h = population_is (2 ^ m - 1) (lt_of_lt_of_le (ones_lt m) (pow_mono h)) ∙ ones-ones m

smeared_is : (t : ValType) (a m : ℕ) → a < modulus t → m ≤ bits t → a < 2 ^ m → 2 ^ m ≤ 2 * a + 1 → smeared t (word t a) ≡ 2 ^ m - 1
smeared_is I32 a m h le below above =
    ap (λ (x : ℕ). smear_value 16 (smear_value 8 (smear_value 4 (smear_value 2 (smear_value 1 x))))) (cut_is I32 a h)
    ∙ filled_all 32 m _ le (filled_more 16 m _ (filled_more 8 m _ (filled_more 4 m _ (filled_more 2 m _ (filled_more 1 m a (filled_first m a below above))))))
smeared_is I64 a m h le below above =
    filled_all 64 m _ le
    (filled_more 32 m _ (filled_more 16 m _ (filled_more 8 m _ (filled_more 4 m _ (filled_more 2 m _ (filled_more 1 m a (filled_first m a below above)))))))

not_is : (x : ℕ) → x < 2 ^ 64 → bit_xor x (2 ^ 64 - 1) ≡ 2 ^ 64 - 1 - x
not_is x h = omega (arith, xor_add_and x (2 ^ 64 - 1), and_mask x 64)

lowest_is : (t : ValType) (a : ℕ) → a < modulus t → cut_value t (below_lowest (word t a)) ≡ 2 ^ count_trailing_zeros (bits t) a - 1
lowest_is I32 a h =
    let x = word I32 a in
    let down : (x + (2 ^ 64 - 1)) % 2 ^ 64 % 2 ^ 32 ≡ (a + (2 ^ 32 - 1)) % 2 ^ 32 = omega (arith, low_word a h) in
    let rest : bit_xor x (2 ^ 64 - 1) % 2 ^ 32 ≡ 2 ^ 32 - 1 - a = omega (arith, not_is x (word_below I32 a h), low_word a h, word_below I32 a h) in
    cut_low (below_lowest x) ∙ and_mod ((x + (2 ^ 64 - 1)) % 2 ^ 64) (bit_xor x (2 ^ 64 - 1)) 32 ∙ ap₂ bit_and down rest ∙ trailing 32 a h
lowest_is I64 a h = ap (bit_and ((a + (2 ^ 64 - 1)) % 2 ^ 64)) (not_is a h) ∙ trailing 64 a h

-- ---- the counts

pub unary_small : (t : ValType) (o : UnaryOp) (a : ℕ) → a < modulus t → unary o t a ≤ 64
unary_small t Clz a h = let l = leading_length (bits t) a (below_power t a h) in omega (arith, l.1, bits_few t)
unary_small t Ctz a h = le_trans (trailing_le (bits t) a) (bits_few t)
unary_small t Popcnt a h = le_trans (ones-le (bits t) a (below_power t a h)) (bits_few t)

counted : (t : ValType) (o : UnaryOp) (a : ℕ) → a < modulus t → unary_value o t (word t a) ≡ unary o t a
counted t Clz a h =
    let l = leading_length (bits t) a (below_power t a h) in
    let m = l.0 in
    let small : m ≤ bits t = omega (arith, l.1) in
    let few : m ≤ 64 = omega (arith, bits_few t) in
    let rest : (bits t + (2 ^ 64 - m)) % 2 ^ 64 ≡ count_leading_zeros (bits t) a = omega (arith, l.1, bits_few t) in
    ap (λ (x : ℕ). (bits t + (2 ^ 64 - population_value x)) % 2 ^ 64) (smeared_is t a m h small l.2 l.3)
    ∙ ap (λ (x : ℕ). (bits t + (2 ^ 64 - x)) % 2 ^ 64) (run_of_ones m few) ∙ rest
counted t Ctz a h = ap population_value (lowest_is t a h) ∙ run_of_ones (count_trailing_zeros (bits t) a) (unary_small t Ctz a h)
counted t Popcnt a h = ap population_value (cut_is t a h) ∙ population_is a (below_word t a h)

pub counted_is : (t : ValType) (o : UnaryOp) (a : ℕ) → a < modulus t → unary_value o t (word t a) ≡ word t (unary o t a)
counted_is t o a h = counted t o a h ∙ count_word t (unary o t a) (unary_small t o a h)
