-- A rotation by two shifts and OR, on numbers of n bits.
use Rattle.std.proofs.Common.{◌≡◌, ℕ, zero, suc, ◌+◌, ◌-◌, ◌*◌, ◌/◌, ◌%◌, ◌^◌, ◌<◌, sym, ap, ap₂, ◌∙◌, arith, subst}
use Rattle.std.specs.Prelude.{bit_or}
use Rattle.std.specs.Int.Bits.{or_comm, or_self, or_shifted}
use Rattle.std.proofs.Math.Nat.{div-eq_of_lt, mod-eq_of_lt, mod_self, mul-mod_left, add-zero, add_comm, mul-one, div-one}
use Rattle.std.proofs.lemmas.Nat.{mod-pow-add, shl-shr, shr_below}

-- the bits that stay, shifted up over those that come in
joined : (j k a : ℕ) → a < 2 ^ (j + k) → bit_or (a / 2 ^ j) ((a * 2 ^ k) % 2 ^ (j + k)) ≡ (a * 2 ^ k) % 2 ^ (j + k) + a / 2 ^ j
joined j k a h =
    let top : a / 2 ^ j < 2 ^ k = shr_below a k j (subst (λ (n : ℕ). a < 2 ^ n) (omega arith) h) in
    let stay : (a * 2 ^ k) % 2 ^ (j + k) ≡ (a % 2 ^ j) * 2 ^ k =
    mod-pow-add (a * 2 ^ k) j k ∙ ap₂ (λ (q r : ℕ). (q % 2 ^ j) * 2 ^ k + r) (shl-shr a k) (mul-mod_left a (2 ^ k)) ∙ add-zero ((a % 2 ^ j) * 2 ^ k) in
    ap (bit_or (a / 2 ^ j)) stay ∙ or_comm (a / 2 ^ j) ((a % 2 ^ j) * 2 ^ k) ∙ or_shifted (a % 2 ^ j) k (a / 2 ^ j) top
    ∙ ap (λ (n : ℕ). n + a / 2 ^ j) (sym stay)

-- by k of n bits, where the way back is taken modulo n
pub rotated_left : (n k a : ℕ) → k < n → a < 2 ^ n → bit_or (a / 2 ^ ((n - k) % n)) ((a * 2 ^ k) % 2 ^ n) ≡ (a * 2 ^ k) % 2 ^ n + a / 2 ^ (n - k)
rotated_left n zero a below h =
    let whole : n - zero ≡ n = omega arith in
    let back : (n - zero) % n ≡ 0 = ap (λ (m : ℕ). m % n) whole ∙ mod_self n in
    let kept : (a * 2 ^ zero) % 2 ^ n ≡ a = ap (λ (x : ℕ). x % 2 ^ n) (mul-one a) ∙ mod-eq_of_lt h in
    let none : a / 2 ^ (n - zero) ≡ 0 = ap (λ (m : ℕ). a / 2 ^ m) whole ∙ div-eq_of_lt h in
    ap₂ (λ (s b : ℕ). bit_or (a / 2 ^ s) b) back kept ∙ ap (λ (x : ℕ). bit_or x a) (div-one a) ∙ or_self a ∙ omega (arith, kept, none)
rotated_left n (suc k) a below h =
    let j = n - suc k in
    let sum : j + suc k ≡ n = omega arith in
    let back : (n - suc k) % n ≡ j = mod-eq_of_lt (omega arith) in
    ap (λ (s : ℕ). bit_or (a / 2 ^ s) ((a * 2 ^ suc k) % 2 ^ n)) back
    ∙ subst (λ (m : ℕ). bit_or (a / 2 ^ j) ((a * 2 ^ suc k) % 2 ^ m) ≡ (a * 2 ^ suc k) % 2 ^ m + a / 2 ^ j) sum
    (joined j (suc k) a (subst (λ (m : ℕ). a < 2 ^ m) (sym sum) h))

pub rotated_right : (n k a : ℕ) → k < n → a < 2 ^ n → bit_or ((a * 2 ^ ((n - k) % n)) % 2 ^ n) (a / 2 ^ k) ≡ a / 2 ^ k + (a * 2 ^ (n - k)) % 2 ^ n
rotated_right n zero a below h =
    let whole : n - zero ≡ n = omega arith in
    let back : (n - zero) % n ≡ 0 = ap (λ (m : ℕ). m % n) whole ∙ mod_self n in
    let kept : (a * 2 ^ zero) % 2 ^ n ≡ a = ap (λ (x : ℕ). x % 2 ^ n) (mul-one a) ∙ mod-eq_of_lt h in
    let none : (a * 2 ^ (n - zero)) % 2 ^ n ≡ 0 = ap (λ (m : ℕ). (a * 2 ^ m) % 2 ^ n) whole ∙ mul-mod_left a (2 ^ n) in
    ap₂ bit_or (ap (λ (s : ℕ). (a * 2 ^ s) % 2 ^ n) back ∙ kept) (div-one a) ∙ or_self a ∙ omega (arith, div-one a, none)
rotated_right n (suc k) a below h =
    let j = n - suc k in
    let sum : suc k + j ≡ n = omega arith in
    let back : (n - suc k) % n ≡ j = mod-eq_of_lt (omega arith) in
    ap (λ (s : ℕ). bit_or ((a * 2 ^ s) % 2 ^ n) (a / 2 ^ suc k)) back ∙ or_comm ((a * 2 ^ j) % 2 ^ n) (a / 2 ^ suc k)
    ∙ subst (λ (m : ℕ). bit_or (a / 2 ^ suc k) ((a * 2 ^ j) % 2 ^ m) ≡ (a * 2 ^ j) % 2 ^ m + a / 2 ^ suc k) sum
    (joined (suc k) j a (subst (λ (m : ℕ). a < 2 ^ m) (sym sum) h))
    ∙ add_comm ((a * 2 ^ j) % 2 ^ n) (a / 2 ^ suc k)
