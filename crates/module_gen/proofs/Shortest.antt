-- The bytes of a number encode it, and no fewer do.
use Rattle.std.proofs.Common.{◌≡◌, ◌∙◌, ℕ, zero, suc, ◌+◌, ◌-◌, ◌*◌, ◌/◌, ◌%◌, ◌^◌, ◌<◌, ◌≤◌, ℤ, pos, ◌+ℤ◌, Bool, true, false, List, [], ◌∷◌, length, refl, ap, sym, subst, inl, inr, arith}
use Rattle.std.specs.Prelude.{negsuc, neg_ℤ, ◌*ℤ◌}
use Rattle.std.proofs.Math.Nat.{div-lt_iff_lt-mul, mod-add-div, mod-lt}
use Rattle.std.proofs.Math.IntN.{pos-*ℤ-negsuc, pos-*ℤ-pos}
use Rattle.std.proofs.lemmas.Bool.{cases_lt}
use Rattle.std.proofs.lemmas.Int.{ints}
use Rattle.std.proofs.lemmas.Nat.{pow-add}
use Rattle.wasm_defs.specs.Numbers.{Spells}
use Rattle.module_gen.specs.Numbers.{spelling}
use Rattle.module_gen.proofs.Spellings.{last, more}

number_is : (n : ℕ) → pos n ≡ pos (n % 128 + 128 - 128) +ℤ (pos 128 *ℤ pos (n / 128))
number_is n =
    let e : n ≡ n % 128 + 128 - 128 + 128 * (n / 128) = let d = mod-add-div n 128 in omega (arith, d) in
    ap pos e ∙ ap (λ z. pos (n % 128 + 128 - 128) +ℤ z) (sym (pos-*ℤ-pos 128 (n / 128)))

one_more : (with_sign : Bool) (bits n : ℕ) (l : List ℕ) → 7 < bits → Spells (pos (n / 128)) (bits - 7) with_sign l → Spells (pos n) bits with_sign ((n % 128 + 128) ∷ l)
one_more with_sign bits n [] wide h = absurd h
one_more with_sign bits n (c ∷ l) wide h =
    let small : n % 128 < 128 = mod-lt n {m = 128} (omega arith) in
    (omega arith, omega (arith, small), wide, pos (n / 128), h, number_is n)

halved : (bits n : ℕ) → 7 ≤ bits → n < 2 ^ bits → n / 128 < 2 ^ (bits - 7)
halved bits n wide below =
    let both = div-lt_iff_lt-mul {k = 128} {x = n} {y = 2 ^ (bits - 7)} (omega arith) in
    let same : bits ≡ bits - 7 + 7 = omega (arith, wide) in
    let power : 2 ^ bits ≡ 2 ^ (bits - 7) * 128 = ap (λ b. 2 ^ b) same ∙ pow-add 2 (bits - 7) 7 in
    both.1 (subst (λ p. n < p) power below)

pub spells_unsigned : (k bits n : ℕ) → bits + 3 ≡ 7 * suc k → n < 2 ^ bits → Spells (pos n) bits false (spelling 128 (suc k) n)
spells_unsigned zero bits n size below =
    let four : bits ≡ 4 = omega (arith, size) in
    let low : n < 16 = subst (λ b. n < 2 ^ b) four below in
    rw (last 128 0 n (omega (arith, low))) (omega (arith, low), below, refl)
spells_unsigned (suc j) bits n size below =
    elim (cases_lt n 128) [
      | inl h ↦ rw (last 128 (suc j) n h) (h, below, refl)
      | inr h ↦ rw (more 128 (suc j) n h)
          (one_more false bits n (spelling 128 (suc j) (n / 128)) (omega (arith, size)) (spells_unsigned j (bits - 7) (n / 128) (omega (arith, size)) (halved bits n (omega (arith, size)) below)))
    ]

pub spells_signed : (k bits n : ℕ) → bits + 3 ≡ 7 * suc k → n < 2 ^ (bits - 1) → Spells (pos n) bits true (spelling 64 (suc k) n)
spells_signed zero bits n size below =
    let three : bits - 1 ≡ 3 = omega (arith, size) in
    let low : n < 8 = subst (λ b. n < 2 ^ b) three below in
    rw (last 64 0 n (omega (arith, low))) (inl (omega (arith, low), below, refl))
spells_signed (suc j) bits n size below =
    let same : bits - 1 - 7 ≡ bits - 7 - 1 = omega arith in
    elim (cases_lt n 64) [
      | inl h ↦ rw (last 64 (suc j) n h) (inl (h, below, refl))
      | inr h ↦ rw (more 64 (suc j) n h)
          (one_more true bits n (spelling 64 (suc j) (n / 128)) (omega (arith, size))
          (spells_signed j (bits - 7) (n / 128) (omega (arith, size)) (subst (λ b. n / 128 < 2 ^ b) same (halved (bits - 1) n (omega (arith, size)) below))))
    ]

-- ---- no fewer

-- what follows a byte from 128 on encodes the rest
rest_is : (n b : ℕ) (m : ℤ) → 128 ≤ b → b < 256 → pos n ≡ pos (b - 128) +ℤ (pos 128 *ℤ m) → m ≡ pos (n / 128)
rest_is n b (pos k) least most is =
    let product : pos 128 *ℤ pos k ≡ pos (128 * k) = pos-*ℤ-pos 128 k in
    let sum : pos n ≡ pos (b - 128) +ℤ pos (128 * k) = is ∙ ap (λ z. pos (b - 128) +ℤ z) product in
    let e : n ≡ b - 128 + 128 * k = omega (arith, ints, sum) in
    let parts = mod-add-div n 128 in
    let small : n % 128 < 128 = mod-lt n {m = 128} (omega arith) in
    let same : k ≡ n / 128 = omega (arith, e, parts, small, least, most) in
    ap pos same
rest_is n b (negsuc k) least most is =
    let product : pos 128 *ℤ negsuc k ≡ neg_ℤ (pos (128 * suc k)) = pos-*ℤ-negsuc 128 k in
    let sum : pos n ≡ pos (b - 128) +ℤ neg_ℤ (pos (128 * suc k)) = is ∙ ap (λ z. pos (b - 128) +ℤ z) product in
    absurd (omega (arith, ints, sum, least, most))

-- a last byte encodes a number below this
abbrev limit : Bool → ℕ
limit false = 128
limit true = 64

longer : (with_sign : Bool) (k bits n b : ℕ) (l : List ℕ) → Spells (pos n) bits with_sign (b ∷ l) → limit with_sign ≤ n → (Spells (pos (n / 128)) (bits - 7) with_sign l → length (spelling (limit with_sign) k (n / 128)) ≤ length l)
    → length ((n % 128 + 128) ∷ spelling (limit with_sign) k (n / 128)) ≤ length (b ∷ l)
longer false k bits n b [] h high below = let e = h.2 in absurd (omega (arith, ints, e, high, h.0))
longer true k bits n b [] (inl h) high below = let e = h.2 in absurd (omega (arith, ints, e, high, h.0))
longer true k bits n b [] (inr h) high below = let e = h.3 in absurd (omega (arith, ints, e))
longer with_sign k bits n b (c ∷ l) h high below =
    let tail = subst (λ m. Spells m (bits - 7) with_sign (c ∷ l)) (rest_is n b h.3 h.0 h.1 h.5) h.4 in
    let fewer = below tail in
    omega (arith, fewer)

pub no_shorter : (with_sign : Bool) (k bits n : ℕ) (other : List ℕ) → Spells (pos n) bits with_sign other → length (spelling (limit with_sign) k n) ≤ length other
unfolding spelling
no_shorter with_sign k bits n [] h = absurd h
no_shorter with_sign zero bits n (b ∷ l) h = omega arith
no_shorter with_sign (suc k) bits n (b ∷ l) h =
    elim (cases_lt n (limit with_sign)) [
      | inl low ↦ rw (last (limit with_sign) k n low) (omega arith)
      | inr high ↦ rw (more (limit with_sign) k n high) (longer with_sign k bits n b l h high (λ t. no_shorter with_sign k (bits - 7) (n / 128) l t))
    ]
