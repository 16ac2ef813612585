-- Encodings that are made byte by byte.
use Rattle.std.proofs.Common.{◌≡◌, ◌∙◌, ℕ, zero, suc, ◌+◌, ◌*◌, ◌/◌, ◌%◌, ◌<◌, ◌≤◌, List, [], ◌∷◌, ◌++◌, length, refl, ap, sym, arith, append_assoc}
use Rattle.std.proofs.Math.Nat.{div-lt_iff_lt-mul}
use Rattle.std.proofs.lemmas.Bool.{lt-ltb, le-ltb}
use Rattle.module_gen.specs.Numbers.{spelling}

-- below this, a number has at most so many bytes, and one more
abbrev pub room : ℕ → ℕ
room zero = 64
room (suc k) = 128 * room k

pub last : (end k n : ℕ) → n < end → spelling end (suc k) n ≡ n ∷ []
unfolding spelling
last end k n below = rw (lt-ltb n end below) refl

pub more : (end k n : ℕ) → end ≤ n → spelling end (suc k) n ≡ (n % 128 + 128) ∷ spelling end k (n / 128)
unfolding spelling
more end k n above = rw (le-ltb n end above) refl

-- a number that has more bytes leaves room for the rest
pub narrower : (end k n : ℕ) → 64 ≤ end → end ≤ n → n < room k → (j : ℕ) × (k ≡ suc j) × (n / 128 < room j)
narrower end zero n least above below = absurd (omega (arith, least, above, below))
narrower end (suc j) n least above below =
    let both = div-lt_iff_lt-mul {k = 128} {x = n} {y = room j} (omega arith) in
    (j, refl, both.1 (omega (arith, below)))

-- these bytes, and after them the encoding of the rest, are all of it
abbrev pub IsLeft : (end : ℕ) → List ℕ → ℕ → List ℕ → Type 0
IsLeft end front rest whole = (k : ℕ) × (rest < room k) × (front ++ spelling end (suc k) rest ≡ whole)

pub one_less : (end : ℕ) (front : List ℕ) (rest : ℕ) (whole : List ℕ) → 64 ≤ end → end ≤ rest → IsLeft end front rest whole → IsLeft end (front ++ (rest % 128 + 128) ∷ []) (rest / 128) whole
one_less end front rest whole least above (k, below, is) =
    let (j, same, narrow) = narrower end k rest least above below in (
      j,
      narrow,
      append_assoc front ((rest % 128 + 128) ∷ []) (spelling end (suc j) (rest / 128)) ∙ ap (λ l. front ++ l) (sym (more end (suc j) rest above)) ∙ ap (λ x. front ++ spelling end (suc x) rest) (sym same) ∙ is,
    )

pub all_left : (end : ℕ) (front : List ℕ) (rest : ℕ) (whole : List ℕ) → rest < end → IsLeft end front rest whole → front ++ rest ∷ [] ≡ whole
all_left end front rest whole below (k, narrow, is) = ap (λ l. front ++ l) (sym (last end k rest below)) ∙ is

-- so many bytes, and those of the rest, are all of it, and one more
abbrev pub IsCounted : (end size rest whole : ℕ) → Type 0
IsCounted end size rest whole = (k : ℕ) × (rest < room k) × (size + k ≡ 5) × (size + length (spelling end (suc k) rest) ≡ whole + 1)

pub counted_less : (end size rest whole : ℕ) → 64 ≤ end → end ≤ rest → IsCounted end size rest whole → IsCounted end (size + 1) (rest / 128) whole
counted_less end size rest whole least above (k, below, few, is) =
    let (j, same, narrow) = narrower end k rest least above below in
    let long : length (spelling end (suc k) rest) ≡ suc (length (spelling end (suc j) (rest / 128))) = ap length (ap (λ x. spelling end (suc x) rest) same ∙ more end (suc j) rest above) in
    (j, narrow, omega (arith, same, few), omega (arith, long, is))

pub counted : (end size rest whole : ℕ) → rest < end → IsCounted end size rest whole → (size ≡ whole) × (size ≤ 5)
counted end size rest whole below (k, narrow, few, is) =
    let long : length (spelling end (suc k) rest) ≡ 1 = ap length (last end k rest below) in
    (omega (arith, long, is), omega (arith, few))
