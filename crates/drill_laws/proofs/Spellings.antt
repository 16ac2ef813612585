-- Numbers of a drill: their encodings, and how long these are.
use Rattle.std.proofs.Common.{◌≡◌, ℕ, zero, suc, ◌+◌, ◌*◌, ◌/◌, ◌^◌, ◌<◌, ◌≤◌, pos, false, true, List, [], ◌∷◌, length, refl, inl, inr, arith}
use Rattle.std.proofs.lemmas.Bool.{cases_lt}
use Rattle.std.proofs.lemmas.List.{length-append}
use Rattle.std.specs.List.{flat_map, range_with_len}
use Rattle.wasm_defs.specs.Numbers.{Spells}
use Rattle.module_gen.specs.Numbers.{signed, spelling, unsigned}
use Rattle.module_gen.specs.Drill.{sized}
use Rattle.module_gen.proofs.Shortest.{spells_signed, spells_unsigned}
use Rattle.module_gen.proofs.Spellings.{last, more}

pub spelling_short : (end k n : ℕ) → length (spelling end k n) ≤ k
unfolding spelling
spelling_short end zero n = omega arith
spelling_short end (suc k) n =
    elim (cases_lt n end) [
      | inl low ↦ rw (last end k n low) (omega arith)
      | inr high ↦ rw (more end k n high) (let rest = spelling_short end k (n / 128) in omega (arith, rest))
    ]

pub unsigned_short : (n : ℕ) → length (unsigned n) ≤ 5
unsigned_short n = spelling_short 128 5 n

pub signed_short : (n : ℕ) → length (signed n) ≤ 5
signed_short n = spelling_short 64 5 n

pub unsigned_spells : (n : ℕ) → n < 2 ^ 32 → Spells (pos n) 32 false (unsigned n)
unsigned_spells n small = spells_unsigned 4 32 n refl small

pub signed_spells : (n : ℕ) → n < 2 ^ 31 → Spells (pos n) 32 true (signed n)
signed_spells n small = spells_signed 4 32 n refl small

-- one of one byte
pub one_byte : (b : ℕ) → b < 128 → Spells (pos b) 32 false (b ∷ [])
one_byte b small = (small, omega (arith, small), refl)

pub sized_short : (content : List ℕ) → length (sized content) ≤ length content + 5
sized_short content =
    let parts = length-append (unsigned (length content)) content in
    let few = unsigned_short (length content) in
    omega (arith, parts, few)

-- lists of so many bytes at most, one after the other
pub all_short : (f : ℕ → List ℕ) (most first count : ℕ) → ((i : ℕ) → length (f i) ≤ most) → length (flat_map f (range_with_len first count)) ≤ most * count
all_short f most first zero each = omega arith
all_short f most first (suc k) each =
    let parts = length-append (f first) (flat_map f (range_with_len (first + 1) k)) in
    let rest = all_short f most (first + 1) k each in
    let one = each first in
    let product : most * suc k ≡ most + most * k = omega arith in
    omega (arith, parts, rest, one, product)
