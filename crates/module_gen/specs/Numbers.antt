-- The shortest encodings of numbers (WebAssembly Core 1.0, 5.2.2).
use Rattle.std.specs.Prelude.{ℕ, zero, suc, ◌+◌, ◌/◌, ◌%◌, ◌≤◌, pos, Bool, List, [], ◌∷◌, length, nat_lt, if◌then◌else◌}
use Rattle.wasm_defs.specs.Numbers.{Spells}

-- A number below this bound has one byte.
abbrev pub unsigned_end : ℕ
unsigned_end = 128

-- Of a signed number's last byte the next bit is its sign.
abbrev pub signed_end : ℕ
signed_end = 64

-- The number's low seven bits, and 128, and after them the encoding of the rest, until that is below the bound: in at most so many
-- bytes.
unfoldable pub spelling : (end most : ℕ) → ℕ → List ℕ
spelling end zero n = []
spelling end (suc k) n = if nat_lt n end then n ∷ [] else (n % 128 + 128) ∷ spelling end k (n / 128)

-- a number of 32 bits without a sign
abbrev pub unsigned : ℕ → List ℕ
unsigned n = spelling unsigned_end 5 n

-- one with a sign, which isn't negative
abbrev pub signed : ℕ → List ℕ
signed n = spelling signed_end 5 n

-- the bytes encode a number of 32 bits that isn't negative, and no fewer bytes do
abbrev pub IsShortest : (with_sign : Bool) → ℕ → List ℕ → Type 0
IsShortest with_sign n bytes = Spells (pos n) 32 with_sign bytes × ((other : List ℕ) → Spells (pos n) 32 with_sign other → length bytes ≤ length other)
