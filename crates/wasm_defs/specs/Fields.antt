-- Fields, read from the left: what a field's bytes come to (WebAssembly Core 1.0, 5.2 and 5.3).
use Rattle.std.specs.Prelude.{ℕ, zero, suc, ◌+◌, ◌-◌, ◌*◌, ℤ, pos, negsuc, Bool, true, false, ◌&&◌, ◌==◌, List, [], ◌∷◌, length, take, drop, nat_lt, nat_le, if◌then◌else◌}
use Rattle.wasm_defs.specs.Numbers.{Reading, Number, CutOff, Bad, number_at}
use Rattle.wasm_defs.specs.declared.fault.Kind.{Kind}
use Rattle.wasm_defs.specs.declared.fault.Kind.TheVariants.{Malformed, Limit}
use Rattle.wasm_defs.specs.declared.fault.Refusal.{Refusal}
use Rattle.wasm_defs.specs.Limits.{max_name}
use Rattle.wasm_defs.specs.Text.{between, completes}

-- where reading is: the offset, the bytes from there on, and where the section ends
pub record Cursor : Type 0 where
  pub at : ℕ
  pub rest : List ℕ
  pub end : ℕ

-- what reading a field comes to: a value and what follows it, the first error, or that more bytes are owed
pub data Read (A : Type 0) : Type 0 where
  Got : (x : A) (c : Cursor) → Read A
  Fault : (r : Refusal) → Read A
  Wants : Read A

abbrev pub Reader : Type 0 → Type 0
Reader A = Cursor → Read A

abbrev pub then_go : {A B : Type 0} → Read A → (A → Reader B) → Read B
then_go (Got x c) f = f x c
then_go (Fault r) f = Fault r
then_go Wants f = Wants

infixl 10 ◌>>=◌
abbrev pub ◌>>=◌ : {A B : Type 0} → Reader A → (A → Reader B) → Reader B
p >>= f = λ c. then_go (p c) f

abbrev pub done : {A : Type 0} → A → Reader A
done x = λ c. Got x c

abbrev pub refused : {A : Type 0} → Kind → ℕ → Reader A
refused kind at = λ c. Fault (record { offset = at; kind = kind })

-- so many times, one after the other
abbrev pub repeated : {A : Type 0} → ℕ → Reader A → Reader (List A)
repeated zero p = done []
repeated (suc n) p = do
  x ← p
  xs ← repeated n p
  done (x ∷ xs)

-- the bytes that the section has left
abbrev pub room_of : Cursor → ℕ
room_of c = c.end - c.at

-- those of them that are there
abbrev pub window : Cursor → List ℕ
window c = take (room_of c) c.rest

abbrev pub past : Cursor → ℕ → Cursor
past c len = record { at = c.at + len; rest = drop len c.rest; end = c.end }

-- the bytes there begin no such field: it is Malformed where the section's end cuts it off, and else more is owed
abbrev pub cut : {A : Type 0} → Reader A
cut c = if nat_le (room_of c) (length c.rest) then refused Malformed c.at c else Wants

-- a field is a pair of its offset and its value

abbrev pub first_of : Cursor → List ℕ → Read (ℕ × ℕ)
first_of c [] = cut c
first_of c (b ∷ bytes) = Got (c.at, b) (past c 1)

unfoldable pub byte : Reader (ℕ × ℕ)
byte = λ c. first_of c (window c)

abbrev pub from_reading : Cursor → Reading → Read (ℕ × ℤ)
from_reading c (Number n len) = Got (c.at, n) (past c len)
from_reading c CutOff = cut c
from_reading c Bad = refused Malformed c.at c

-- a LEB128 number (5.2.2)
unfoldable pub number : Bool → ℕ → Reader (ℕ × ℤ)
number signed bits = λ c. from_reading c (number_at signed bits (window c))

abbrev pub nat_of : ℤ → ℕ
nat_of (pos n) = n
nat_of (negsuc n) = 0

unfoldable pub u32 : Reader (ℕ × ℕ)
u32 = do
  n ← number false 32
  done (n.0, nat_of n.1)

-- a count, validated where it is
unfoldable pub count : ℕ → Reader (ℕ × ℕ)
count most = do
  n ← u32
  if nat_lt most n.1 then refused Limit n.0 else done n

-- a count, and so many of a kind
unfoldable pub vector : {A : Type 0} → Reader (ℕ × ℕ) → Reader A → Reader (ℕ × List A)
vector counted p = do
  n ← counted
  xs ← repeated n.1 p
  done (n.0, xs)

-- so many bytes of the section
unfoldable pub run : ℕ → Reader (List ℕ)
run n = λ c. if nat_lt (length (window c)) n then cut c else Got (take n (window c)) (past c n)

unfoldable pub room : Reader ℕ
room = λ c. Got (room_of c) c

-- where reading is, and where the section ends
unfoldable pub here : Reader ℕ
here = λ c. Got c.at c

unfoldable pub stop : Reader ℕ
stop = λ c. Got c.end c

-- a length, and so many bytes; a length past the section's end is Malformed
unfoldable pub counted_bytes : Reader (ℕ × List ℕ)
counted_bytes = do
  n ← u32
  left ← room
  if nat_lt left n.1 then refused Malformed n.0 else (do
    bytes ← run n.1
    done (n.0, bytes))

-- ---- names (5.2.4): one field, whose length counts before it is whole

-- a length of n that takes len bytes, and then the text
abbrev pub text_after : ℕ → ℕ → Reader (ℕ × List ℕ)
text_after len n = λ c.
    let text = take n (drop len (window c)) in
    if nat_lt (room_of c) (len + n) then refused Malformed c.at c
    else if completes n between text
    then (if nat_lt (length text) n then Wants
    else if nat_lt max_name n then refused Limit c.at c
    else Got (c.at, text) (past c (len + n)))
    else refused Malformed c.at c

-- the least number whose encoding begins so
abbrev pub least : List ℕ → ℕ
least [] = 0
least (b ∷ bytes) = b - 128 + 128 * least bytes

-- a name whose length is cut off: the shortest one that begins so has to be in the section
abbrev pub length_owed : Reader (ℕ × List ℕ)
length_owed = λ c. if nat_lt (room_of c) (length (window c) + 1 + least (window c)) then refused Malformed c.at c else Wants

abbrev pub name_from : Cursor → Reading → Read (ℕ × List ℕ)
name_from c (Number n len) = text_after len (nat_of n) c
name_from c CutOff = length_owed c
name_from c Bad = refused Malformed c.at c

unfoldable pub name : Reader (ℕ × List ℕ)
name = λ c. name_from c (number_at false 32 (window c))

-- ---- bytes that are given

-- one list begins as the other, as far as both go
abbrev pub agree : List ℕ → List ℕ → Bool
agree [] ys = true
agree (x ∷ xs) [] = true
agree (x ∷ xs) (y ∷ ys) = x == y && agree xs ys

unfoldable pub fixed : List ℕ → Reader ℕ
fixed bytes = λ c.
    if agree bytes (window c)
    then (if nat_lt (length (window c)) (length bytes) then cut c else Got c.at (past c (length bytes)))
    else refused Malformed c.at c
