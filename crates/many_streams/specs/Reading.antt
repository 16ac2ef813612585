-- How far frames were read.
use Rattle.std.specs.Prelude.{◌≡◌, ◌<◌, ◌≤◌, ◌^◌, ℕ, ◌+◌, ◌==◌, Bool, true, false, if◌then◌else◌, List, [], ◌∷◌, ◌++◌, length, slice_index_or, slice_set, take, Result, Ok, Err, Option, Some, None, slice_get}
use Rattle.many_streams.specs.declared.limits.TheConstants.{MAX_INPUT}
use Rattle.many_streams.specs.declared.reader.Next.{Next}
use Rattle.many_streams.specs.declared.reader.Next.TheVariants as next
use Rattle.many_streams.specs.declared.reader.Taken.{Taken}
use Rattle.many_streams.specs.declared.reader.Taken.TheVariants as taken
use Rattle.many_streams.specs.Frames.{Chunk, u32, encoding, bytes_of, is_ended, IsOpen, IsOneOpen, AreEnded, AreWellFormed, Frames, IsCutOff, IsBadFrame}

-- the offset, the number of modules, which of them have ended, the bytes that came of a number, and what comes next
pub record Progress : Type 0 where
  pub at : ℕ
  pub modules : ℕ
  pub ended : List Bool
  pub number : List ℕ
  pub next : Next

-- the flags say which modules have ended after these chunks
abbrev pub AreFlags : ℕ → List Bool → List Chunk → Type 0
AreFlags modules flags cs = (length flags ≡ 64) × ((i : ℕ) → i < modules → slice_index_or flags i false ≡ is_ended i cs)

-- all modules have ended, as the flags say
abbrev pub AreAllSet : ℕ → List Bool → Type 0
AreAllSet modules flags = (i : ℕ) → i < modules → slice_index_or flags i false ≡ true

-- well-formed chunks came, and a module is open
pub record IsAmong (modules : ℕ) (flags : List Bool) (cs : List Chunk) : Type 0 where
  pub formed : AreWellFormed modules cs
  pub known : AreFlags modules flags cs
  pub owes : IsOneOpen modules cs

-- of each module the bytes of its chunks came
abbrev pub AreOf : (ℕ → List ℕ) → List Chunk → Type 0
AreOf of cs = (i : ℕ) → of i ≡ bytes_of i cs

-- and of one these bytes more
abbrev pub AreOfWith : (ℕ → List ℕ) → List Chunk → ℕ → List ℕ → Type 0
AreOfWith of cs m came = (i : ℕ) → of i ≡ bytes_of i cs ++ (if m == i then came else [])

-- the bytes that came, by what comes next
abbrev pub StandsAt : Next → Progress → List ℕ → (ℕ → List ℕ) → Type 0
StandsAt next.Count p bytes of =
    (bytes ≡ p.number) × (length p.ended ≡ 64) × ((i : ℕ) → i < 64 → slice_index_or p.ended i false ≡ false) × ((i : ℕ) → of i ≡ [])
    × (p.modules ≡ 0)
StandsAt next.Index p bytes of = (cs : List Chunk) × IsAmong p.modules p.ended cs × (bytes ≡ encoding p.modules cs ++ p.number) × AreOf of cs
StandsAt (next.Length m) p bytes of =
    (cs : List Chunk) × IsAmong p.modules p.ended cs × IsOpen p.modules cs m × (bytes ≡ encoding p.modules cs ++ (u32 m ++ p.number)) × AreOf of cs
StandsAt (next.Bytes m left) p bytes of =
    (cs : List Chunk) × (came : List ℕ) × IsAmong p.modules p.ended cs × IsOpen p.modules cs m × (p.number ≡ []) × (0 < left) × (length came + left < 2 ^ 32)
    × (bytes ≡ encoding p.modules cs ++ (u32 m ++ (u32 (length came + left) ++ came))) × AreOfWith of cs m came
StandsAt next.Nothing p bytes of =
    (cs : List Chunk) × AreWellFormed p.modules cs × AreEnded p.modules cs × AreAllSet p.modules p.ended × (p.number ≡ []) × (bytes ≡ encoding p.modules cs) × AreOf of cs

-- these bytes came, and of each module these
pub record IsReading (bytes : List ℕ) (of : ℕ → List ℕ) (p : Progress) : Type 0 where
  pub few : length bytes ≤ MAX_INPUT
  pub at : p.at ≡ length bytes
  pub stands : StandsAt p.next p bytes of

-- no error came
abbrev pub MayTake : Progress → Type 0
MayTake p = (bytes : List ℕ) × (of : ℕ → List ℕ) × IsReading bytes of p

-- one module has these bytes more
abbrev pub with_more : (ℕ → List ℕ) → ℕ → List ℕ → ℕ → List ℕ
with_more of m more i = of i ++ (if m == i then more else [])

-- how many bytes were taken
abbrev pub byte_count : Taken → ℕ
byte_count taken.Number = 1
byte_count taken.Count = 1
byte_count (taken.End m) = 1
byte_count (taken.Bytes m n) = n

-- ---- a number's last byte came

-- these bytes came, and no part of a further number
pub record IsBetween (bytes : List ℕ) (p : Progress) : Type 0 where
  pub few : length bytes ≤ MAX_INPUT
  pub at : p.at ≡ length bytes
  pub number : p.number ≡ []

-- the number is that of the modules
pub record HasCount (bytes : List ℕ) (of : ℕ → List ℕ) (p : Progress) (n : ℕ) : Type 0 where
  pub between : IsBetween bytes p
  pub are : bytes ≡ u32 n
  pub flags : (length p.ended ≡ 64) × ((i : ℕ) → i < 64 → slice_index_or p.ended i false ≡ false)
  pub each : (i : ℕ) → of i ≡ []
  pub none : p.modules ≡ 0

-- it is a chunk's index
pub record HasIndex (bytes : List ℕ) (of : ℕ → List ℕ) (p : Progress) (n : ℕ) : Type 0 where
  pub between : IsBetween bytes p
  pub chunks : List Chunk
  pub among : IsAmong p.modules p.ended chunks
  pub are : bytes ≡ encoding p.modules chunks ++ u32 n
  pub each : AreOf of chunks

-- it is the length of a chunk of this module
pub record HasLength (bytes : List ℕ) (of : ℕ → List ℕ) (p : Progress) (m n : ℕ) : Type 0 where
  pub between : IsBetween bytes p
  pub chunks : List Chunk
  pub among : IsAmong p.modules p.ended chunks
  pub going : IsOpen p.modules chunks m
  pub are : bytes ≡ encoding p.modules chunks ++ (u32 m ++ u32 n)
  pub each : AreOf of chunks

-- it was taken, or is an error
abbrev pub TakesNumber : List ℕ → (ℕ → List ℕ) → Result Taken ℕ → Progress → Progress → Type 0
TakesNumber bytes of (Ok taken.Number) p p' = IsReading bytes of p' × (p'.modules ≡ p.modules)
TakesNumber bytes of (Ok taken.Count) p p' = IsReading bytes of p' × ((i : ℕ) → of i ≡ []) × (p.modules ≡ 0)
TakesNumber bytes of (Ok (taken.End m)) p p' = IsReading bytes of p' × (p'.modules ≡ p.modules) × (m < p.modules)
TakesNumber bytes of (Ok (taken.Bytes m n)) p p' = ⊥
TakesNumber bytes of (Err at) p p' = (more : List ℕ) → IsBadFrame (bytes ++ more) at

-- a number comes next
abbrev pub IsNumberNext : Next → Type 0
IsNumberNext next.Count = Unit {0}
IsNumberNext next.Index = Unit {0}
IsNumberNext (next.Length m) = Unit {0}
IsNumberNext (next.Bytes m left) = ⊥
IsNumberNext next.Nothing = ⊥

-- the last byte of this number was taken
pub record IsKnown (piece : List ℕ) (n : ℕ) (p p' : Progress) : Type 0 where
  pub byte : ℕ
  pub taken : take 1 piece ≡ byte ∷ []
  pub number : u32 n ≡ p.number ++ byte ∷ []
  pub after : p' ≡ record p { at = p.at + 1; number = [] }
  pub room : p.at < MAX_INPUT

-- a byte of a number was taken, its last one or another; or it has no room
abbrev pub TakesDigit : List ℕ → (ℕ → List ℕ) → List ℕ → Result (Option ℕ) ℕ → Progress → Progress → Type 0
TakesDigit bytes of piece (Ok None) p p' = IsReading (bytes ++ take 1 piece) of p' × (p'.modules ≡ p.modules)
TakesDigit bytes of piece (Ok (Some n)) p p' = IsKnown piece n p p'
TakesDigit bytes of piece (Err at) p p' = (more : List ℕ) → IsBadFrame (bytes ++ (piece ++ more)) at

-- some bytes of a piece were taken; or with the piece there is a bad frame, whatever follows
abbrev pub Takes : List ℕ → (ℕ → List ℕ) → List ℕ → Result Taken ℕ → Progress → Progress → Type 0
Takes bytes of piece (Ok taken.Number) p p' = IsReading (bytes ++ take 1 piece) of p' × (p'.modules ≡ p.modules)
Takes bytes of piece (Ok taken.Count) p p' = IsReading (bytes ++ take 1 piece) of p' × ((i : ℕ) → of i ≡ []) × (p.modules ≡ 0)
Takes bytes of piece (Ok (taken.End m)) p p' = IsReading (bytes ++ take 1 piece) of p' × (p'.modules ≡ p.modules) × (m < p.modules)
Takes bytes of piece (Ok (taken.Bytes m n)) p p' =
    IsReading (bytes ++ take n piece) (with_more of m (take n piece)) p' × (p'.modules ≡ p.modules) × (m < p.modules) × (0 < n) × (n ≤ length piece)
Takes bytes of piece (Err at) p p' = (more : List ℕ) → IsBadFrame (bytes ++ (piece ++ more)) at

-- which modules have ended, before and after: bytes are of a module that has not, and its end sets its flag
abbrev pub SetsFlags : Result Taken ℕ → List Bool → List Bool → Type 0
SetsFlags (Ok taken.Number) old new = new ≡ old
SetsFlags (Ok taken.Count) old new = (i : ℕ) → i < 64 → slice_index_or new i false ≡ false
SetsFlags (Ok (taken.End m)) old new = (slice_index_or old m false ≡ false) × (m < length old) × (new ≡ slice_set old m true)
SetsFlags (Ok (taken.Bytes m n)) old new = (slice_index_or old m false ≡ false) × (new ≡ old)
SetsFlags (Err at) old new = Unit {0}

-- no bytes follow: they are frames, or they are cut off
abbrev pub Ends : List ℕ → (ℕ → List ℕ) → Result (Unit {0}) ℕ → Progress → Type 0
Ends bytes of (Ok done) p = (list : List (List ℕ)) → length list ≡ p.modules → ((i : ℕ) → i < p.modules → slice_get list i ≡ Some (of i)) → Frames bytes list
Ends bytes of (Err at) p = IsCutOff bytes × (at ≡ length bytes)
