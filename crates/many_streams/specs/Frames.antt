-- Frames: several modules interleaved in one input. A number is a u32, little-endian; an offset counts the input's bytes.
use Rattle.std.specs.Prelude.{◌≡◌, ◌<◌, ◌≤◌, ◌^◌, ◌⊎◌, ℕ, ◌==◌, ◌&&◌, ◌||◌, Bool, true, false, if◌then◌else◌, List, [], ◌∷◌, ◌++◌, length, slice_get, Some, take}
use Rattle.std.specs.Int.{w32, to_le_bytes}
use Rattle.many_streams.specs.declared.limits.TheConstants.{MAX_MODULES, MAX_INPUT}

-- a number's encoding
abbrev pub u32 : ℕ → List ℕ
u32 n = to_le_bytes w32 n

-- bytes of the module with this index; an empty chunk ends its module
pub record Chunk : Type 0 where
  pub index : ℕ
  pub bytes : List ℕ

-- a chunk's encoding: the module's index, the number of bytes, and the bytes
abbrev pub chunk_encoding : Chunk → List ℕ
chunk_encoding c = u32 c.index ++ (u32 (length c.bytes) ++ c.bytes)

abbrev pub chunks_encoding : List Chunk → List ℕ
chunks_encoding [] = []
chunks_encoding (c ∷ cs) = chunk_encoding c ++ chunks_encoding cs

-- the encoding of frames: the number of modules, and then the chunks
abbrev pub encoding : ℕ → List Chunk → List ℕ
encoding count cs = u32 count ++ chunks_encoding cs

-- the bytes of a module: those of its chunks, concatenated
abbrev pub bytes_of : ℕ → List Chunk → List ℕ
bytes_of i [] = []
bytes_of i (c ∷ cs) = (if c.index == i then c.bytes else []) ++ bytes_of i cs

-- whether a chunk ends a module, and whether one of some chunks does
abbrev pub ends : ℕ → Chunk → Bool
ends i c = (c.index == i) && (length c.bytes == 0)

abbrev pub is_ended : ℕ → List Chunk → Bool
is_ended i [] = false
is_ended i (c ∷ cs) = ends i c || is_ended i cs

-- a module of so many, which has not ended; there is one; or all have ended
abbrev pub IsOpen : ℕ → List Chunk → ℕ → Type 0
IsOpen count cs i = (i < count) × (is_ended i cs ≡ false)

abbrev pub IsOneOpen : ℕ → List Chunk → Type 0
IsOneOpen count cs = (i : ℕ) × IsOpen count cs i

abbrev pub AreEnded : ℕ → List Chunk → Type 0
AreEnded count cs = (i : ℕ) → i < count → is_ended i cs ≡ true

-- after some chunks, one of an open module may follow, whose length is a u32
pub record MayFollow (count : ℕ) (before : List Chunk) (c : Chunk) : Type 0 where
  pub going : IsOpen count before c.index
  pub short : length c.bytes < 2 ^ 32

-- each of them may follow those before it
abbrev pub AreInOrder : ℕ → List Chunk → List Chunk → Type 0
AreInOrder count before [] = Unit {0}
AreInOrder count before (c ∷ cs) = MayFollow count before c × AreInOrder count (before ++ c ∷ []) cs

-- there are 1 to 64 modules, and chunks of these, none after its module's end
pub record AreWellFormed (count : ℕ) (cs : List Chunk) : Type 0 where
  pub some : 0 < count
  pub few : count ≤ MAX_MODULES
  pub chunks : AreInOrder count [] cs

-- the bytes begin with well-formed chunks, after which the rest comes
pub record Begins (bytes : List ℕ) (count : ℕ) (cs : List Chunk) (rest : List ℕ) : Type 0 where
  pub formed : AreWellFormed count cs
  pub are : bytes ≡ encoding count cs ++ rest

-- the bytes are well-formed chunks, with which every module ends
pub record AreWhole (bytes : List ℕ) (count : ℕ) (cs : List Chunk) : Type 0 where
  pub formed : AreWellFormed count cs
  pub ended : AreEnded count cs
  pub are : bytes ≡ encoding count cs

-- The bytes are frames, no more than an input may have, and this is the list of the modules' bytes
pub record Frames (bytes : List ℕ) (list : List (List ℕ)) : Type 0 where
  pub count : ℕ
  pub chunks : List Chunk
  pub whole : AreWhole bytes count chunks
  pub short : length bytes ≤ MAX_INPUT
  pub modules : length list ≡ count
  pub each : (i : ℕ) → i < count → slice_get list i ≡ Some (bytes_of i chunks)

-- ---- bytes that end too soon

-- a chunk that ends in its length; or in its bytes, of which it has fewer than its length says
abbrev pub EndsInLength : List ℕ → Type 0
EndsInLength rest = length rest < 4

abbrev pub EndsInBytes : List ℕ → Type 0
EndsInBytes rest = (n : ℕ) × (came : List ℕ) × (n < 2 ^ 32) × (length came < n) × (rest ≡ u32 n ++ came)

-- less than a chunk: less than an index; or the index of an open module, and not all that follows it
abbrev pub IsCutChunk : ℕ → List Chunk → List ℕ → Type 0
IsCutChunk count cs bytes =
    (length bytes < 4) ⊎ ((i : ℕ) × (rest : List ℕ) × IsOpen count cs i × (bytes ≡ u32 i ++ rest) × (EndsInLength rest ⊎ EndsInBytes rest))

-- well-formed chunks, and less than the next one of a module that has not ended
pub record IsCutInChunk (bytes : List ℕ) : Type 0 where
  pub count : ℕ
  pub chunks : List Chunk
  pub rest : List ℕ
  pub begins : Begins bytes count chunks rest
  pub owes : IsOneOpen count chunks
  pub cut : IsCutChunk count chunks rest

-- less than the number of modules; or less than the chunks
abbrev pub IsCut : List ℕ → Type 0
IsCut bytes = (length bytes < 4) ⊎ IsCutInChunk bytes

-- The bytes are cut off: more of them may make frames
pub record IsCutOff (bytes : List ℕ) : Type 0 where
  pub short : length bytes ≤ MAX_INPUT
  pub cut : IsCut bytes

-- ---- errors, each with its offset

-- the number of modules is none, or above 64
pub record IsBadCount (bytes : List ℕ) (at : ℕ) : Type 0 where
  pub place : at ≡ 0
  pub count : ℕ
  pub more : List ℕ
  pub fits : count < 2 ^ 32
  pub bad : (count ≡ 0) ⊎ (MAX_MODULES < count)
  pub are : bytes ≡ u32 count ++ more

-- a chunk's index is that of no module, or of one that has ended
pub record IsBadIndex (bytes : List ℕ) (at : ℕ) : Type 0 where
  pub count : ℕ
  pub chunks : List Chunk
  pub index : ℕ
  pub more : List ℕ
  pub begins : Begins bytes count chunks (u32 index ++ more)
  pub owes : IsOneOpen count chunks
  pub fits : index < 2 ^ 32
  pub bad : (count ≤ index) ⊎ (is_ended index chunks ≡ true)
  pub place : at ≡ length (encoding count chunks)

-- a byte follows the last module's end
pub record IsTrailing (bytes : List ℕ) (at : ℕ) : Type 0 where
  pub count : ℕ
  pub chunks : List Chunk
  pub byte : ℕ
  pub more : List ℕ
  pub begins : Begins bytes count chunks (byte ∷ more)
  pub ended : AreEnded count chunks
  pub place : at ≡ length (encoding count chunks)

abbrev pub IsError : List ℕ → ℕ → Type 0
IsError bytes at = IsBadCount bytes at ⊎ IsBadIndex bytes at ⊎ IsTrailing bytes at

-- a byte follows as many as an input may have, among which no error is
pub record IsTooLong (bytes : List ℕ) (at : ℕ) : Type 0 where
  pub place : at ≡ MAX_INPUT
  pub long : MAX_INPUT < length bytes
  pub right : IsCut (take MAX_INPUT bytes) ⊎ ((count : ℕ) × (cs : List Chunk) × AreWhole (take MAX_INPUT bytes) count cs)

-- The bytes are no frames from this offset on, whatever follows
abbrev pub IsBadFrame : List ℕ → ℕ → Type 0
IsBadFrame bytes at = IsError (take MAX_INPUT bytes) at ⊎ IsTooLong bytes at
