-- Function bodies that are complete, one after the other.
use Rattle.std.specs.Prelude.{◌≡◌, ℕ, ◌+◌, ◌≤◌, List, [], ◌∷◌, ◌++◌, length, take, drop, slice_index_or}
use Rattle.std.specs.List.{between}
use Rattle.wasm_defs.specs.Limits.{max_body}
use Rattle.body_cutter.specs.declared.body.BodyView.{BodyView}
use Rattle.body_cutter.specs.declared.body.Cut.{Cut}
use Rattle.body_cutter.specs.declared.body.Mark.{Mark}

-- a function body in the code section (WebAssembly Core 1.0, 5.5.13): the index of its function, the offsets of its size and of its
-- first byte, and its bytes
pub record Body : Type 0 where
  pub index : ℕ
  pub size : ℕ
  pub first : ℕ
  pub bytes : List ℕ

-- the body that a view shows
abbrev pub body_of : BodyView → Body
body_of v = record { index = v.index; size = v.size; first = v.first; bytes = v.bytes.now }

-- what an index behind the last body gives: a body of no bytes
abbrev pub no_body : Body
no_body = record { index = 0; size = 0; first = 0; bytes = [] }

-- the body of an index, if there is one
abbrev pub body_at : List Body → ℕ → Body
body_at bodies k = slice_index_or bodies k no_body

-- how many bytes they have in all
abbrev pub byte_count : List Body → ℕ
byte_count [] = 0
byte_count (b ∷ bodies) = length b.bytes + byte_count bodies

-- ---- bodies in one list of bytes

-- the body of a cut, whose bytes begin at this index
abbrev pub body_between : List ℕ → ℕ → Cut → Body
body_between bytes begin cut = record { index = cut.index; size = cut.size; first = cut.first; bytes = between begin cut.end bytes }

-- the bodies of cuts, of which the first begins at this index
abbrev pub cut_bodies : List ℕ → ℕ → List Cut → List Body
cut_bodies bytes begin [] = []
cut_bodies bytes begin (cut ∷ cuts) = body_between bytes begin cut ∷ cut_bodies bytes cut.end cuts

-- where the last of them ends
abbrev pub last_end : ℕ → List Cut → ℕ
last_end begin [] = begin
last_end begin (cut ∷ cuts) = last_end cut.end cuts

-- where the cut of an index begins
abbrev pub begin_of : List Cut → ℕ → ℕ
begin_of cuts k = last_end 0 (take k cuts)

-- no body is longer than one may be, and none ends behind so many bytes
abbrev pub AreCuts : (bytes begin : ℕ) → List Cut → Type 0
AreCuts bytes begin [] = begin ≤ bytes
AreCuts bytes begin (cut ∷ cuts) = (begin ≤ cut.end) × (cut.end ≤ begin + max_body) × AreCuts bytes cut.end cuts

-- ---- bodies, and the bytes that came of one more

-- complete bodies, and what came of the next one
pub record Block : Type 0 where
  pub bodies : List Body
  pub rest : List ℕ

-- the block of a list of bytes: the bodies of its cuts, and the bytes behind the last of them, which are those of the body in hand
abbrev pub block_of : List ℕ → List Cut → Block
block_of bytes cuts = record { bodies = cut_bodies bytes 0 cuts; rest = drop (last_end 0 cuts) bytes }

-- the block of no bytes
abbrev pub no_bodies : Block
no_bodies = record { bodies = []; rest = [] }

-- the bytes of all bodies, in order
abbrev pub all_bytes : List Body → List ℕ
all_bytes [] = []
all_bytes (b ∷ bodies) = b.bytes ++ all_bytes bodies

-- its bytes, in order
abbrev pub bytes_in : Block → List ℕ
bytes_in b = all_bytes b.bodies ++ b.rest

-- how many bodies and bytes it has
abbrev pub mark_of : Block → Mark
mark_of b = record { bodies = length b.bodies; bytes = length (bytes_in b) }

-- the first ones of its bodies and of its bytes are these
pub record Begins (saved b : Block) : Type 0 where
  pub bodies : take (length saved.bodies) b.bodies ≡ saved.bodies
  pub bytes : take (length (bytes_in saved)) (bytes_in b) ≡ bytes_in saved
