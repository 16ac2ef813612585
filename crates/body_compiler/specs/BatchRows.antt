-- What comes of a batch of bodies.
use Rattle.std.specs.Prelude.{◌≡◌, ◌≢◌, ◌⊎◌, ℕ, ◌+◌, ◌*◌, ◌<◌, ◌≤◌, List, [], ◌∷◌, ◌++◌, length, slice_index, Option, None, Some, IsSome, is_some, Result, Ok, Err}
use Rattle.std.specs.Arc.{arc_value}
use Rattle.wasm_defs.specs.declared.fault.Refusal.{Refusal}
use Rattle.wasm_defs.specs.Bodies.{body_read}
use Rattle.wasm_defs.specs.Limits.{max_text}
use Rattle.wasm_defs.specs.Typing.{function_type}
use Rattle.wasm_defs.specs.Instances.{first_minimum}
use Rattle.index_spaces.specs.Spaces.{Spaces, context_in}
use Rattle.rv_isa.specs.declared.compiled.Code.{Code}
use Rattle.body_cutter.specs.Bodies.{Body}
use Rattle.body_compiler.specs.declared.code.BodyStop.{BodyStop}
use Rattle.body_compiler.specs.declared.code.BodyStop.TheVariants.{Refused}
use Rattle.result_cells.specs.Rooms.{Store, Reserved, Short}
use Rattle.body_compiler.specs.declared.batch.row.Row.{Row}
use Rattle.body_compiler.specs.declared.batch.row.RowCode.{RowCode}
use Rattle.body_compiler.specs.declared.batch.row.Stored.{Stored}
use Rattle.body_compiler.specs.declared.batch.row.Stored.TheVariants.{Cell, Apart, Judged, NoRoom, TooLong}
use Rattle.body_compiler.specs.declared.batch.bodies.Made.{Made}
use Rattle.body_compiler.specs.declared.batch.bodies.Made.TheVariants.{Coded, Faulty, Cut}
use Rattle.body_compiler.specs.Compiling.{Compiles}

-- the function of a body is in the context
abbrev pub FitsBody : Spaces → Body → Type 0
FitsBody c b = IsSome (function_type (context_in c) b.index)

-- the compiling of a body answers this
abbrev pub CompilesBody : Spaces → Body → Result Code BodyStop → Type 0
CompilesBody c b made = Compiles (first_minimum c.tables) b.first (context_in c) b.index (body_read (is_some c.data_count) b.first b.bytes) made

-- room for as many words as the code has was taken
abbrev pub IsRoomFor : Store → Reserved → Code → Type 0
IsRoomFor cells taken code = (taken.room ≡ cells.room.table) × (taken.words ≡ length code.words)

-- no room is left for any code
abbrev pub IsExhausted : Store → Short → Type 0
IsExhausted cells short = (short.room ≡ cells.room.table) × (short.left ≡ 0)

-- a worker makes at most so many words of one body
abbrev pub max_draft : ℕ
max_draft = 1048576

-- This is kept of the code of the function with this index: a note of the function's cell, which knows the code; or the code, with such
-- a note, which knows another one; and the room that was taken for it. Or how many words it has, where the function has no cell, a
-- worker makes fewer, or fewer were left, which were taken. Or that it has more words than a text
abbrev pub Stores : Store → ℕ → Stored → Code → Type 0
Stores cells index (Cell note taken) code =
    (index < length cells.names) × (note.cell ≡ slice_index cells.names index) × (note.known ≡ Some code) × IsRoomFor cells taken code
Stores cells index (Apart note taken kept) code =
    (index < length cells.names) × (note.cell ≡ slice_index cells.names index) × ((held : Code) × (note.known ≡ Some held) × (held ≢ code))
    × (arc_value kept ≡ code) × IsRoomFor cells taken code
Stores cells index (Judged words) code = ((length cells.names ≤ index) ⊎ (max_draft < length code.words)) × (words ≡ length code.words)
Stores cells index (NoRoom words short) code =
    (index < length cells.names) × (words ≡ length code.words) × IsExhausted cells short × (short.taken < length code.words)
Stores cells index TooLong code = max_text < 4 * length code.words

-- it is of the body's code
pub record IsCodeFor (c : Spaces) (cells : Store) (b : Body) (k : RowCode) : Type 0 where
  pub index : k.index ≡ b.index
  pub code : Code
  pub is : Stores cells b.index k.stored code
  pub compiled : CompilesBody c b (Ok code)

-- each body has its code
abbrev pub AreCodesFor : Spaces → Store → List Body → List RowCode → Type 0
AreCodesFor c cells [] [] = Unit {0}
AreCodesFor c cells [] (k ∷ ks) = ⊥
AreCodesFor c cells (b ∷ bs) [] = ⊥
AreCodesFor c cells (b ∷ bs) (k ∷ ks) = IsCodeFor c cells b k × AreCodesFor c cells bs ks

abbrev pub IsMade : Spaces → Store → Body → Made → Type 0
IsMade c cells b (Coded k) = IsCodeFor c cells b k
IsMade c cells b (Faulty r) = CompilesBody c b (Err (Refused r)) × (r.offset < b.first + length b.bytes)
IsMade c cells b (Cut short) = IsExhausted cells short

-- All bodies have their codes. Or the first of them have theirs, and then no room was left for any code. Or those before the first with an
-- error have theirs, and this is that error
abbrev pub IsRow : Spaces → Store → List Body → List RowCode → Option Refusal → Option Short → Type 0
IsRow c cells bodies codes None None = AreCodesFor c cells bodies codes
IsRow c cells bodies codes None (Some short) =
    (before : List Body) × (after : List Body) × (bodies ≡ before ++ after) × AreCodesFor c cells before codes × IsExhausted cells short
IsRow c cells bodies codes (Some r) (Some short) = ⊥
IsRow c cells bodies codes (Some r) None =
    (before : List Body) × (b : Body) × (after : List Body) × (bodies ≡ before ++ b ∷ after) × AreCodesFor c cells before codes
    × CompilesBody c b (Err (Refused r)) × (r.offset < b.first + length b.bytes)

abbrev pub IsRowOf : Spaces → Store → Row → Type 0
IsRowOf c cells row = IsRow c cells (arc_value row.batch).bodies row.codes row.fault row.cut

-- a row that is at hand is right
abbrev pub IsRowIf : Spaces → Store → Option Row → Type 0
IsRowIf c cells None = Unit {0}
IsRowIf c cells (Some row) = IsRowOf c cells row
