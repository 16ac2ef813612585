-- What every reader of fields keeps to (WebAssembly Core 1.0, 5.2 to 5.5): more bytes after those that it read change
-- nothing but where more were owed; it takes bytes from the beginning, and none past the section's end; an error is at a byte
-- that is there, or where the bytes end; and nothing is owed where the whole section is there.
use Rattle.std.specs.Prelude.{◌≡◌, ◌≤◌, ◌<◌, ℕ, ◌+◌, Bool, List, [], ◌∷◌, ◌++◌, length}
use Rattle.wasm_defs.specs.declared.fault.Refusal.{Refusal}
use Rattle.wasm_defs.specs.declared.token.Token.{Token}
use Rattle.wasm_defs.specs.Fields.{Cursor, Read, Got, Fault, Wants, Reader, ◌>>=◌, byte, room_of}
use Rattle.wasm_defs.specs.Entries.{Seen}
use Rattle.wasm_defs.specs.Outside.{Nothing, Row, inside, no_end}
use Rattle.wasm_defs.specs.Bodies.{instruction}

-- a fact of the value that was got, and of what follows it
abbrev pub IfGot : {A : Type 0} → (A → Cursor → Type 0) → Read A → Type 0
IfGot P (Got x d) = P x d
IfGot P (Fault r) = Unit {0}
IfGot P Wants = Unit {0}

-- ---- more bytes

abbrev pub with_more : Cursor → List ℕ → Cursor
with_more c more = record { at = c.at; rest = c.rest ++ more; end = c.end }

-- a value stays, with the more bytes after what it left; an error stays; what was owed may come to anything
pub data Extends (A : Type 0) (more : List ℕ) : Read A → Read A → Type 0 where
  got : (x : A) (c : Cursor) → Extends A more (Got x c) (Got x (with_more c more))
  faulty : (r : Refusal) → Extends A more (Fault r) (Fault r)
  owed : (later : Read A) → Extends A more Wants later

-- ---- bytes that are taken

-- some bytes of the section were taken
pub record Advance (c d : Cursor) : Type 0 where
  pub taken : List ℕ
  pub parts : c.rest ≡ taken ++ d.rest
  pub at : d.at ≡ c.at + length taken
  pub end : d.end ≡ c.end
  pub fits : length taken ≤ room_of c

abbrev pub Advances : {A : Type 0} → Cursor → Read A → Type 0
Advances c = IfGot (λ x d. Advance c d)

-- ---- offsets of errors

-- an error that reading meets from the cursor on: no earlier than low, and no later than where the bytes that are there
-- end; where they end before the section does, it is at one of them
pub record Stands (low : ℕ) (c : Cursor) (r : Refusal) : Type 0 where
  pub from : low ≤ r.offset
  pub within : r.offset ≤ c.at + length c.rest
  pub at_a_byte : length c.rest < room_of c → r.offset < c.at + length c.rest

abbrev pub StandsIn : {A : Type 0} → ℕ → Cursor → Read A → Type 0
StandsIn low c (Got x d) = Unit {0}
StandsIn low c (Fault r) = Stands low c r
StandsIn low c Wants = Unit {0}

-- marks, the offsets of fields that were read before: from low on, and before the cursor
abbrev pub AreBehind : ℕ → Cursor → List ℕ → Type 0
AreBehind low c [] = Unit {0}
AreBehind low c (mark ∷ marks) = (low ≤ mark) × (mark < c.at) × AreBehind low c marks

-- ---- what is decided

-- the whole section is there
abbrev pub IsThere : Cursor → Type 0
IsThere c = room_of c ≤ length c.rest

abbrev pub IsDecided : {A : Type 0} → Read A → Type 0
IsDecided (Got x d) = Unit {0}
IsDecided (Fault r) = Unit {0}
IsDecided Wants = ⊥

-- ---- steady readers

-- a reader whose errors may be at the marks too: at fields before it, which it was given
pub record Steady {A : Type 0} (marks : List ℕ) (p : Reader A) : Type 0 where
  pub by : (c : Cursor) (more : List ℕ) → Extends A more (p c) (p (with_more c more))
  pub moves : (c : Cursor) → Advances c (p c)
  pub place : (low : ℕ) (c : Cursor) → low ≤ c.at → AreBehind low c marks → StandsIn low c (p c)
  pub decides : (c : Cursor) → IsThere c → IsDecided (p c)

-- a byte at least is taken
abbrev pub LeavesFewer : {A : Type 0} → Cursor → Read A → Type 0
LeavesFewer c = IfGot (λ x d. length d.rest < length c.rest)

pub record Takes {A : Type 0} (p : Reader A) : Type 0 where
  pub some : (c : Cursor) → LeavesFewer c (p c)

-- a section's row: what is before its entries, each of them, and what follows
pub record SteadyRow (r : Row) : Type 0 where
  pub front : (seen : Seen) → Steady [] (r.front seen)
  pub entry : (seen : Seen) → Steady [] (r.entry seen)
  pub back : Steady [] r.back
  pub takes : (seen : Seen) → Takes (r.entry seen)

-- the end of a section takes nothing, and is met where nothing of the section is left
abbrev pub Leaves : Cursor → Read Nothing → Type 0
Leaves c = IfGot (λ x d. (room_of c ≡ 0) × (d ≡ inside c no_end))

pub record SteadyEnd (p : Reader Nothing) : Type 0 where
  pub by : (c : Cursor) (more : List ℕ) → Extends Nothing more (p c) (p (with_more c more))
  pub leaves : (c : Cursor) → Leaves c (p c)
  pub place : (c : Cursor) → StandsIn c.at c (p c)
  pub decides : (c : Cursor) → IsThere c → IsDecided (p c)

-- a token of a body: an opcode, and what follows it (5.4)
abbrev pub token : Bool → Reader Token
token counted = do
  b ← byte
  instruction counted b.0 b.1
