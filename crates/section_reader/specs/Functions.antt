-- Functions of the function section (WebAssembly Core 1.0, 5.5.6), many at once.
use Rattle.std.specs.Prelude.{◌≡◌, ◌≤◌, ◌<◌, ℕ, ◌+◌, pos, false, List, [], ◌++◌, None, map, length, take, drop}
use Rattle.wasm_defs.specs.Numbers.{Number, number_at}
use Rattle.wasm_defs.specs.declared.item.Item.TheVariants.{Function}
use Rattle.wasm_defs.specs.Fields.{Cursor, Got, repeated, window, past}
use Rattle.wasm_defs.specs.Entries.{Seen, listed_index}
use Rattle.wasm_defs.specs.Outside.{Part, Listed}
use Rattle.section_reader.specs.declared.functions.Functions.{Functions}
use Rattle.section_reader.specs.declared.front.Front.{Front}
use Rattle.section_reader.specs.declared.stage.Stage.TheVariants.{Entries}
use Rattle.section_reader.specs.Stages.{is_at_bodies}
use Rattle.section_reader.specs.Onward.{after_parts}
use Rattle.section_reader.specs.FrontLeft.{left, total}
use Rattle.section_reader.specs.FrontOnward.{remaining_parts}

-- ---- type indices

-- the index of one of so many types is among the bytes, up to a place
pub record IsIndexAt (types : ℕ) (bytes : List ℕ) (place i next : ℕ) : Type 0 where
  pub len : ℕ
  pub number : number_at false 32 (drop place bytes) ≡ Number (pos i) len
  pub ends : next ≡ place + len
  pub some : 0 < len
  pub within : next ≤ length bytes
  pub known : i < types

-- the bytes of a section begin with so many indices, in so many bytes
pub record AreRead (types : ℕ) (bytes : List ℕ) (read : Functions) (indices : List ℕ) : Type 0 where
  pub room : read.count ≤ length indices
  pub within : read.bytes ≤ length bytes
  pub each : read.count ≤ read.bytes
  pub from : (c : Cursor) → window c ≡ bytes → repeated read.count (listed_index types) c ≡ Got (take read.count indices) (past c read.bytes)

-- ---- functions

-- so many functions came
abbrev pub declares : Seen → ℕ → Seen
declares seen n = record seen { functions = seen.functions + n; declared = seen.declared + n }

-- a function's type index, with its offset, as a part
abbrev pub function_part : ℕ × ℕ → Part
function_part i = Listed (Function i)

-- so many functions come next
pub record IsAtFunctions (f : Front) (owed : ℕ) : Type 0 where
  pub stage : f.steps.stage ≡ Entries 3 owed
  pub none : f.kept.items ≡ []
  pub waiting : f.waiting ≡ None
  pub refusal : f.refusal ≡ None

-- the bytes begin with so many functions, of these types: they are reported, and what is left comes after them
pub record TakesFunctions (old : Front) (bytes : List ℕ) (read : Functions) (types : List ℕ) (new : Front) : Type 0 where
  pub room : read.count ≤ length types
  pub some : read.bytes ≤ length bytes
  -- the indices with their offsets
  pub indices : List (ℕ × ℕ)
  pub are : take read.count types ≡ map (λ i. i.1) indices
  pub same : (more : List ℕ) → left old (bytes ++ more) ≡ after_parts (map function_part indices) (left new (drop read.bytes bytes ++ more))
  pub onward : (more : List ℕ) → remaining_parts old (bytes ++ more) ≡ after_parts (map function_part indices) (remaining_parts new (drop read.bytes bytes ++ more))
  pub total_is : total new ≡ total old + read.bytes
  pub waiting : new.waiting ≡ old.waiting
  pub apart : is_at_bodies old.steps.stage ≡ false → is_at_bodies new.steps.stage ≡ false
