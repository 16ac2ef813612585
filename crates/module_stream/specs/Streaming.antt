-- What is left of a module while its bytes come.
use Rattle.std.specs.Prelude.{All, ◌≡◌, ◌≢◌, ◌≤◌, ◌<◌, ◌⊎◌, ℕ, ◌+◌, ◌*◌, ◌^◌, List, [], ◌++◌, length, drop, true, false, Option, None, Some, IfSome, Result, Ok, Err}
use Rattle.wasm_defs.specs.declared.front_stop.FrontStop.{FrontStop}
use Rattle.wasm_defs.specs.declared.front_stop.FrontStop.TheVariants.{Refused, NoMemory}
use Rattle.wasm_defs.specs.Faults.{Rejected}
use Rattle.wasm_defs.specs.declared.item.Item.{Item}
use Rattle.wasm_defs.specs.declared.fault.Refusal.{Refusal}
use Rattle.wasm_defs.specs.declared.fault.Kind.TheVariants.{Ended}
use Rattle.wasm_defs.specs.Outside.{Listed, Run, after_part}
use Rattle.wasm_defs.specs.Outside as outside
use Rattle.section_reader.specs.declared.front.Front.{Front}
use Rattle.section_reader.specs.Stages.{is_at_bodies}
use Rattle.section_reader.specs.FrontLeft.{total, can_skip}
use Rattle.section_reader.specs.FrontOnward.{remaining_parts, Follows}
use Rattle.body_cutter.specs.Bodies.{Body, byte_count}
use Rattle.body_cutter.specs.Cuttings.{Cutting, left, is_whole}
use Rattle.image_linker.specs.Judging.{IsVerdictOf}
use Rattle.module_stream.specs.Limits.{max_read}
use Rattle.module_stream.specs.declared.compilation.Compilation.{Compilation}
use Rattle.module_stream.specs.Codes.{KeepsAlike}
use Rattle.module_stream.specs.CutBodies.{counts_data, cut_run, sections_behind}
use Rattle.module_stream.specs.Progress.{IsJudging}

-- ---- what is left where these bytes come next

abbrev pub left_of : Front → Option Cutting → List ℕ → Run
left_of f None more = remaining_parts f more
left_of f (Some c) more = cut_run (counts_data f.steps.seen) (left c more) (sections_behind f.steps.seen c.place.at c.place.end more)

-- outside the bodies
pub record IsOutside (f : Front) (len : ℕ) (more : List ℕ) : Type 0 where
  pub idle : f.waiting ≡ None
  pub outside : is_at_bodies f.steps.stage ≡ false
  pub count : total f + length more ≡ len

-- the bodies of a batch that hasn't closed: none, or they have fewer bytes than close one
abbrev pub AreOpen : (least : ℕ) → List Body → Type 0
AreOpen least bodies = (bodies ≡ []) ⊎ (byte_count bodies < least)

-- among the bodies, of which so many bytes close a batch
pub record IsInside (least : ℕ) (f : Front) (c : Cutting) (len : ℕ) (more : List ℕ) : Type 0 where
  pub skips : can_skip f c.place.end ≡ true
  pub count : c.place.at + length more ≡ len
  pub begun : AreOpen least (left c more).queue.begun

abbrev pub IsPlaced : (least : ℕ) → Front → Option Cutting → (len : ℕ) → List ℕ → Type 0
IsPlaced least f None len more = IsOutside f len more
IsPlaced least f (Some c) len more = IsInside least f c len more

-- of these bytes those are still to come: what came is right so far, and its bodies are compiled
pub record IsGoing (bytes : List ℕ) (s : Compilation) (more : List ℕ) : Type 0 where
  pub few : length bytes ≤ max_read
  pub judging : IsJudging bytes (left_of s.front s.cutter more) s.spaces s.codes
  pub place : IsPlaced s.batch s.front s.cutter (length bytes) more

-- nothing was read yet
abbrev pub IsUnread : Compilation → Type 0
IsUnread s = (bytes : List ℕ) → length bytes ≤ max_read → IsGoing bytes s bytes

-- there are such bytes
abbrev pub MayGo : Compilation → List ℕ → Type 0
MayGo s piece = (bytes more : List ℕ) × IsGoing bytes s (piece ++ more)

-- there are such bytes, and all of them came
abbrev pub MayEnd : Compilation → Type 0
MayEnd s = (bytes : List ℕ) × All (λ b. b < 256) bytes × IsGoing bytes s []

-- bytes were taken; or the module's error is found
abbrev pub GoesOn : List ℕ → Result (Unit {0}) FrontStop → Compilation → List ℕ → Type 0
GoesOn bytes (Ok done) s more = IsGoing bytes s more
GoesOn bytes (Err (Refused r)) s more = IsVerdictOf bytes (Rejected r)
GoesOn bytes (Err NoMemory) s more = Unit {0}

-- so many of the bytes of a piece were taken; or the module's error is found
abbrev pub Advances : List ℕ → List ℕ → Result ℕ FrontStop → Compilation → List ℕ → Type 0
Advances bytes piece (Ok taken) s more = IsGoing bytes s (drop taken piece ++ more)
Advances bytes piece (Err (Refused r)) s more = IsVerdictOf bytes (Rejected r)
Advances bytes piece (Err NoMemory) s more = Unit {0}

-- no error is in it; that bytes are owed is none
abbrev pub HasNoError : Run → Type 0
HasNoError run = (r : Refusal) → r.kind ≢ Ended → run.ending ≡ outside.Refused r → ⊥

-- what came has no error outside the bytes of bodies
abbrev pub IsErrorFree : Compilation → Type 0
IsErrorFree s = HasNoError (left_of s.front s.cutter [])

-- ---- items

-- an item was read and isn't taken yet; what came before it is right
pub record IsTaking (bytes : List ℕ) (s : Compilation) (x : Item) (more : List ℕ) : Type 0 where
  pub few : length bytes ≤ max_read
  pub judging : IsJudging bytes (after_part (Listed x) (remaining_parts s.front more)) s.spaces s.codes
  pub outside : s.cutter ≡ None
  pub idle : s.front.waiting ≡ None
  pub follows : Follows x s.front
  pub count : total s.front + length more ≡ length bytes

abbrev pub MayTake : Compilation → Item → Type 0
MayTake s x = (bytes more : List ℕ) × IsTaking bytes s x more

-- so many bodies may come next: their functions are few, and the section ends after the bytes that came, and no later than a module may
pub record MayBegin (s : Compilation) (count end : ℕ) : Type 0 where
  pub functions : length s.spaces.functions < 2 ^ 32
  pub indices : s.spaces.imported + count < 2 ^ 32
  pub ahead : total s.front ≤ end
  pub near : end < 2 ^ 60

-- the item was taken, and what is left is what was left after it; or the module's error is found
pub record TookItem (bytes : List ℕ) (old new : Compilation) (more : List ℕ) : Type 0 where
  pub going : IsGoing bytes new more
  pub same : (later : List ℕ) → remaining_parts old.front later ≡ left_of new.front new.cutter later

abbrev pub TakesItem : List ℕ → Compilation → Result (Unit {0}) FrontStop → Compilation → List ℕ → Type 0
TakesItem bytes old (Ok done) new more = TookItem bytes old new more
TakesItem bytes old (Err (Refused r)) new more = IsVerdictOf bytes (Rejected r)
TakesItem bytes old (Err NoMemory) new more = Unit {0}

-- ---- bodies

-- a cutter that gave all its closed batches, whose section isn't whole yet and has no error; what came completes no further body, and closes
-- no batch
pub record IsWaiting (c : Cutting) : Type 0 where
  pub going : c.place.stop ≡ None
  pub owed : is_whole c ≡ false
  pub taken : c.queue.closed ≡ []
  pub prompt : (left c []).queue ≡ c.queue

abbrev pub AllWait : Option Cutting → Type 0
AllWait None = Unit {0}
AllWait (Some c) = IsWaiting c

-- where all closed batches are to be validated before more bytes are read, whose bodies have so many bytes, they are
abbrev pub ClosedAreValid : (closing : Option ℕ) → Compilation → Type 0
ClosedAreValid closing s = IfSome closing (λ least. (s.batch ≡ least) × AllWait s.cutter)

abbrev pub WaitsAfter : Result ℕ FrontStop → Option Cutting → Type 0
WaitsAfter (Ok taken) cutter = AllWait cutter
WaitsAfter (Err s) cutter = Unit {0}

abbrev pub with_cutter : Compilation → Cutting → Compilation
with_cutter s c = record s { cutter = Some c }

-- the bodies of closed batches were taken, and the rest is as it was
pub record KeepsRest (old new : Compilation) : Type 0 where
  pub batch : new.batch ≡ old.batch
  pub front : new.front ≡ old.front
  pub cutter : new.cutter ≡ old.cutter
  pub spaces : new.spaces ≡ old.spaces
  pub codes : KeepsAlike old.codes new.codes

-- ---- each step makes this less

abbrev pub mode_weight : Option Cutting → ℕ
mode_weight None = 0
mode_weight (Some c) = 1

abbrev pub work_left : Compilation → List ℕ → ℕ
work_left s piece = 2 * length (left_of s.front s.cutter piece).parts + mode_weight s.cutter + length piece

abbrev pub Lessens : Compilation → List ℕ → Result ℕ FrontStop → Compilation → Type 0
Lessens old piece (Ok taken) new = (taken ≤ length piece) × (0 < length piece → work_left new (drop taken piece) < work_left old piece)
Lessens old piece (Err s) new = Unit {0}
