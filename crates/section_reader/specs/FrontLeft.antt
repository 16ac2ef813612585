-- What a push reader has left to report.
use Rattle.std.specs.Prelude.{◌≡◌, ℕ, ◌+◌, ◌≤◌, ◌⊎◌, List, [], ◌++◌, length, drop, Bool, not, is_some, ◌&&◌, ◌==◌, Option, Some, None, IsSome, Result, Ok, Err}
use Rattle.wasm_defs.specs.declared.fault.Refusal.{Refusal}
use Rattle.wasm_defs.specs.Fields.{Cursor}
use Rattle.wasm_defs.specs.Outside.{Run, Refused, ends}
use Rattle.wasm_laws.specs.Steadiness.{with_more}
use Rattle.wasm_defs.specs.declared.front_stop.FrontStop.{FrontStop}
use Rattle.wasm_defs.specs.declared.front_stop.FrontStop.TheVariants as stop
use Rattle.section_reader.specs.declared.front.Front.{Front}
use Rattle.section_reader.specs.Stages.{proceed, prepend, unfinished, is_at_bodies}

abbrev pub from_there : Option Refusal → Run → Run
from_there None r = r
from_there (Some refusal) r = ends (Refused refusal)

abbrev pub cursor_of : Front → Cursor
cursor_of f = record { at = f.at; rest = f.kept.items; end = f.end }

-- the items and the ending that are still to come, where these bytes come next
abbrev pub left : Front → List ℕ → Run
left f more = prepend f.waiting (from_there f.refusal (proceed f.steps.stage f.steps.seen (with_more (cursor_of f) more)))

-- how many bytes came
abbrev pub total : Front → ℕ
total f = f.at + length f.kept.items

-- so many of the bytes were taken: all of them, or those up to the end of an item that is waiting then. The others come again.
-- Where none is waiting, the bytes that came so far complete no item and have no error
pub record Fed (old : Front) (bytes : List ℕ) (taken : ℕ) (new : Front) : Type 0 where
  pub some : taken ≤ length bytes
  pub same : (more : List ℕ) → left old (bytes ++ more) ≡ left new (drop taken bytes ++ more)
  pub all : (taken ≡ length bytes) ⊎ IsSome new.waiting
  pub stuck : new.waiting ≡ None → left new [] ≡ unfinished new.steps.stage new.steps.seen (cursor_of new)

-- refused, for good: the refusal is kept
pub record IsRefused (old : Front) (bytes : List ℕ) (r : Refusal) (new : Front) : Type 0 where
  pub run : (more : List ℕ) → left old (bytes ++ more) ≡ ends (Refused r)
  pub stays : (more : List ℕ) → left new more ≡ ends (Refused r)
  pub kept : (new.refusal ≡ Some r) × (new.waiting ≡ None)

abbrev pub Feeds : Front → List ℕ → Result ℕ FrontStop → Front → Type 0
Feeds old bytes (Ok taken) new = Fed old bytes taken new
Feeds old bytes (Err (stop.Refused r)) new = IsRefused old bytes r new
Feeds old bytes (Err stop.NoMemory) new = (more : List ℕ) → left new more ≡ left old more

abbrev pub refusal_of : Result (Unit {0}) Refusal → Option Refusal
refusal_of (Ok x) = None
refusal_of (Err r) = Some r

-- the bodies come next, and their section ends there
abbrev pub can_skip : Front → ℕ → Bool
can_skip f end = is_at_bodies f.steps.stage && length f.kept.items == 0 && not (is_some f.waiting) && not (is_some f.refusal) && end == f.end
