-- What a push reader waits for, and the bytes that may come meanwhile: those with which nothing is read yet.
use Rattle.std.specs.Prelude.{◌≡◌, ◌<◌, ◌≤◌, ◌+◌, ℕ, Bool, true, false, ◌&&◌, nat_lt, List, ◌++◌, length, Some}
use Rattle.wasm_defs.specs.Fields.{Cursor, Read, Got, Fault, Wants, Reader, ◌>>=◌, done, repeated, past}
use Rattle.wasm_defs.specs.Text.{completes}
use Rattle.wasm_defs.specs.Entries.{Seen, value_type, index}
use Rattle.wasm_defs.specs.Outside.{Nothing}
use Rattle.wasm_laws.specs.Steadiness.{with_more, Advance}
use Rattle.section_reader.specs.declared.stage.Stage.{Stage}
use Rattle.section_reader.specs.declared.stage.Stage.TheVariants.{Preamble, Between, Contents, Entries}
use Rattle.section_reader.specs.declared.wait.Element.{Element}
use Rattle.section_reader.specs.declared.wait.Element.TheVariants.{ValueType, Index}
use Rattle.section_reader.specs.declared.wait.Wait.{Wait}
use Rattle.section_reader.specs.declared.wait.Wait.TheVariants as wait
use Rattle.section_reader.specs.Outline.{outline_row}

-- an element of a list, passed over
abbrev pub element_of : Element → Reader Nothing
element_of ValueType = do
  ty ← value_type
  done tt
element_of (Index most) = do
  i ← index most
  done tt

-- ---- waiting

-- the index among the bytes that are there where an element of a list begins, with which reading goes on; else their first
abbrev pub resumes_at : Wait → ℕ
resumes_at wait.Nothing = 0
resumes_at (wait.Bytes free) = 0
resumes_at (wait.Text owed inside) = 0
resumes_at (wait.List place owed element) = place

-- this index is among them, and in the section
pub record IsPlaced (wait : Wait) (c : Cursor) : Type 0 where
  pub among : resumes_at wait ≤ length c.rest
  pub inside : c.at ≤ c.end → c.at + resumes_at wait ≤ c.end

-- the bytes that may come after those that are there
abbrev pub Passes : Wait → Cursor → List ℕ → Type 0
Passes wait.Nothing c more = ⊥
Passes (wait.Bytes free) c more = length more ≤ free
Passes (wait.Text owed inside) c more = (length more < owed) × (completes owed (Some inside) more ≡ true)
Passes (wait.List place owed element) c more = repeated owed (element_of element) (with_more (past c place) more) ≡ Wants

-- with bytes that may come at a wait from a cursor on, the reader still wants more
abbrev pub AwaitsAt : {A : Type 0} → Reader A → Cursor → Wait → Cursor → Type 0
AwaitsAt p c wait from = (more : List ℕ) → Passes wait from more → p (with_more c more) ≡ Wants

abbrev pub Awaits : {A : Type 0} → Reader A → Cursor → Wait → Type 0
Awaits p c wait = AwaitsAt p c wait c

abbrev pub wants_more : {A : Type 0} → Read A → Bool
wants_more (Got x d) = false
wants_more (Fault r) = false
wants_more Wants = true

-- the field or the entry that is read next isn't whole
abbrev pub is_wanting : Stage → Seen → Cursor → Bool
is_wanting Preamble seen c = false
is_wanting Between seen c = false
is_wanting (Contents id) seen c = wants_more ((outline_row id).front seen c)
is_wanting (Entries id n) seen c = nat_lt 0 n && wants_more ((outline_row id).entry seen c)

-- with bytes that may come nothing is read yet
abbrev pub IsFree : Stage → Seen → Cursor → Wait → Type 0
IsFree stage seen c wait = (more : List ℕ) → Passes wait c more → is_wanting stage seen (with_more c more) ≡ true

-- ---- bytes that came

-- these bytes may come, and after them those that may come at the new wait
pub record Follows (old : Wait) (c : Cursor) (bytes : List ℕ) (new : Wait) : Type 0 where
  pub passes : Passes old c bytes
  pub later : (more : List ℕ) → Passes new (with_more c bytes) more → Passes old c (bytes ++ more)

-- some elements of a list are whole: where the rest of it is owed, all of it is
pub record Skims (p : Reader Nothing) (owed : ℕ) (c : Cursor) (left : ℕ) (d : Cursor) : Type 0 where
  pub advance : Advance c d
  pub later : (more : List ℕ) → repeated left p (with_more d more) ≡ Wants → repeated owed p (with_more c more) ≡ Wants

-- and the next one isn't
pub record Stays (p : Reader Nothing) (owed : ℕ) (c : Cursor) (left : ℕ) (d : Cursor) : Type 0 where
  pub skims : Skims p owed c left d
  pub wants : repeated left p d ≡ Wants
