-- What is read of the module from a stage on, its sections and bodies too (WebAssembly Core 1.0, 5.5).
use Rattle.std.specs.Prelude.{◌≡◌, ◌<◌, ◌≤◌, ℕ, ◌+◌, Bool, true, false, ◌==◌, List, [], ◌∷◌, length, if◌then◌else◌}
use Rattle.wasm_defs.specs.declared.item.Item.{Item}
use Rattle.wasm_defs.specs.declared.item.Item.TheVariants.{Code}
use Rattle.wasm_defs.specs.Fields.{Cursor}
use Rattle.wasm_defs.specs.Entries.{Seen}
use Rattle.wasm_defs.specs.Outside.{Part, Section, Listed, Coded, Ending, Run, Refused, ends, Next, after_part, runs_on, preamble, position_of, row, entries, contents, sections}
use Rattle.wasm_laws.specs.Steadiness.{with_more}
use Rattle.leb_feed.specs.declared.stop.Stop.{Stop}
use Rattle.leb_feed.specs.declared.stop.Stop.TheVariants as stop
use Rattle.section_reader.specs.declared.stage.Stage.{Stage}
use Rattle.section_reader.specs.declared.stage.Stage.TheVariants.{Preamble, Between, Contents, Entries}
use Rattle.section_reader.specs.Stages.{unfinished, is_owing, is_at_bodies}

-- how many entries are still to be read of a section, as the module's definition counts them: of the code section its count, if it
-- isn't read yet, and all bodies
abbrev pub entries_owed : (id n : ℕ) → Seen → ℕ
entries_owed id n seen = if id == 11 then n + seen.declared else n

abbrev pub onward : Stage → Next
onward Preamble = λ seen c. runs_on (preamble c) (λ x d. sections seen d)
onward Between = sections
onward (Contents id) = contents (row id) sections
onward (Entries id n) = λ seen c. entries (entries_owed id n seen) (row id) sections seen c

-- these parts, and what comes after them
abbrev pub after_parts : List Part → Run → Run
after_parts [] r = r
after_parts (x ∷ parts) r = after_part x (after_parts parts r)

-- each is a section: neither an item nor a body
abbrev pub AreSections : List Part → Type 0
AreSections [] = Unit {0}
AreSections (Section at id ∷ parts) = AreSections parts
AreSections (Listed x ∷ parts) = ⊥
AreSections (Coded b ∷ parts) = ⊥

-- ---- where reading stops

abbrev pub next_part : ℕ → List ℕ → List Part
next_part at [] = []
next_part at (b ∷ bytes) = Section at (position_of b) ∷ []

-- the section whose id comes next, if it is there
abbrev pub begun_section : Stage → Cursor → List Part
begun_section Preamble c = []
begun_section Between c = next_part c.at c.rest
begun_section (Contents id) c = []
begun_section (Entries id n) c = []

-- nothing is reported before the bytes that are owed come, but the section whose id comes next
abbrev pub is_owing_behind : List Part → Ending → Bool
is_owing_behind [] ending = false
is_owing_behind (x ∷ parts) ending = is_owing parts ending

abbrev pub is_stalled : Stage → Run → Bool
is_stalled Preamble r = is_owing r.parts r.ending
is_stalled Between r = is_owing_behind r.parts r.ending
is_stalled (Contents id) r = is_owing r.parts r.ending
is_stalled (Entries id n) r = is_owing r.parts r.ending

-- bytes that are there and aren't read complete nothing
abbrev pub IsStalled : Stage → Seen → Cursor → Type 0
IsStalled stage seen c = 0 < length c.rest → is_at_bodies stage ≡ false → is_stalled stage (onward stage seen c) ≡ true

-- the run where the bytes that are there don't complete what is read next
abbrev pub stalled : Stage → Next
stalled stage = λ seen c. after_parts (begun_section stage c) (unfinished stage seen c)

-- why reading stops there: whatever follows, it is refused; or what is there doesn't complete what is read next
abbrev pub HaltsOnward : Stage → Seen → Cursor → Stop → Type 0
HaltsOnward stage seen c (stop.Refused r) = (more : List ℕ) → onward stage seen (with_more c more) ≡ after_parts (begun_section stage c) (ends (Refused r))
HaltsOnward stage seen c stop.Wants = onward stage seen c ≡ stalled stage seen c
HaltsOnward stage seen c stop.NoMemory = Unit {0}

-- ---- what holds at every stage

abbrev pub is_in_code : Stage → Bool
is_in_code Preamble = false
is_in_code Between = false
is_in_code (Contents id) = id == 11
is_in_code (Entries id n) = id == 11

-- how many entries the outline has still to read of a section: of the code section one, its count
abbrev pub outline_owes : Stage → ℕ
outline_owes Preamble = 0
outline_owes Between = 0
outline_owes (Contents id) = 1
outline_owes (Entries id n) = n

-- in the code section its count is read exactly where no entry is owed
pub record IsInCode (stage : Stage) (seen : Seen) : Type 0 where
  pub counted : seen.counted ≡ (outline_owes stage == 0)
  pub few : outline_owes stage ≤ 1
  pub last : 11 ≤ seen.last

-- where the code section's count is read, no section before that one comes any more
pub record IsOrdered (stage : Stage) (seen : Seen) : Type 0 where
  pub late : seen.counted ≡ true → 11 ≤ seen.last
  pub code : is_in_code stage ≡ true → IsInCode stage seen

-- the code section's count: how many bodies it counts, and where they end
abbrev pub is_count : Item → Bool
is_count (Code count end) = true
is_count _ = false

abbrev pub bodies_told : Item → ℕ
bodies_told (Code count end) = count.1
bodies_told _ = 0

abbrev pub end_told : Item → ℕ
end_told (Code count end) = end
end_told _ = 0

-- after the code section's count the bodies come next: as many as it says, up to the section's end; after no other item
pub record IsBehind (x : Item) (stage : Stage) (seen : Seen) (end : ℕ) : Type 0 where
  pub place : is_at_bodies stage ≡ is_count x
  pub count : is_count x ≡ true → bodies_told x ≡ seen.declared
  pub there : is_count x ≡ true → end_told x ≡ end
