-- What is read from a stage on, and how a step leads from one stage to another.
use Rattle.std.specs.Prelude.{◌≡◌, ◌<◌, ℕ, ◌+◌, ◌*◌, Bool, true, false, ◌&&◌, ◌||◌, ◌==◌, nat_lt, if◌then◌else◌, List, [], ◌∷◌, ◌++◌, length, Option, Some, None}
use Rattle.wasm_defs.specs.declared.fault.Kind.TheVariants.{Malformed, Ended}
use Rattle.wasm_defs.specs.declared.fault.Refusal.{Refusal}
use Rattle.wasm_defs.specs.declared.item.Item.{Item}
use Rattle.wasm_defs.specs.Fields.{Cursor}
use Rattle.wasm_defs.specs.Entries.{Seen}
use Rattle.wasm_defs.specs.Outside.{Part, Listed, Ending, Whole, Owed, Refused, Run, Next, ends, after_part, runs_on, preamble, contents, entries, owes, at_the_end}
use Rattle.wasm_laws.specs.Steadiness.{with_more}
use Rattle.leb_feed.specs.declared.stop.Stop.{Stop}
use Rattle.leb_feed.specs.declared.stop.Stop.TheVariants as stop
use Rattle.section_reader.specs.declared.stage.Stage.{Stage}
use Rattle.section_reader.specs.declared.stage.Stage.TheVariants.{Preamble, Between, Contents, Entries}
use Rattle.section_reader.specs.Outline.{outline_row, outline_sections}

-- ---- what is read from a stage on

abbrev pub proceed : Stage → Next
proceed Preamble = λ seen c. runs_on (preamble c) (λ x d. outline_sections seen d)
proceed Between = outline_sections
proceed (Contents id) = contents (outline_row id) outline_sections
proceed (Entries id n) = entries n (outline_row id) outline_sections

-- what a section has left after its entries is passed over
abbrev pub passes : ℕ → Bool
passes id = id == 0 || id == 11 || nat_lt 12 id

-- an item, if there is one, and what comes after it
abbrev pub prepend : Option Item → Run → Run
prepend None r = r
prepend (Some x) r = after_part (Listed x) r

-- the run where the bytes that are there don't complete what is read next
abbrev pub between : Seen → List ℕ → Run
between seen [] = at_the_end seen
between seen (b ∷ bytes) = ends Owed

abbrev pub unfinished : Stage → Seen → Cursor → Run
unfinished Preamble seen c = ends Owed
unfinished Between seen c = between seen c.rest
unfinished (Contents id) seen c = ends Owed
unfinished (Entries id n) seen c = ends Owed

-- nothing is read before the bytes that are owed come
abbrev pub is_owing : List Part → Ending → Bool
is_owing [] Owed = true
is_owing [] (Whole seen) = false
is_owing [] (Refused r) = false
is_owing (x ∷ parts) ending = false

-- bytes that are there and aren't read complete nothing
abbrev pub IsOwed : Stage → Seen → Cursor → Type 0
IsOwed stage seen c = 0 < length c.rest → is_owing (proceed stage seen c).parts (proceed stage seen c).ending ≡ true

-- ---- where no further bytes come

-- a field that is cut off: by the section's end, or where the bytes end
abbrev pub cut_there : ℕ → ℕ → Option Refusal
cut_there at end = Some (record { offset = at; kind = if at == end then Malformed else Ended })

-- the code section or the data section, which is owed at the end
abbrev pub due : Seen → ℕ → Option Refusal
due seen at = if owes seen then Some (record { offset = at; kind = Ended }) else None

-- the error of reading on from there, where all bytes before are read and none comes
abbrev pub silent : Stage → Seen → ℕ → ℕ → Option Refusal
silent Preamble seen at end = cut_there at end
silent Between seen at end = due seen at
silent (Contents id) seen at end = cut_there at end
silent (Entries id n) seen at end =
    if nat_lt 0 n then cut_there at end
    else if at == end then due seen at
    else Some (record { offset = at; kind = Ended })

-- before the bodies, or among them
abbrev pub is_at_bodies : Stage → Bool
is_at_bodies Preamble = false
is_at_bodies Between = false
is_at_bodies (Contents id) = false
is_at_bodies (Entries id n) = id == 11 && n == 0

-- ---- steps

-- some bytes were taken
pub record Passed (c d : Cursor) : Type 0 where
  pub taken : List ℕ
  pub parts : c.rest ≡ taken ++ d.rest
  pub at : d.at ≡ c.at + length taken

-- whatever follows the bytes, what is read from one stage on is an item, or none, and what is read from another on
abbrev pub Leads : Stage → Seen → Cursor → Option Item → Stage → Seen → Cursor → Type 0
Leads stage seen c item next after d = (more : List ℕ) → proceed stage seen (with_more c more) ≡ prepend item (proceed next after (with_more d more))

-- each step without an item makes this less
abbrev pub weight : Stage → ℕ
weight Preamble = 1
weight Between = 0
weight (Contents id) = 2
weight (Entries id n) = 1

abbrev pub work_left : Stage → Cursor → ℕ
work_left stage c = 3 * length c.rest + weight stage

-- why reading stops there: whatever follows, it is refused; or what is there doesn't complete what is read next
abbrev pub Halts : Stage → Seen → Cursor → Stop → Type 0
Halts stage seen c (stop.Refused r) = (more : List ℕ) → proceed stage seen (with_more c more) ≡ ends (Refused r)
Halts stage seen c stop.Wants = proceed stage seen c ≡ unfinished stage seen c
Halts stage seen c stop.NoMemory = Unit {0}

-- what was seen is the same, but for the last section
abbrev pub IsSameButLast : Seen → Seen → Type 0
IsSameButLast old new = record new { last = old.last } ≡ old
