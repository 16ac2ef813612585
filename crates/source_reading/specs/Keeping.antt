-- Bodies that are read and kept while workers compile them.
use Rattle.std.specs.Prelude.{◌≡◌, ◌≤◌, ◌<◌, ◌-◌, ◌^◌, ℕ, Bool, List, ◌++◌, length, All, Option, None, Result, Ok, Err}
use Rattle.wasm_defs.specs.declared.front_stop.FrontStop.{FrontStop}
use Rattle.wasm_defs.specs.declared.front_stop.FrontStop.TheVariants.{Refused, NoMemory}
use Rattle.wasm_defs.specs.declared.fault.Refusal.{Refusal}
use Rattle.index_spaces.specs.Spaces.{Spaces}
use Rattle.body_compiler.specs.BatchRows.{IsRowIf}
use Rattle.source_reading.specs.declared.beside.ReadSection.{ReadSection}
use Rattle.module_stream.specs.Limits.{max_read}
use Rattle.module_stream.specs.declared.compilation.Compilation.{Compilation}
use Rattle.source_reading.specs.declared.intake.Intake.{Intake}
use Rattle.source_reading.specs.declared.reading.Ending.{Ending}
use Rattle.source_reading.specs.Arriving.{IsArriving}
use Rattle.source_reading.specs.Chunks.{Chunked}
use Rattle.module_stream.specs.Keeping.{with_bodies, HasSectionError}
use Rattle.module_stream.specs.Kept.{kept_bodies}
use Rattle.source_reading.specs.Reading.{Settled}

-- a compilation that has the cutter back, with the bodies that were kept
abbrev pub keeping : Compilation → Intake → Compilation
keeping s i = with_bodies s (kept_bodies i.kept.items) i.cutter

-- after the bodies that were kept their section has this error, whatever bytes follow
pub record IsFaulty (first : Option (List ℕ)) (before : ℕ) (left : Option (List ℕ)) (now : ℕ) (may_read : Bool) (s : Compilation) (i : Intake) (r : Refusal) : Type 0 where
  pub was : Compilation
  pub chunk : Chunked
  pub arrived : IsArriving None first before left now may_read was chunk
  pub same : chunk.came ≡ i.chunk.came
  pub judging : (more : List ℕ) → length ((arrived.came ++ arrived.piece) ++ more) ≤ max_read → HasSectionError ((arrived.came ++ arrived.piece) ++ more) s (kept_bodies i.kept.items) r

-- bodies were read and kept, and none is validated; or the error of their section is found
abbrev pub Keeps : Result (Unit {0}) FrontStop → (first : Option (List ℕ)) → (before : ℕ) → (left : Option (List ℕ)) → (now : ℕ) → (may_read : Bool) → Compilation → Intake → Type 0
Keeps (Ok done) first before left now may_read s i = IsArriving None first before left now may_read (keeping s i) i.chunk
Keeps (Err (Refused r)) first before left now may_read s i = IsFaulty first before left now may_read s i r
Keeps (Err NoMemory) first before left now may_read s i = Unit {0}

-- bodies were read in parallel with workers, and validated; or this is what the bytes come to
abbrev pub Resumes : Result Chunked Ending → (first : Option (List ℕ)) → (before : ℕ) → (left : Option (List ℕ)) → (now : ℕ) → (may_read : Bool) → Compilation → Type 0
Resumes (Ok chunk) first before left now may_read s = IsArriving None first before left now may_read s chunk
Resumes (Err e) first before left now may_read s = before < 2 ^ 64 - 1 → Settled None e.failed e.judged s first left before now

-- the rows that are at hand are right
abbrev pub HasRightRows : Spaces → ReadSection → Type 0
HasRightRows c m = All (IsRowIf c m.cells) m.rows.items
