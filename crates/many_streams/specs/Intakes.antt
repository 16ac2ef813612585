-- Bodies of a module that are kept.
use Rattle.std.specs.Prelude.{◌≡◌, ◌≤◌, ℕ, false, List, [], ◌++◌, length, Option, None, Some}
use Rattle.wasm_defs.specs.declared.fault.Refusal.{Refusal}
use Rattle.body_cutter.specs.Cuttings.{is_whole}
use Rattle.module_stream.specs.Limits.{max_read}
use Rattle.module_stream.specs.declared.compilation.Compilation.{Compilation}
use Rattle.module_stream.specs.Keeping.{with_bodies, HasSectionError}
use Rattle.module_stream.specs.Kept.{kept_bodies}
use Rattle.module_stream.specs.Streaming.{IsGoing}
use Rattle.many_streams.specs.declared.intake.Intake.{Intake}

-- of these bytes those are still to come; the bodies that came are kept, and the bytes after their section, or their section has an error
abbrev pub KeepsBy : Option Refusal → List ℕ → Compilation → Intake → (more : List ℕ) → Type 0
KeepsBy None bytes s i more = IsGoing bytes (with_bodies s (kept_bodies i.kept.items) i.cutter) (i.rest.items ++ more) × (is_whole i.cutter ≡ false → i.rest.items ≡ [])
KeepsBy (Some r) bytes s i more = (length bytes ≤ max_read) × HasSectionError bytes s (kept_bodies i.kept.items) r

abbrev pub Keeps : List ℕ → Compilation → Intake → (more : List ℕ) → Type 0
Keeps bytes s i more = KeepsBy i.error bytes s i more

-- of these bytes those are still to come; bodies that came are compiled, or they are kept
abbrev pub Goes : List ℕ → Compilation → Option Intake → (more : List ℕ) → Type 0
Goes bytes s None more = IsGoing bytes s more
Goes bytes s (Some i) more = Keeps bytes s i more
