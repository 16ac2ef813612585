-- What came of one module's bytes.
use Rattle.std.specs.Prelude.{◌≡◌, ◌≤◌, ◌<◌, ℕ, Bool, true, false, List, ◌++◌, length, take, All, is_some, Option, None, Result, Ok, Err}
use Rattle.wasm_defs.specs.declared.fault.Refusal.{Refusal}
use Rattle.wasm_defs.specs.declared.front_stop.FrontStop.{FrontStop}
use Rattle.wasm_defs.specs.declared.front_stop.FrontStop.TheVariants as stop
use Rattle.wasm_defs.specs.Faults.{Rejected}
use Rattle.image_linker.specs.Judging.{IsVerdictOf}
use Rattle.body_compiler.specs.declared.batch.row.Row.{Row}
use Rattle.body_compiler.specs.BatchRows.{IsRowIf}
use Rattle.result_cells.specs.Rooms.{Store}
use Rattle.module_stream.specs.Limits.{max_read}
use Rattle.module_stream.specs.declared.compilation.Compilation.{Compilation}
use Rattle.module_stream.specs.Done.{IsBuilt, IsValid}
use Rattle.module_stream.specs.Streaming.{IsGoing}
use Rattle.many_streams.specs.Intakes.{Goes}
use Rattle.many_streams.specs.declared.member.Part.{Part}
use Rattle.many_streams.specs.declared.member.Member.{Member}
use Rattle.many_streams.specs.declared.member.Member.TheVariants as member
use Rattle.many_streams.specs.declared.member.Each.{Each}
use Rattle.many_streams.specs.declared.member.Each.TheVariants as each
use Rattle.many_streams.specs.declared.member.EachChecked.{EachChecked}
use Rattle.many_streams.specs.declared.member.EachChecked.TheVariants as checked

-- these bytes were taken, and no error of them is known, save that of a section whose bodies are kept
pub record IsFed (came : List ℕ) (p : Part) : Type 0 where
  pub count : p.fed ≡ length (take max_read came)
  pub bytes : All (λ b. b < 256) (take max_read came)
  pub going : (more : List ℕ) → length (take max_read came ++ more) ≤ max_read → Goes (take max_read came ++ more) p.compilation p.intake more

-- whatever bytes follow, this is their error of least offset
abbrev pub IsRefusedFor : List ℕ → Refusal → Type 0
IsRefusedFor came r = (rest : List ℕ) → IsVerdictOf (came ++ rest) (Rejected r)

-- what feeding a module comes to, of which these bytes came
abbrev pub FeedsOn : List ℕ → Result (Unit {0}) FrontStop → Part → Type 0
FeedsOn came (Ok done) p = IsFed came p
FeedsOn came (Err (stop.Refused r)) p = IsRefusedFor came r
FeedsOn came (Err stop.NoMemory) p = Unit {0}

-- bytes were taken, and these are still to come; or the module's error is found
abbrev pub TakesOn : List ℕ → Result (Unit {0}) FrontStop → Part → List ℕ → Type 0
TakesOn bytes (Ok done) p more = Goes bytes p.compilation p.intake more
TakesOn bytes (Err (stop.Refused r)) p more = IsVerdictOf bytes (Rejected r)
TakesOn bytes (Err stop.NoMemory) p more = Unit {0}

-- and no bodies are kept
abbrev pub ResumesOn : List ℕ → Result (Unit {0}) FrontStop → Part → List ℕ → Type 0
ResumesOn bytes (Ok done) p more = IsGoing bytes p.compilation more × (p.intake ≡ None)
ResumesOn bytes (Err e) p more = TakesOn bytes (Err e) p more

-- whether the codes are kept
abbrev pub KeepsCodes : Bool → Compilation → Type 0
KeepsCodes keeps s = is_some s.codes.kept ≡ keeps

-- of a module that has not ended these bytes came
abbrev pub IsMember : Bool → List ℕ → Member → Type 0
IsMember keeps came (member.Open p) = IsFed came p × KeepsCodes keeps p.compilation
IsMember keeps came (member.Image built) = ⊥
IsMember keeps came (member.Valid c) = ⊥
IsMember keeps came (member.Refused r) = IsRefusedFor came r

-- of one that has ended: this is what they come to
abbrev pub IsJudged : Bool → List ℕ → Member → Type 0
IsJudged keeps came (member.Open p) = ⊥
IsJudged keeps came (member.Image built) = (keeps ≡ true) × IsBuilt came built
IsJudged keeps came (member.Valid c) = (keeps ≡ false) × IsValid came c
IsJudged keeps came (member.Refused r) = IsVerdictOf came (Rejected r)

-- or its bodies are kept, so that it isn't judged yet
abbrev pub IsEnded : Bool → List ℕ → Member → Type 0
IsEnded keeps came (member.Open p) = IsFed came p × KeepsCodes keeps p.compilation
IsEnded keeps came (member.Image built) = IsJudged keeps came (member.Image built)
IsEnded keeps came (member.Valid c) = IsJudged keeps came (member.Valid c)
IsEnded keeps came (member.Refused r) = IsJudged keeps came (member.Refused r)

-- rows that are right for its bodies
abbrev pub AreRowsOf : Store → List (Option Row) → Member → Type 0
AreRowsOf cells rows (member.Open p) = All (IsRowIf p.compilation.spaces cells) rows
AreRowsOf cells rows (member.Image built) = Unit {0}
AreRowsOf cells rows (member.Valid c) = Unit {0}
AreRowsOf cells rows (member.Refused r) = Unit {0}

-- a module's image, and its numbers of functions and bytes; or its error of least offset
abbrev pub IsEach : List ℕ → Each → Type 0
IsEach came (each.Image built) = IsBuilt came built
IsEach came (each.Refused r) = IsVerdictOf came (Rejected r)

-- a module's numbers of functions and bytes; or its error of least offset
abbrev pub IsEachChecked : List ℕ → EachChecked → Type 0
IsEachChecked came (checked.Valid c) = IsValid came c
IsEachChecked came (checked.Refused r) = IsVerdictOf came (Rejected r)
