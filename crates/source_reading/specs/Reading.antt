-- What was read, and what it settles.
use Rattle.std.specs.Prelude.{◌≡◌, ℕ, Bool, false, List, Option, None, Some, nat_lt, Result, Ok, Err}
use Rattle.std.specs.Io.KnownBytes.{IsAtEnd}
use Rattle.wasm_defs.specs.declared.fault.Refusal.{Refusal}
use Rattle.wasm_defs.specs.declared.front_stop.FrontStop.{FrontStop}
use Rattle.wasm_defs.specs.declared.front_stop.FrontStop.TheVariants as stop
use Rattle.wasm_defs.specs.Faults.{Module, Verdict, Accepted, Rejected}
use Rattle.image_linker.specs.Judging.{IsVerdictOf, lasting}
use Rattle.module_stream.specs.declared.built.Checked.{Checked}
use Rattle.source_reading.specs.declared.answer.CheckAnswer.{CheckAnswer}
use Rattle.source_reading.specs.declared.answer.CheckAnswer.TheVariants as check
use Rattle.module_stream.specs.declared.compilation.Compilation.{Compilation}
use Rattle.source_reading.specs.Received.{AreReceived}
use Rattle.source_reading.specs.Compiling.{ChecksSource}
use Rattle.module_stream.specs.Done.{IsDone, checked_of}

-- reading failed exactly where the count rose; where it didn't, all bytes that came have the verdict of those that were read
pub record Settles (closing : Option ℕ) (read : List ℕ) (failed : Bool) (left rest : Option (List ℕ)) (before now : ℕ) : Type 0 where
  pub failed_is : failed ≡ nat_lt before now
  pub bytes : List ℕ
  pub came : AreReceived closing left rest failed bytes
  pub verdict : (v : Verdict) → IsVerdictOf read v → IsVerdictOf bytes v
  -- and a module was read to its end
  pub whole : (m : Module) → IsVerdictOf read (Accepted m) → bytes ≡ read
  pub ended : failed ≡ false → (m : Module) → IsVerdictOf read (Accepted m) → IsAtEnd rest

-- what the bytes that were read come to, unless memory ran out
abbrev pub Settled : (closing : Option ℕ) → Bool → Result (Unit {0}) FrontStop → Compilation → (left rest : Option (List ℕ)) → (before now : ℕ) → Type 0
Settled closing failed (Ok done) s left rest before now = (read : List ℕ) × Settles closing read failed left rest before now × IsDone read s
Settled closing failed (Err (stop.Refused r)) s left rest before now = (read : List ℕ) × Settles closing read failed left rest before now × IsVerdictOf read (Rejected r)
Settled closing failed (Err stop.NoMemory) s left rest before now = Unit {0}

-- ---- what is answered

abbrev pub answer_of : Result (Unit {0}) FrontStop → Checked → CheckAnswer
answer_of (Ok done) checked = check.Valid checked
answer_of (Err (stop.Refused r)) checked = check.Refused r
answer_of (Err stop.NoMemory) checked = check.NoMemory

abbrev pub of_lasting : Option Refusal → CheckAnswer
of_lasting None = check.ReadFault
of_lasting (Some r) = check.Refused r

-- where the source failed after the bytes, an error that lasts is reported
abbrev pub stopped_answer : Result (Unit {0}) FrontStop → CheckAnswer
stopped_answer (Ok done) = check.ReadFault
stopped_answer (Err (stop.Refused r)) = of_lasting (lasting r.kind r)
stopped_answer (Err stop.NoMemory) = check.NoMemory

-- what validating a source answers, and that the compilation of a module is done
abbrev pub Judged : (closing : Option ℕ) → Bool → (left rest : Option (List ℕ)) → CheckAnswer → Compilation → Type 0
Judged closing failed left rest (check.Valid checked) s = (failed ≡ false) × (bytes : List ℕ) × AreReceived closing left rest false bytes × IsAtEnd rest × IsDone bytes s × (checked ≡ checked_of s)
Judged closing failed left rest (check.Refused r) s = ChecksSource closing failed left rest (check.Refused r)
Judged closing failed left rest check.ReadFault s = ChecksSource closing failed left rest check.ReadFault
Judged closing failed left rest check.NoMemory s = ChecksSource closing failed left rest check.NoMemory
