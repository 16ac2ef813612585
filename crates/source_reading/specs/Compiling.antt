-- What validation and compilation of a source come to.
use Rattle.std.specs.Prelude.{◌≡◌, ℕ, Bool, true, false, List, Option, None, Some}
use Rattle.std.specs.Io.KnownBytes.{IsAtEnd}
use Rattle.wasm_defs.specs.declared.fault.Refusal.{Refusal}
use Rattle.wasm_defs.specs.Faults.{Rejected}
use Rattle.image_linker.specs.Judging.{IsVerdictOf, IsStoppedAt}
use Rattle.source_reading.specs.declared.answer.Answer.{Answer}
use Rattle.source_reading.specs.declared.answer.Answer.TheVariants as answer
use Rattle.source_reading.specs.declared.answer.CheckAnswer.{CheckAnswer}
use Rattle.source_reading.specs.declared.answer.CheckAnswer.TheVariants as check
use Rattle.source_reading.specs.Received.{AreReceived}
use Rattle.module_stream.specs.Done.{IsBuilt, IsValid}

-- the error of the verdict; where the source failed, the one that decides then
abbrev pub IsRefused : Bool → List ℕ → Refusal → Type 0
IsRefused false bytes r = IsVerdictOf bytes (Rejected r)
IsRefused true bytes r = IsStoppedAt bytes (Some r)

-- by how many bytes close a batch of bodies, where closed batches are validated before more bytes are read (`closing_bytes`), whether the
-- source failed, and what was left in it before and after; a good answer comes at its end
abbrev pub CompilesSource : (closing : Option ℕ) → Bool → (left rest : Option (List ℕ)) → Answer → Type 0
CompilesSource closing failed left rest (answer.Image built) = (failed ≡ false) × (bytes : List ℕ) × AreReceived closing left rest false bytes × IsAtEnd rest × IsBuilt bytes built
CompilesSource closing failed left rest (answer.Refused r) = (bytes : List ℕ) × AreReceived closing left rest failed bytes × IsRefused failed bytes r
CompilesSource closing failed left rest answer.ReadFault = (failed ≡ true) × (bytes : List ℕ) × AreReceived closing left rest true bytes × IsStoppedAt bytes None
CompilesSource closing failed left rest answer.NoMemory = Unit {0}

-- the same of an answer that gives no image
abbrev pub ChecksSource : (closing : Option ℕ) → Bool → (left rest : Option (List ℕ)) → CheckAnswer → Type 0
ChecksSource closing failed left rest (check.Valid checked) = (failed ≡ false) × (bytes : List ℕ) × AreReceived closing left rest false bytes × IsAtEnd rest × IsValid bytes checked
ChecksSource closing failed left rest (check.Refused r) = (bytes : List ℕ) × AreReceived closing left rest failed bytes × IsRefused failed bytes r
ChecksSource closing failed left rest check.ReadFault = (failed ≡ true) × (bytes : List ℕ) × AreReceived closing left rest true bytes × IsStoppedAt bytes None
ChecksSource closing failed left rest check.NoMemory = Unit {0}
