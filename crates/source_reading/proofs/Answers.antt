-- What validating a source answers.
use Rattle.std.proofs.Common.{◌≡◌, ℕ, Bool, true, false, List, Option, Some, None, Result, Ok, Err, refl, sym, ◌∙◌, subst}
use Rattle.std.specs.Prelude.{nat_lt}
use Rattle.wasm_defs.specs.declared.fault.Refusal.{Refusal}
use Rattle.wasm_defs.specs.declared.front_stop.FrontStop.{FrontStop}
use Rattle.wasm_defs.specs.declared.front_stop.FrontStop.TheVariants as stop
use Rattle.wasm_defs.specs.Faults.{Accepted, Rejected}
use Rattle.image_linker.specs.Judging.{IsStoppedAt, lasting}
use Rattle.module_stream.specs.declared.compilation.Compilation.{Compilation}
use Rattle.module_stream.specs.Done.{IsDone, checked_of}
use Rattle.module_stream.proofs.Stopped.{stopped_of_verdict}
use Rattle.source_reading.specs.declared.answer.CheckAnswer.TheVariants as check
use Rattle.source_reading.specs.Received.{AreReceived}
use Rattle.source_reading.specs.Compiling.{IsRefused, ChecksSource}
use Rattle.source_reading.specs.Reading.{Settled, Judged, answer_of, of_lasting, stopped_answer}

-- ---- what bytes come to that were read to their source's end

refused_by : (closing : Option ℕ) (failed b : Bool) (left rest : Option (List ℕ)) (bytes : List ℕ) (r : Refusal) → failed ≡ b → AreReceived closing left rest b bytes → IsRefused b bytes r → ChecksSource closing failed left rest (check.Refused r)
refused_by closing failed b left rest bytes r e came is = rw e (bytes, came, is)

-- with more bytes after the module there is none that was read
same_bytes : (read bytes : List ℕ) (s : Compilation) → bytes ≡ read → IsDone read s → IsDone bytes s
same_bytes read bytes s e d = subst (λ (l : List ℕ). IsDone l s) (sym e) d

pub source_judged : (closing : Option ℕ) (failed : Bool) (left rest : Option (List ℕ)) (before now : ℕ) (judged : Result (Unit {0}) FrontStop) (s : Compilation) → failed ≡ false → Settled closing failed judged s left rest before now
    → Judged closing (nat_lt before now) left rest (answer_of judged (checked_of s)) s
source_judged closing failed left rest before now (Ok done) s calm (read, t, d) = (
  sym t.failed_is ∙ calm,
  t.bytes,
  subst (λ (b : Bool). AreReceived closing left rest b t.bytes) calm t.came,
  t.ended calm d.«module» d.is.is,
  same_bytes read t.bytes s (t.whole d.«module» d.is.is) d,
  refl,
)
source_judged closing failed left rest before now (Err (stop.Refused r)) s calm (read, t, v) =
    refused_by closing (nat_lt before now) false left rest t.bytes r (sym t.failed_is ∙ calm) (subst (λ (b : Bool). AreReceived closing left rest b t.bytes) calm t.came) (t.verdict (Rejected r) v)
source_judged closing failed left rest before now (Err stop.NoMemory) s calm t = tt

-- ---- after which the source failed

stopped_by : (closing : Option ℕ) (failed : Bool) (left rest : Option (List ℕ)) (bytes : List ℕ) (o : Option Refusal) (s : Compilation) → failed ≡ true → AreReceived closing left rest true bytes → IsStoppedAt bytes o → Judged closing failed left rest (of_lasting o) s
stopped_by closing failed left rest bytes None s e came is = rw e (refl, bytes, came, is)
stopped_by closing failed left rest bytes (Some r) s e came is = rw e (bytes, came, is)

pub source_stopped : (closing : Option ℕ) (failed : Bool) (left rest : Option (List ℕ)) (before now : ℕ) (judged : Result (Unit {0}) FrontStop) (s : Compilation) → failed ≡ true → Settled closing failed judged s left rest before now
    → Judged closing (nat_lt before now) left rest (stopped_answer judged) s
source_stopped closing failed left rest before now (Ok done) s fails (read, t, d) =
    let decided = stopped_of_verdict t.bytes (Accepted d.«module») (t.verdict (Accepted d.«module») d.is.is) in
    stopped_by closing (nat_lt before now) left rest t.bytes None s (sym t.failed_is ∙ fails) (subst (λ (b : Bool). AreReceived closing left rest b t.bytes) fails t.came) decided
source_stopped closing failed left rest before now (Err (stop.Refused r)) s fails (read, t, v) =
    let decided = stopped_of_verdict t.bytes (Rejected r) (t.verdict (Rejected r) v) in
    stopped_by closing (nat_lt before now) left rest t.bytes (lasting r.kind r) s (sym t.failed_is ∙ fails) (subst (λ (b : Bool). AreReceived closing left rest b t.bytes) fails t.came) decided
source_stopped closing failed left rest before now (Err stop.NoMemory) s fails t = tt
