-- What validating a source answers, and what the program says of it.
use Rattle.std.proofs.Common.{◌≡◌, ℕ, Bool, true, false, List, Option, Some, None, Result, Ok, Err, sym, ap, ◌∙◌, subst}
use Rattle.std.specs.Prelude.{◌≤◌, IfOk, length}
use Rattle.std.specs.declared.alloc.AllocError.{AllocError}
use Rattle.wasm_defs.specs.declared.fault.Refusal.{Refusal}
use Rattle.wasm_defs.specs.Context.{declared_count}
use Rattle.wasm_defs.specs.Faults.{Module, Accepted, Rejected}
use Rattle.command_words.specs.declared.command.Command.TheVariants.{Check, Compile, Run, Exec}
use Rattle.command_words.specs.declared.command.Options.{Options}
use Rattle.command_words.specs.declared.command.Run.{Run as Running}
use Rattle.command_words.specs.declared.command.Call.{Call}
use Rattle.stream_compile.specs.declared.foreign.LoadedImage.TheVariants as foreign
use Rattle.image_format.specs.declared.limits.TheConstants.{IMAGE_BYTES}
use Rattle.image_format.specs.Contents.{Image}
use Rattle.image_format.specs.ImageBytes.{spelling}
use Rattle.source_reading.specs.declared.answer.Answer.TheVariants as answer
use Rattle.module_stream.specs.declared.built.Built.{Built}
use Rattle.module_stream.specs.declared.settings.Settings.{Settings}
use Rattle.module_stream.specs.declared.built.Checked.{Checked}
use Rattle.source_reading.specs.declared.answer.Answer.{Answer}
use Rattle.source_reading.specs.declared.answer.CheckAnswer.{CheckAnswer}
use Rattle.source_reading.specs.declared.answer.CheckAnswer.TheVariants as check
use Rattle.module_stream.specs.declared.compilation.Compilation.{Compilation}
use Rattle.stream_compile.specs.declared.output.Output.{Output}
use Rattle.module_stream.specs.Done.{IsModuleOfSize, IsDone}
use Rattle.stream_compile.specs.Running.{RunsAs, IsForeign}
use Rattle.source_reading.specs.Compiling.{IsRefused, CompilesSource, ChecksSource}
use Rattle.module_stream.specs.Done.{IsBuilt}
use Rattle.module_stream.specs.ValidPrefixes.{closing_bytes}
use Rattle.source_reading.specs.Reading.{Judged}
use Rattle.stream_compile.specs.Outputs.{view}
use Rattle.module_stream.specs.Done.{checked_of}
use Rattle.stream_compile.specs.Texts.{Outcome, settings_of, closing_of, read_fault, accepted, compiled, rejected, TellsCheck, OfReading, OfModule, ComesOfModule, ComesTo}
use Rattle.stream_compile.proofs.Calls.{run_done}

-- ---- what the calls answer

valid_of : (bytes : List ℕ) (checked : Checked) (s : Compilation) (d : IsDone bytes s) → checked ≡ checked_of s → IsModuleOfSize bytes d.«module» checked.functions checked.bytes
valid_of bytes checked s d e = rw e d.is

-- a batch closes where so many bytes are asked for
pub judged_at : (workers batch n : ℕ) (failed : Bool) (left rest : Option (List ℕ)) (r : CheckAnswer) (s : Compilation) → n ≡ batch → Judged (closing_bytes workers n) failed left rest r s → Judged (closing_bytes workers batch) failed left rest r s
judged_at workers batch n failed left rest r s is h = subst (λ (k : ℕ). Judged (closing_bytes workers k) failed left rest r s) is h

pub refused_compiles : (workers batch n : ℕ) (failed : Bool) (left rest : Option (List ℕ)) (r : Refusal) (s : Compilation) → n ≡ batch → Judged (closing_bytes workers n) failed left rest (check.Refused r) s
    → CompilesSource (closing_bytes workers batch) failed left rest (answer.Refused r)
refused_compiles workers batch n failed left rest r s is h = judged_at workers batch n failed left rest (check.Refused r) s is h

pub fault_compiles : (workers batch n : ℕ) (failed : Bool) (left rest : Option (List ℕ)) (s : Compilation) → n ≡ batch → Judged (closing_bytes workers n) failed left rest check.ReadFault s
    → CompilesSource (closing_bytes workers batch) failed left rest answer.ReadFault
fault_compiles workers batch n failed left rest s is h = judged_at workers batch n failed left rest check.ReadFault s is h

-- without the codes
pub judged_checked : (closing : Option ℕ) (failed : Bool) (left rest : Option (List ℕ)) (r : CheckAnswer) (s : Compilation) → Judged closing failed left rest r s → ChecksSource closing failed left rest r
judged_checked closing failed left rest (check.Valid checked) s (calm, bytes, came, end, d, e) = (calm, bytes, came, end, (d.«module», valid_of bytes checked s d e))
judged_checked closing failed left rest (check.Refused r) s h = h
judged_checked closing failed left rest check.ReadFault s h = h
judged_checked closing failed left rest check.NoMemory s h = h

pub judged_done : (closing : Option ℕ) (failed : Bool) (left rest : Option (List ℕ)) (checked : Checked) (s : Compilation) → Judged closing failed left rest (check.Valid checked) s → (bytes : List ℕ) × IsDone bytes s
judged_done closing failed left rest checked s (calm, bytes, came, end, d, e) = (bytes, d)

pub judged_built : (closing : Option ℕ) (failed : Bool) (left rest : Option (List ℕ)) (checked : Checked) (s : Compilation) (built : Built) → Judged closing failed left rest (check.Valid checked) s → ((bytes : List ℕ) → IsDone bytes s → IsBuilt bytes built) → CompilesSource closing failed left rest (answer.Image built)
judged_built closing failed left rest checked s built (calm, bytes, came, end, d, e) is = (calm, bytes, came, end, is bytes d)

-- ---- what the program says

-- with the settings that the options ask for
pub checks_with : (options : Options) (x : Settings) (failed : Bool) (left rest : Option (List ℕ)) (r : CheckAnswer) → x ≡ settings_of options → ChecksSource (closing_bytes x.workers x.batch) failed left rest r
    → ChecksSource (closing_of options) failed left rest r
checks_with options x failed left rest r is h = subst (λ (y : Settings). ChecksSource (closing_bytes y.workers y.batch) failed left rest r) is h

pub compiles_with : (options : Options) (x : Settings) (failed : Bool) (left rest : Option (List ℕ)) (r : Answer) → x ≡ settings_of options → CompilesSource (closing_bytes x.workers x.batch) failed left rest r
    → CompilesSource (closing_of options) failed left rest r
compiles_with options x failed left rest r is h = subst (λ (y : Settings). CompilesSource (closing_bytes y.workers y.batch) failed left rest r) is h

pub valid_outcome : (bytes : List ℕ) (checked : Checked) (o : Outcome) → ((m : _) × IsModuleOfSize bytes m checked.functions checked.bytes) → o ≡ accepted checked.functions checked.bytes → OfModule TellsCheck false bytes o
valid_outcome bytes checked o (m, is) e =
    (Accepted m, is.is, (is.same, e ∙ ap (λ (n : ℕ). accepted n checked.bytes) is.functions_are ∙ ap (λ (n : ℕ). accepted (declared_count m.items) n) is.size_is))

pub valid_comes : (r : Result Output AllocError) (options : Options) (failed : Bool) (left rest : Option (List ℕ)) (checked : Checked) → ChecksSource (closing_of options) failed left rest (check.Valid checked)
    → IfOk r (λ o. view o ≡ accepted checked.functions checked.bytes) → IfOk r (λ o. ComesTo (Some (Check options)) failed left rest (view o))
valid_comes (Ok a) options failed left rest checked (calm, bytes, came, end, is) e = rw calm (bytes, came, valid_outcome bytes checked (view a) is e)
valid_comes (Err x) options failed left rest checked h e = tt

-- the image that is written is that of the module
pub written_comes : (options : Options) (failed : Bool) (left rest : Option (List ℕ)) (built : Built) → CompilesSource (closing_of options) failed left rest (answer.Image built)
    → (o : Outcome) → o ≡ compiled (spelling built.image) → ComesTo (Some (Compile options)) failed left rest o
written_comes options failed left rest built (calm, bytes, came, end, is) o e =
    let m = is.«module» in
    rw calm (bytes, came, (Accepted m, is.is.is, (is.is.same, e ∙ ap (λ (i : Image). compiled (spelling i)) is.image_is)))

pub is_short : (closing : Option ℕ) (failed : Bool) (left rest : Option (List ℕ)) (built : Built) → CompilesSource closing failed left rest (answer.Image built) → length (spelling built.image) ≤ IMAGE_BYTES
is_short closing failed left rest built (calm, bytes, came, end, is) = subst (λ (i : Image). length (spelling i) ≤ IMAGE_BYTES) (sym is.image_is) is.is.short

-- what a call of an image's function comes to is what that of the module's does
pub image_comes : (run : Running) (failed : Bool) (left rest : Option (List ℕ)) (built : Built) → CompilesSource (closing_of run.options) failed left rest (answer.Image built)
    → (o : Outcome) → RunsAs None built.image run.call o → ComesTo (Some (Run run)) failed left rest o
image_comes run failed left rest built (calm, bytes, came, end, is) o e =
    let m = is.«module» in
    rw calm (bytes, came, (Accepted m, is.is.is, (is.is.same, run_done None m built.image run.call o is.image_is is.is.same e)))

-- ---- of images that the source gives

pub called_comes : (call : Call) (failed : Bool) (left rest : Option (List ℕ)) (i : Image) → IsForeign failed left rest (foreign.Image i) → (o : Outcome) → RunsAs None i call o → ComesTo (Some (Exec call)) failed left rest o
called_comes call failed left rest i (calm, bytes, came, is) o runs = rw calm (bytes, came, subst (λ (x : Result Image ℕ). OfReading call x o) (sym is) runs.1)

-- ---- and of every command on a module

module _ (closing : Option ℕ) (Tells : (bytes : ℕ) → Module → Outcome → Type 0) where
  refused_outcome : (failed : Bool) (bytes : List ℕ) (r : Refusal) (o : Outcome) → IsRefused failed bytes r → o ≡ rejected r → OfModule Tells failed bytes o
  refused_outcome false bytes r o is e = (Rejected r, is, e)
  refused_outcome true bytes r o is e = (Some r, is, e)

  pub rejected_comes : (r : Result Output AllocError) (failed : Bool) (left rest : Option (List ℕ)) (refusal : Refusal) → ChecksSource closing failed left rest (check.Refused refusal)
      → IfOk r (λ a. view a ≡ rejected refusal) → IfOk r (λ o. ComesOfModule closing Tells failed left rest (view o))
  rejected_comes (Ok a) failed left rest refusal (bytes, came, is) e = (bytes, came, refused_outcome failed bytes refusal (view a) is e)
  rejected_comes (Err x) failed left rest refusal h e = tt

  pub read_fault_comes : (r : Result Output AllocError) (failed : Bool) (left rest : Option (List ℕ)) → ChecksSource closing failed left rest check.ReadFault
      → IfOk r (λ a. view a ≡ read_fault) → IfOk r (λ o. ComesOfModule closing Tells failed left rest (view o))
  read_fault_comes (Ok a) failed left rest (fails, bytes, came, is) e = rw fails (bytes, came, (None, is, e))
  read_fault_comes (Err x) failed left rest h e = tt
