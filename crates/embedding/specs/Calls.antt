-- What a call of a module's function comes to.
use Rattle.std.specs.Prelude.{◌≡◌, ℕ, ℤ, List, [], ◌∷◌, Option, None, Some, option_map, slice_get}
use Rattle.wasm_defs.specs.declared.types.ValType.TheVariants.{I32}
use Rattle.wasm_defs.specs.declared.value.Value.{Value as Given}
use Rattle.wasm_defs.specs.Values.{Value, unsigned, value_of}
use Rattle.wasm_defs.specs.Host.{HostCall, Reply}
use Rattle.wasm_defs.specs.Faults.{Module, Rejected}
use Rattle.wasm_defs.specs.Instances.{exports_of, named}
use Rattle.wasm_defs.specs.ModuleRun.{Run, Returns, Traps, Stops, module_run}
use Rattle.image_format.specs.Contents.{Image}
use Rattle.image_format.specs.declared.image.Export.{Export}
use Rattle.image_linker.specs.Judging.{IsVerdictOf}
use Rattle.simulation.specs.SameRuns.{BeginsWith}
use Rattle.image_run.specs.Checks.{export_named, unfit}
use Rattle.image_run.specs.declared.outcome.Outcome.{Outcome}
use Rattle.image_run.specs.declared.outcome.Outcome.TheVariants.{Returned, Trapped, StepsSpent, HostStopped, Fault}
use Rattle.image_run.specs.Ends.{IsEnd, run_of_export}
use Rattle.stream_compile.specs.Texts.{GoesOn}
use Rattle.embedding.specs.Lists.{replies_to}
use Rattle.embedding.specs.Modules.{IsImageOf}
use Rattle.embedding.specs.declared.calling.Called.{Called}
use Rattle.embedding.specs.declared.calling.Called.TheVariants as called

-- the only argument
abbrev pub argument_of : ℤ → Value
argument_of n = record { ty = I32; number = unsigned I32 n }

-- no value
abbrev pub IsNone : Option Given → Type 0
IsNone None = Unit {0}
IsNone (Some v) = ⊥

-- the first result of a run that returned, where it returned any; else none
abbrev pub IsFirst : Outcome → Option Given → List Value → Type 0
IsFirst (Returned n) first results = slice_get results 0 ≡ option_map value_of first
IsFirst (Trapped kind place) first results = IsNone first
IsFirst StepsSpent first results = IsNone first
IsFirst HostStopped first results = IsNone first
IsFirst (Fault kind pc) first results = IsNone first

-- ---- of an image

-- the run of an exported function, whose calls have these replies, which are those of the list
pub record RunsImage (i : Image) (name : List ℕ) (argument : ℤ) (numbers : List ℤ) (steps : ℕ) (outcome : Outcome) (first : Option Given) : Type 0 where
  pub export : Export
  pub exported : export_named name i.exports ≡ Some export
  pub replies : List Reply
  pub replies_are : replies ≡ replies_to numbers (run_of_export i export (argument_of argument ∷ []) replies steps).calls
  pub memory : List ℕ
  pub results : List Value
  pub end : IsEnd outcome memory results (run_of_export i export (argument_of argument ∷ []) replies steps).end
  pub first_is : IsFirst outcome first results

-- why the function can't be called, or how its run ended
abbrev pub CallsImage : Image → (name : List ℕ) → ℤ → List ℤ → (steps : ℕ) → Called → Type 0
CallsImage i name argument numbers steps (called.Refused r) = ⊥
CallsImage i name argument numbers steps (called.NotRunnable why) = unfit i (I32 ∷ []) (export_named name i.exports) ≡ Some why
CallsImage i name argument numbers steps (called.Ended outcome first) =
    (unfit i (I32 ∷ []) (export_named name i.exports) ≡ None) × RunsImage i name argument numbers steps outcome first

-- ---- of a module

-- Runs of a module, by their weight, of which one made these calls and ended so. Where all steps were made, the calls are the first ones
-- of a run for some weight, and the run goes on at each weight that the steps were enough for. The machine has no fault.
abbrev pub EndsSo : (steps : ℕ) → Outcome → List HostCall → (memory : List ℕ) → (results : List Value) → (ℕ → Run) → Type 0
EndsSo steps (Returned n) calls memory results runs = (k : ℕ) × (globals : List ℕ) × (runs k ≡ record { calls = calls; end = Returns results memory globals })
EndsSo steps (Trapped kind place) calls memory results runs = (k : ℕ) × (globals : List ℕ) × (runs k ≡ record { calls = calls; end = Traps kind place memory globals })
EndsSo steps HostStopped calls memory results runs = (k : ℕ) × (runs k ≡ record { calls = calls; end = Stops memory })
EndsSo steps StepsSpent calls memory results runs = (k : ℕ) × BeginsWith (runs k).calls calls × GoesOn steps runs
EndsSo steps (Fault kind pc) calls memory results runs = ⊥

-- the run of the module's exported function by the reduction rules: its calls of imports have the list's replies, and it ended so
pub record RunsModule (m : Module) (name : List ℕ) (argument : ℤ) (numbers : List ℤ) (steps : ℕ) (outcome : Outcome) (first : Option Given) : Type 0 where
  pub function : ℕ
  pub exported : named name (exports_of m.items) ≡ Some function
  pub calls : List HostCall
  pub memory : List ℕ
  pub results : List Value
  pub ends : EndsSo steps outcome calls memory results (module_run m function (argument_of argument ∷ []) (replies_to numbers calls))
  pub first_is : IsFirst outcome first results

-- the bytes' error of least offset; or they are a module, and the function can't be called, or its run ended so
abbrev pub CallsModule : List ℕ → (name : List ℕ) → ℤ → List ℤ → (steps : ℕ) → Called → Type 0
CallsModule bytes name argument numbers steps (called.Refused r) = IsVerdictOf bytes (Rejected r)
CallsModule bytes name argument numbers steps (called.NotRunnable why) = (m : Module) × (i : Image) × IsImageOf bytes m i × (unfit i (I32 ∷ []) (export_named name i.exports) ≡ Some why)
CallsModule bytes name argument numbers steps (called.Ended outcome first) = (m : Module) × (i : Image) × IsImageOf bytes m i × RunsModule m name argument numbers steps outcome first
