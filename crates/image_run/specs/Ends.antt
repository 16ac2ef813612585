-- What an outcome says of a run of an image.
use Rattle.std.specs.Prelude.{◌≡◌, ℕ, List, [], length}
use Rattle.wasm_defs.specs.Values.{Value}
use Rattle.wasm_defs.specs.Host.{HostCall, Reply}
use Rattle.wasm_defs.specs.ModuleRun.{Returns, Traps, Stops, Going, Fails}
use Rattle.image_format.specs.Contents.{Image}
use Rattle.image_format.specs.declared.image.Export.{Export}
use Rattle.image_format.specs.ImageRun.{Ending, As, ImageRun, image_run}
use Rattle.image_format.specs.ImageRun as image
use Rattle.image_run.specs.Hosts.{Leads}
use Rattle.image_run.specs.declared.outcome.Outcome.{Outcome}
use Rattle.image_run.specs.declared.outcome.Outcome.TheVariants.{Returned, Trapped, StepsSpent, HostStopped, Fault}

-- the run ends so, with these results where it returned, with this memory after it where the end has one, and whatever the
-- globals are
abbrev pub IsEnd : Outcome → (memory : List ℕ) → (results : List Value) → Ending → Type 0
IsEnd (Returned n) memory results end = (n ≡ length results) × (globals : List ℕ) × (end ≡ As (Returns results memory globals))
IsEnd (Trapped kind place) memory results end = (globals : List ℕ) × (end ≡ As (Traps kind place memory globals))
IsEnd StepsSpent memory results end = end ≡ As Going
IsEnd HostStopped memory results end = end ≡ As (Stops memory)
IsEnd (Fault kind pc) memory results end = end ≡ image.Fault kind pc

-- no reply of the host stopped the run
abbrev pub IsUnstopped : Ending → Type 0
IsUnstopped (As (Returns values memory globals)) = Unit {0}
IsUnstopped (As (Traps kind place memory globals)) = Unit {0}
IsUnstopped (As (Stops memory)) = ⊥
IsUnstopped (As Going) = Unit {0}
IsUnstopped (As Fails) = ⊥
IsUnstopped (image.Fault kind pc) = Unit {0}

-- an outcome says how many results there are: after a run that didn't return there are none
abbrev pub TellsCount : Outcome → (results : List Value) → Type 0
TellsCount (Returned n) results = n ≡ length results
TellsCount _ results = results ≡ []

-- the run of an exported function with these arguments, where the host has these replies, for at most so many steps
unfoldable pub run_of_export : Image → Export → List Value → List Reply → (steps : ℕ) → ImageRun
run_of_export i e arguments replies steps = image_run i e.offset e.signature.results arguments replies steps

-- There are replies, one to each call of the run that has them. The calls lead the host from one to another, and the run ends so.
pub record RunsTo {H : Type 0} (Answers : H → HostCall → Reply → H → Type 0) (i : Image) (e : Export) (arguments : List Value) (steps : ℕ) (from to : H) (outcome : Outcome) (memory : List ℕ) (results : List Value) : Type 0 where
  pub replies : List Reply
  pub leads : Leads Answers from (run_of_export i e arguments replies steps).calls replies to
  pub end : IsEnd outcome memory results (run_of_export i e arguments replies steps).end
