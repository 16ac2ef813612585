-- Replies that are taken: of the import's result types, and with patches inside the memory. How runs end that have them.
use Rattle.std.specs.Prelude.{◌≡◌, ◌⊎◌, ℕ, true, List, None, Some, slice_get}
use Rattle.wasm_defs.specs.Host.{HostCall, Taken, Goes, Stops, taken}
use Rattle.wasm_defs.specs.Typing.{same_types}
use Rattle.wasm_defs.specs.Values.{types_of_values}
use Rattle.image_format.specs.declared.image.Import.{Import}
use Rattle.image_format.specs.ImageRun.{As, ImageRun}
use Rattle.wasm_defs.specs.ModuleRun as run
use Rattle.image_run.specs.Ends.{IsUnstopped}
use Rattle.wasi_host.specs.Answers.{answer_of}
use Rattle.wasi_host.specs.ExitCodes.{exit_code}

abbrev pub GoesOn : Taken → Type 0
GoesOn (Goes values memory) = Unit {0}
GoesOn Stops = ⊥

-- a call of that import with arguments of its types
abbrev pub IsCallOf : List Import → HostCall → Import → Type 0
IsCallOf imports c i = (slice_get imports c.number ≡ Some i) × (same_types i.signature.params (types_of_values c.arguments) ≡ true)

-- the reply is taken, and the run goes on
abbrev pub IsTaken : List Import → HostCall → Import → Type 0
IsTaken imports c i = GoesOn (taken i.signature.results c.memory (answer_of imports c).reply)

-- no reply stopped the run, and proc_exit wasn't called; or it was called, and stopped the run
abbrev pub StopsByExit : List Import → ImageRun → Type 0
StopsByExit imports r =
    (IsUnstopped r.end × (exit_code imports r.calls ≡ None))
    ⊎ ((code : ℕ) × (exit_code imports r.calls ≡ Some code) × (memory : List ℕ) × (r.end ≡ As (run.Stops memory)))
