-- What runs of an image with the host's own replies come to.
use Rattle.std.specs.Prelude.{◌≡◌, ℕ, List, take, Option, None, Some}
use Rattle.std.specs.Io.KnownBytes.{append_known}
use Rattle.wasm_defs.specs.Values.{Value}
use Rattle.wasm_defs.specs.Host.{Reply}
use Rattle.image_format.specs.declared.image.Import.{Import}
use Rattle.image_format.specs.ImageRun.{ImageRun}
use Rattle.image_run.specs.Ends.{IsEnd}
use Rattle.image_run.specs.declared.outcome.Outcome.{Outcome}
use Rattle.image_run.specs.declared.outcome.Outcome.TheVariants as outcome
use Rattle.wasi_host.specs.declared.run_end.RunEnd.{RunEnd}
use Rattle.wasi_host.specs.declared.run_end.RunEnd.TheVariants as run_end
use Rattle.wasi_host.specs.Answers.{bytes_written}
use Rattle.wasi_host.specs.ExitCodes.{exit_code}
use Rattle.wasi_host.specs.Own.{AreOwn}

-- the outcome of the run itself: where proc_exit was called, its reply stopped the run
abbrev pub outcome_of : RunEnd → Outcome
outcome_of (run_end.Returned n) = outcome.Returned n
outcome_of (run_end.Trapped kind place) = outcome.Trapped kind place
outcome_of run_end.StepsSpent = outcome.StepsSpent
outcome_of (run_end.Exited code) = outcome.HostStopped
outcome_of (run_end.Fault kind pc) = outcome.Fault kind pc

-- the code of proc_exit, where it was called
abbrev pub code_of_end : RunEnd → Option ℕ
code_of_end (run_end.Exited code) = Some code
code_of_end (run_end.Returned n) = None
code_of_end (run_end.Trapped kind place) = None
code_of_end run_end.StepsSpent = None
code_of_end (run_end.Fault kind pc) = None

-- The run with the host's own replies ended so, with this memory and these results, and the bytes of its calls were written. Or
-- there is no end, since the sink failed: then a prefix of the bytes was written.
abbrev pub HostsRun : Option RunEnd → List Import → (List Reply → ImageRun) → (memory : List ℕ) → (results : List Value) → (written written_now : Option (List ℕ)) → Type 0
HostsRun (Some end) imports run memory results written written_now =
    (rs : List Reply) × AreOwn imports (λ q. (run q).calls) rs × IsEnd (outcome_of end) memory results (run rs).end
    × (exit_code imports (run rs).calls ≡ code_of_end end) × (written_now ≡ append_known written (bytes_written imports (run rs).calls))
HostsRun None imports run memory results written written_now =
    (rs : List Reply) × AreOwn imports (λ q. (run q).calls) rs
    × (n : ℕ) × (written_now ≡ append_known written (take n (bytes_written imports (run rs).calls)))
