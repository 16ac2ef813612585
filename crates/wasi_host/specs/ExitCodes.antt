-- The exit codes of calls of proc_exit (WASI preview 1, type `exitcode`).
use Rattle.std.specs.Prelude.{ℕ, List, [], ◌∷◌, Option, None, Some}
use Rattle.wasm_defs.specs.Values.{Value}
use Rattle.wasm_defs.specs.Host.{HostCall}
use Rattle.image_format.specs.declared.image.Import.{Import}
use Rattle.image_run.specs.declared.wasi_function.WasiFunction.{WasiFunction}
use Rattle.image_run.specs.declared.wasi_function.WasiFunction.TheVariants.{FdWrite, ProcExit}
use Rattle.image_run.specs.WasiFunctions.{wasi_at}
use Rattle.wasi_host.specs.Answers.{code_in}

abbrev pub code_by : Option WasiFunction → List Value → Option ℕ
code_by (Some ProcExit) arguments = code_in arguments
code_by (Some FdWrite) arguments = None
code_by None arguments = None

-- the exit code of a call, if it is of proc_exit
abbrev pub code_of_call : List Import → HostCall → Option ℕ
code_of_call imports c = code_by (wasi_at imports c.number) c.arguments

-- the second, if there is one, and else the first
abbrev pub last_of : Option ℕ → Option ℕ → Option ℕ
last_of first None = first
last_of first (Some code) = Some code

-- the exit code of the last of the calls that is of proc_exit, if one is
abbrev pub exit_code : List Import → List HostCall → Option ℕ
exit_code imports [] = None
exit_code imports (c ∷ cs) = last_of (code_of_call imports c) (exit_code imports cs)
