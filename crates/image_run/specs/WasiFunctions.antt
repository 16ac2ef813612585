-- The functions of WASI preview 1 that the program provides: which imports they are.
use Rattle.std.specs.Prelude.{ℕ, ◌&&◌, Bool, List, [], ◌∷◌, Option, None, Some, codes, slice_get, if◌then◌else◌}
use Rattle.std.specs.Str.{bytes_eq}
use Rattle.wasm_defs.specs.declared.types.ValType.TheVariants.{I32}
use Rattle.wasm_defs.specs.declared.types.FuncType.{FuncType}
use Rattle.wasm_defs.specs.Typing.{Types, same_types}
use Rattle.image_format.specs.declared.image.Import.{Import}
use Rattle.image_run.specs.declared.wasi_function.WasiFunction.{WasiFunction}
use Rattle.image_run.specs.declared.wasi_function.WasiFunction.TheVariants.{FdWrite, ProcExit}

abbrev pub has_type : FuncType → (params results : Types) → Bool
has_type f params results = same_types params f.params && same_types results f.results

-- the function that an import is: fd_write or proc_exit of the module wasi_snapshot_preview1, of its type
abbrev pub wasi_of : Import → Option WasiFunction
wasi_of i =
    if bytes_eq i.module (codes "wasi_snapshot_preview1") then (
    if bytes_eq i.name (codes "fd_write") && has_type i.signature (I32 ∷ I32 ∷ I32 ∷ I32 ∷ []) (I32 ∷ []) then Some FdWrite
    else if bytes_eq i.name (codes "proc_exit") && has_type i.signature (I32 ∷ []) [] then Some ProcExit
    else None)
    else None

abbrev pub wasi_in : Option Import → Option WasiFunction
wasi_in None = None
wasi_in (Some i) = wasi_of i

abbrev pub wasi_at : List Import → (number : ℕ) → Option WasiFunction
wasi_at imports number = wasi_in (slice_get imports number)
