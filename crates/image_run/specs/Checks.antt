-- Whether an exported function of an image can be run: what is reported of the image, a name and the types of arguments.
use Rattle.std.specs.Prelude.{ℕ, ◌||◌, not, Bool, false, List, [], ◌∷◌, Option, None, Some, is_some, if◌then◌else◌}
use Rattle.std.specs.Str.{bytes_eq}
use Rattle.wasm_defs.specs.declared.types.ValType.{ValType}
use Rattle.wasm_defs.specs.Typing.{same_types}
use Rattle.image_format.specs.Contents.{Image}
use Rattle.image_format.specs.declared.image.Import.{Import}
use Rattle.image_format.specs.declared.image.Export.{Export}
use Rattle.image_run.specs.Printing.{function_of}
use Rattle.image_run.specs.WasiFunctions.{wasi_of}
use Rattle.image_run.specs.declared.checks.NotRunnable.{NotRunnable}
use Rattle.image_run.specs.declared.checks.NotRunnable.TheVariants.{UnknownImport, NoSuchExport, WrongArguments, Unlinkable}

-- a function that the program provides, by its names and its type
abbrev pub is_known : Import → Bool
is_known i = is_some (function_of i) || is_some (wasi_of i)

-- some import is no function that the program provides
abbrev pub has_unknown_import : List Import → Bool
has_unknown_import [] = false
has_unknown_import (i ∷ is) = not (is_known i) || has_unknown_import is

-- the first export of that name
abbrev pub export_named : (name : List ℕ) → List Export → Option Export
export_named name [] = None
export_named name (e ∷ es) = if bytes_eq name e.name then Some e else export_named name es

abbrev pub unfit : Image → List ValType → Option Export → Option NotRunnable
unfit i types None = Some NoSuchExport
unfit i types (Some e) =
    if same_types types e.signature.params then (if i.unlinkable then Some Unlinkable else None) else Some WrongArguments

-- the first reason why the export of that name can't be called with arguments of these types
abbrev pub not_runnable : Image → (name : List ℕ) → List ValType → Option NotRunnable
not_runnable i name types =
    if has_unknown_import i.imports then Some UnknownImport else unfit i types (export_named name i.exports)
