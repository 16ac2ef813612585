-- The same behaviour of a module and its image.
use Rattle.std.specs.Prelude.{◌≡◌, ℕ, true, not, List, length, Some}
use Rattle.wasm_defs.specs.Values.{Value}
use Rattle.wasm_defs.specs.Host.{Reply, are_of}
use Rattle.wasm_defs.specs.Context.{context_of, type_of_function}
use Rattle.wasm_defs.specs.Faults.{Module}
use Rattle.wasm_defs.specs.Instances.{exports_of, named, is_linkable}
use Rattle.wasm_defs.specs.ModuleRun.{module_run}
use Rattle.image_format.specs.Contents.{Image}
use Rattle.image_format.specs.ImageRun.{image_run}
use Rattle.simulation.specs.SameRuns.{own_run, SameRuns}
use Rattle.image_linker.specs.ImageOf.{offset_of}

-- the flag, and for a module that can be instantiated the runs of each exported function, for all arguments of its parameters'
-- types and all replies of the host. Of the image's globals those count that are the module's: the first ones.
pub record Same (m : Module) (i : Image) : Type 0 where
  pub unlinkable : i.unlinkable ≡ not (is_linkable m)
  pub runs : is_linkable m ≡ true → (name : List ℕ) (f : ℕ) (arguments : List Value) (replies : List Reply)
      → named name (exports_of m.items) ≡ Some f → are_of (type_of_function (context_of m.items) f).params arguments ≡ true
      → SameRuns (module_run m f arguments replies)
      (λ n. own_run (length (context_of m.items).globals) (image_run i (offset_of m f) (type_of_function (context_of m.items) f).results arguments replies n))
