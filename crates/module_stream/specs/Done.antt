-- A module whose bytes have ended.
use Rattle.std.specs.Prelude.{◌≡◌, ◌≤◌, ℕ, List, length, Result, Ok, Err}
use Rattle.rv_isa.specs.declared.compiled.Code.{Code}
use Rattle.wasm_defs.specs.declared.front_stop.FrontStop.{FrontStop}
use Rattle.wasm_defs.specs.declared.front_stop.FrontStop.TheVariants.{Refused, NoMemory}
use Rattle.wasm_defs.specs.Context.{declared_count}
use Rattle.wasm_defs.specs.Faults.{Module, Accepted, Rejected}
use Rattle.image_format.specs.declared.limits.TheConstants.{IMAGE_BYTES}
use Rattle.image_format.specs.ImageBytes.{spelling}
use Rattle.section_reader.specs.FrontLeft.{total}
use Rattle.image_linker.specs.ImageOf.{image_of}
use Rattle.image_linker.specs.Judging.{IsVerdictOf}
use Rattle.image_linker.specs.Same.{Same}
use Rattle.image_linker.specs.Whole.{IsWhole}
use Rattle.module_stream.specs.declared.built.Built.{Built}
use Rattle.module_stream.specs.declared.built.Checked.{Checked}
use Rattle.module_stream.specs.declared.compilation.Compilation.{Compilation}
use Rattle.module_stream.specs.Codes.{AreAll}

-- the bytes are this module, whose image behaves as it does; it declares so many functions, and has so many bytes
pub record IsModuleOfSize (bytes : List ℕ) (m : Module) (functions size : ℕ) : Type 0 where
  pub is : IsVerdictOf bytes (Accepted m)
  pub same : Same m (image_of m)
  -- the image has few enough bytes to be written
  pub short : length (spelling (image_of m)) ≤ IMAGE_BYTES
  pub functions_are : functions ≡ declared_count m.items
  pub size_is : size ≡ length bytes

-- the bytes are a module, all of which was read and compiled: its index spaces, and the codes of its functions
pub record IsDone (bytes : List ℕ) (s : Compilation) : Type 0 where
  pub «module» : Module
  pub is : IsModuleOfSize bytes «module» s.spaces.declared (total s.front)
  pub all : List Code
  pub are_all : AreAll s.codes all
  pub whole : IsWhole bytes «module» s.spaces all

-- the bytes are a module, which was compiled; or this is its error of least offset
abbrev pub Decides : List ℕ → Result (Unit {0}) FrontStop → Compilation → Type 0
Decides bytes (Ok done) s = IsDone bytes s
Decides bytes (Err (Refused r)) s = IsVerdictOf bytes (Rejected r)
Decides bytes (Err NoMemory) s = Unit {0}

-- the image of the module that the bytes are, which behaves as the module does; how many functions it declares, and its bytes
pub record IsBuilt (bytes : List ℕ) (built : Built) : Type 0 where
  pub «module» : Module
  pub is : IsModuleOfSize bytes «module» built.functions built.bytes
  pub image_is : built.image ≡ image_of «module»

-- the bytes are a module; how many functions it declares, and its bytes
abbrev pub IsValid : List ℕ → Checked → Type 0
IsValid bytes checked = (m : Module) × IsModuleOfSize bytes m checked.functions checked.bytes

-- how many functions were declared, and how many bytes there were
abbrev pub checked_of : Compilation → Checked
checked_of s = record { functions = s.spaces.declared; bytes = total s.front }
