-- Machines of an image, and what an instance of it is.
use Rattle.std.specs.Prelude.{◌≡◌, ℕ, ◌*◌, ◌≤◌, Bool, false, List, [], length, take, replicate, Option, None, Some}
use Rattle.rv_isa.specs.Steps.{Bytes, State}
use Rattle.rv64im_machine.specs.Contents.{Contents as Machine}
use Rattle.wasm_defs.specs.declared.types.ValType.{ValType}
use Rattle.wasm_defs.specs.declared.value.Value.{Value as Given}
use Rattle.wasm_defs.specs.Values.{Value}
use Rattle.wasm_defs.specs.Memory.{page}
use Rattle.wasm_defs.specs.Host.{HostCall, Reply}
use Rattle.image_format.specs.Contents.{Image, IsImage}
use Rattle.image_format.specs.declared.image.Export.{Export}
use Rattle.image_format.specs.declared.limits.TheConstants.{PARAMS, RESULTS}
use Rattle.image_format.specs.Environment.{Entry, loaded, code_of_image}
use Rattle.image_format.specs.ImageRun.{Running}

-- a machine whose memory has so many pages, with what was called so far, what the host replies to later calls, and the results of
-- the function that runs
abbrev pub at : State → (pages : ℕ) → List HostCall → List Reply → List ValType → List (Entry × List ValType) → Running
at machine pages calls replies results later =
    record { machine = machine; pages = pages; calls = calls; replies = replies; results = results; later = later }

-- so many bytes that are zero
unfoldable pub zeros : ℕ → List ℕ
zeros size = replicate size 0

-- the bytes are those that the image is loaded to
unfoldable pub IsLoaded : Image → Bytes → Type 0
IsLoaded i bytes = bytes ≡ loaded i

-- the memory of an image that is loaded and hasn't run, as large as it is at first
unfoldable pub first_memory : Image → List ℕ
first_memory i = take (page * i.pages) (loaded i).memory

-- the machine has the image's text and a whole stack, its memory has room up to the image's cap, and its pages are stored
pub record RunsImage (i : Image) (m : Machine) (pages : ℕ) : Type 0 where
  pub code : m.code ≡ code_of_image i
  pub stack : length m.bytes.stack ≡ 1048576
  pub memory : length m.bytes.memory ≡ page * i.cap
  pub within : pages ≤ i.cap
  pub backed : page * pages ≤ m.backed

-- the text stays, and so do the sizes of the stack and of the memory, and what of it is stored
pub record Keeps (old new : Machine) : Type 0 where
  pub code : new.code ≡ old.code
  pub stack : length new.bytes.stack ≡ length old.bytes.stack
  pub memory : length new.bytes.memory ≡ length old.bytes.memory
  pub backed : new.backed ≡ old.backed

-- the types of the results that are in the stack's first slots: of an exported function that returned
abbrev pub types_left : Option Export → List ValType
types_left None = []
types_left (Some e) = e.signature.results

-- an image that was loaded, its memory as it is now, whether it has run, and the results of a run that returned
pub record Contents : Type 0 where
  pub image : Image
  pub memory : List ℕ
  pub has_run : Bool
  pub results : List Value

-- what every instance keeps
pub record IsInstance (i : Image) (m : Machine) (pages : ℕ) (room : List Given) (has_run : Bool) (left : List ValType) : Type 0 where
  pub bounds : IsImage i
  pub machine : RunsImage i m pages
  pub fits : PARAMS ≤ length room
  pub bytes : has_run ≡ false → IsLoaded i m.bytes
  pub first_pages : has_run ≡ false → pages ≡ i.pages
  pub few_results : length left ≤ RESULTS
