-- The store (WebAssembly Core 1.0, 4.2.3) in the regions, and what keeps it there.
use Rattle.std.specs.Prelude.{◌≡◌, ℕ, ◌+◌, ◌*◌, ◌<◌, List, [], length, Option, Some, slice_get, slice_set}
use Rattle.rv_isa.specs.declared.operations.Op.{Op}
use Rattle.rv_isa.specs.Steps.{Bytes, State}
use Rattle.rv_isa.specs.Runs.{AreBytes}
use Rattle.wasm_defs.specs.Values.{Value, InRange, word_of}
use Rattle.wasm_defs.specs.Memory.{grown}
use Rattle.wasm_defs.specs.Configurations.{Store}
use Rattle.frame_layout.specs.Laws.{Does}
use Rattle.image_format.specs.Contents.{Image}
use Rattle.image_format.specs.ImageRun.{Running}
use Rattle.simulation.specs.Regions.{with_global, memory_now, with_memory, HasRegions}
use Rattle.simulation.specs.StoreLaws.{GlobalsStand, SegmentsStand, WrittenOver, HasRoom, Answered}

-- the memory's bytes are those of its pages, and the globals' words are in their region
pub record StoreStands (store : Store) (pages cap : ℕ) (s : State) : Type 0 where
  pub regions : HasRegions pages s
  pub room : HasRoom cap pages s.bytes
  pub memory : memory_now pages s.bytes ≡ store.memory
  pub are_bytes : AreBytes s.bytes.memory
  pub globals : GlobalsStand s.bytes store.globals
  pub in_range : (x : ℕ) (v : Value) → slice_get store.globals x ≡ Some v → InRange v
  pub segments : SegmentsStand s.bytes (length store.globals) store.segments
  pub passive : AreBytes s.bytes.passive

-- an instruction that changes neither keeps it
abbrev pub StoreKeptLaw : Type 0
StoreKeptLaw =
    (code : List (Option Op)) (store : Store) (pages cap steps words : ℕ) (s : State) (bytes : Bytes) → StoreStands store pages cap s
    → bytes.memory ≡ s.bytes.memory → bytes.globals ≡ s.bytes.globals → bytes.passive ≡ s.bytes.passive → (d : Does code steps words s bytes) → StoreStands store pages cap d.end

-- a store
abbrev pub StoreStoredLaw : Type 0
StoreStoredLaw =
    (code : List (Option Op)) (store : Store) (pages cap steps words : ℕ) (memory : List ℕ) (s : State) → StoreStands store pages cap s
    → WrittenOver store.memory memory → (d : Does code steps words s (with_memory s.bytes memory))
    → StoreStands (record store { memory = memory }) pages cap d.end

-- a data segment that is dropped
abbrev pub StoreDroppedLaw : Type 0
StoreDroppedLaw =
    (code : List (Option Op)) (store : Store) (pages cap steps words x : ℕ) (bytes : List ℕ) (s : State) → StoreStands store pages cap s
    → slice_get store.segments x ≡ Some bytes → (d : Does code steps words s (with_global s.bytes (length store.globals + 2 * x) 0))
    → StoreStands (record store { segments = slice_set store.segments x [] }) pages cap d.end

-- a global that is set
abbrev pub StoreSetLaw : Type 0
StoreSetLaw =
    (code : List (Option Op)) (store : Store) (pages cap steps words x : ℕ) (v : Value) (s : State) → StoreStands store pages cap s
    → x < length store.globals → InRange v → (d : Does code steps words s (with_global s.bytes x (word_of v)))
    → StoreStands (record store { globals = slice_set store.globals x v }) pages cap d.end

-- the environment's answer, where the memory has grown
abbrev pub StoreGrownLaw : Type 0
StoreGrownLaw =
    (i : Image) (r : Running) (store : Store) (number more : ℕ) (memory : List ℕ) → StoreStands store r.pages i.cap r.machine
    → grown store.memory more i.cap ≡ Some memory → (a : Answered i r number (r.pages + more)) → StoreStands (record store { memory = memory }) (r.pages + more) i.cap a.to.machine
