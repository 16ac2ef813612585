-- What the regions have to do with the store (WebAssembly Core 1.0, 4.2.3): globals that are read and set, bytes that are stored,
-- and the environment's answer to `memory.grow`.
use Rattle.std.specs.Prelude.{◌≡◌, ℕ, ◌+◌, ◌-◌, ◌*◌, ◌%◌, ◌^◌, ◌<◌, ◌≤◌, ◌==◌, ◌||◌, false, List, take, drop, length, replicate, Option, None, Some, slice_get, slice_set}
use Rattle.rv_isa.specs.Steps.{reg, Bytes}
use Rattle.rv_isa.specs.Runs.{AreBytes}
use Rattle.wasm_defs.specs.declared.types.ValType.TheVariants.{I32}
use Rattle.wasm_defs.specs.Values.{Value, InRange, word, word_of, words_of}
use Rattle.wasm_defs.specs.Memory.{page, pages_of, bytes_of, written_at, grown}
use Rattle.frame_layout.specs.Macros.{s2, a0, a7}
use Rattle.image_format.specs.Contents.{Image}
use Rattle.image_format.specs.Environment.{words_at}
use Rattle.image_format.specs.ImageRun.{Running, To, environment, memory_of}
use Rattle.simulation.specs.Regions.{global_at, with_global, memory_now, with_memory, HasRegions, SegmentStands}

-- ---- globals

-- their words come first in the region
pub record GlobalsStand (b : Bytes) (vs : List Value) : Type 0 where
  pub within : 8 * length vs ≤ length b.globals
  pub are : words_at b.globals 0 (length vs) ≡ words_of vs

abbrev pub GlobalInsideLaw : Type 0
GlobalInsideLaw = (b : Bytes) (vs : List Value) (x : ℕ) → GlobalsStand b vs → x < length vs → 8 * (x + 1) ≤ length b.globals

abbrev pub GlobalReadLaw : Type 0
GlobalReadLaw = (b : Bytes) (vs : List Value) (x : ℕ) (v : Value) → GlobalsStand b vs → slice_get vs x ≡ Some v → global_at b x ≡ word_of v

abbrev pub GlobalWrittenLaw : Type 0
GlobalWrittenLaw =
    (b : Bytes) (vs : List Value) (x : ℕ) (v : Value) → GlobalsStand b vs → x < length vs → InRange v
    → GlobalsStand (with_global b x (word_of v)) (slice_set vs x v)

-- ---- data segments, after so many globals

abbrev pub SegmentsStand : Bytes → (globals : ℕ) → List (List ℕ) → Type 0
SegmentsStand b globals segments = (x : ℕ) (bytes : List ℕ) → slice_get segments x ≡ Some bytes → SegmentStands b (globals + 2 * x) bytes

-- ---- bytes that are stored

-- the memory is what it is to be, and nothing after it changes
pub record Written (pages : ℕ) (memory : List ℕ) (b : Bytes) : Type 0 where
  pub memory_is : memory_now pages (with_memory b memory) ≡ memory
  pub behind : drop (page * pages) (with_memory b memory).memory ≡ drop (page * pages) b.memory
  pub size : length (with_memory b memory).memory ≡ length b.memory

-- bytes below 256 are written over others
pub record WrittenOver (old new : List ℕ) : Type 0 where
  pub place : ℕ
  pub bytes : List ℕ
  pub sound : AreBytes bytes
  pub is : written_at old place bytes ≡ Some new

abbrev pub WrittenLaw : Type 0
WrittenLaw =
    (b : Bytes) (pages at : ℕ) (bytes memory : List ℕ) → page * pages ≤ length b.memory → written_at (memory_now pages b) at bytes ≡ Some memory
    → Written pages memory b

-- bytes stay numbers below 256, as those of a number are
abbrev pub BytesStayLaw : Type 0
BytesStayLaw =
    (b : Bytes) (pages at : ℕ) (bytes memory : List ℕ) → AreBytes b.memory → AreBytes bytes → written_at (memory_now pages b) at bytes ≡ Some memory
    → AreBytes (with_memory b memory).memory

abbrev pub BytesOfLaw : Type 0
BytesOfLaw = (count n : ℕ) → AreBytes (bytes_of count n)

-- ---- growing

-- the region has the pages of the cap, and zeros follow the memory
pub record HasRoom (cap pages : ℕ) (b : Bytes) : Type 0 where
  pub within : pages ≤ cap
  pub size : length b.memory ≡ page * cap
  pub zeros : drop (page * pages) b.memory ≡ replicate (page * cap - page * pages) 0

-- the environment goes on with so many pages, where a0 has the word of a number; other registers and all bytes stay
pub record Answered (i : Image) (r : Running) (number pages : ℕ) : Type 0 where
  pub to : Running
  pub is : (pc : ℕ) → environment i r pc ≡ To to
  pub answer_is : reg to.machine.registers a0 ≡ word I32 number
  pub pages_are : to.pages ≡ pages
  pub regions : HasRegions pages to.machine
  pub room : HasRoom i.cap pages to.machine.bytes
  pub bytes_are : to.machine.bytes ≡ r.machine.bytes
  pub pc_is : to.machine.pc ≡ r.machine.pc
  pub others : (q : ℕ) → (q == a0 || q == s2) ≡ false → reg to.machine.registers q ≡ reg r.machine.registers q
  pub calls : to.calls ≡ r.calls
  pub replies : to.replies ≡ r.replies
  pub results : to.results ≡ r.results
  pub later : to.later ≡ r.later

-- by the memory that is to be: without one the number is -1, and else that of the pages before
abbrev pub Grows : (i : Image) (r : Running) (more : ℕ) → Option (List ℕ) → Type 0
Grows i r more None = Answered i r (2 ^ 32 - 1) r.pages
Grows i r more (Some memory) =
    Answered i r (pages_of (memory_of r)) (r.pages + more) × (take (page * (r.pages + more)) r.machine.bytes.memory ≡ memory)

-- the machine follows the ECALL
abbrev pub GrowsLaw : Type 0
GrowsLaw =
    (i : Image) (r : Running) (more : ℕ) → reg r.machine.registers a7 ≡ 2 → reg r.machine.registers a0 % 2 ^ 32 ≡ more
    → HasRegions r.pages r.machine → HasRoom i.cap r.pages r.machine.bytes → page * i.cap ≤ 2 ^ 28 → Grows i r more (grown (memory_of r) more i.cap)
