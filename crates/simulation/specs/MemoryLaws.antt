-- What the machine does where the instruction words of memory instructions are (WebAssembly Core 1.0, 4.4.4). The memory's bytes
-- are those of its pages.
use Rattle.std.specs.Prelude.{◌≡◌, ℕ, ◌+◌, ◌-◌, ◌*◌, ◌%◌, ◌^◌, ◌<◌, ◌≤◌, Bool, true, false, nat_le, if◌then◌else◌, List, take, drop, length, replicate, Option, None, Some}
use Rattle.rv_isa.specs.declared.operations.Op.{Op}
use Rattle.rv_isa.specs.declared.stepping.Region.TheVariants.{Memory}
use Rattle.rv_isa.specs.Steps.{reg, State, region_base}
use Rattle.rv_isa.specs.Runs.{place, HasAt, AreBytes}
use Rattle.wasm_defs.specs.declared.types.ValType.TheVariants.{I32}
use Rattle.wasm_defs.specs.declared.operation.LoadOp.{LoadOp}
use Rattle.wasm_defs.specs.declared.operation.StoreOp.{StoreOp}
use Rattle.wasm_defs.specs.Typing.{load_type, store_type}
use Rattle.wasm_defs.specs.Values.{modulus, word}
use Rattle.wasm_defs.specs.Memory.{page, pages_of, number_of, bytes_of, bytes_at, written_at, load_count, store_count, extended, grown}
use Rattle.wasm_defs.specs.Configurations.{max_slots}
use Rattle.frame_layout.specs.Macros.{t0, a0}
use Rattle.frame_layout.specs.Slots.{operand}
use Rattle.frame_layout.specs.Templates.{EmitContext, address, load_words, store_words, size_words, grow_words}
use Rattle.frame_layout.specs.Laws.{slot_at, with_slot, IsFrame, Does, Asks, TrapsAt}
use Rattle.simulation.specs.Regions.{memory_now, with_memory, HasRegions}

-- ---- addresses

-- the address of the bytes is in t0
pub record Finds (code : List (Option Op)) (at : ℕ) (s : State) : Type 0 where
  pub does : Does code 14 17 s s.bytes
  pub place_is : reg does.end.registers t0 ≡ region_base Memory + at

-- where the bytes are in the memory, and else a trap
abbrev pub Addresses : (code : List (Option Op)) (at : ℕ) (s : State) → (inside : Bool) → Type 0
Addresses code at s true = Finds code at s
Addresses code at s false = TrapsAt code 16 16 4 s

-- of so many bytes, at the number in operand j and an offset. The words branch, so the text has to end below 2 ^ 64.
abbrev pub AddressLaw : Type 0
AddressLaw =
    (w : EmitContext) (code : List (Option Op)) (s : State) (i base j offset count a pages : ℕ) → HasAt code i (address w j offset count) → s.pc ≡ place i
    → IsFrame base s → HasRegions pages s → base + operand w.layout j < max_slots → slot_at s.bytes (base + operand w.layout j) ≡ word I32 a
    → a < 2 ^ 32 → offset < 2 ^ 32 → count < 2 ^ 11 → length code ≤ 2 ^ 26
    → Addresses code (a + offset) s (nat_le (a + offset + count) (page * pages))

-- ---- loads

-- by the bytes there: the number goes to a slot
abbrev pub Loaded : (code : List (Option Op)) (s : State) (slot : ℕ) (op : LoadOp) → Option (List ℕ) → Type 0
Loaded code s slot op None = TrapsAt code 16 16 4 s
Loaded code s slot op (Some bytes) = Does code 18 21 s (with_slot s.bytes slot (word (load_type op) (extended op (number_of bytes))))

abbrev pub LoadLaw : Type 0
LoadLaw =
    (w : EmitContext) (code : List (Option Op)) (s : State) (i base h a offset pages : ℕ) (op : LoadOp) → HasAt code i (load_words w h op offset) → s.pc ≡ place i
    → IsFrame base s → HasRegions pages s → AreBytes s.bytes.memory → base + operand w.layout (h - 1) < max_slots
    → slot_at s.bytes (base + operand w.layout (h - 1)) ≡ word I32 a → a < 2 ^ 32 → offset < 2 ^ 32 → length code ≤ 2 ^ 26
    → Loaded code s (base + operand w.layout (h - 1)) op (bytes_at (memory_now pages s.bytes) (a + offset) (load_count op))

-- and is below the modulus of its type
abbrev pub LoadRangeLaw : Type 0
LoadRangeLaw =
    (op : LoadOp) (memory bytes : List ℕ) (at : ℕ) → AreBytes memory → bytes_at memory at (load_count op) ≡ Some bytes
    → extended op (number_of bytes) < modulus (load_type op)

-- ---- stores

-- by the memory after them
abbrev pub Stored : (code : List (Option Op)) (s : State) → Option (List ℕ) → Type 0
Stored code s None = TrapsAt code 16 16 4 s
Stored code s (Some memory) = Does code 18 21 s (with_memory s.bytes memory)

abbrev pub StoreLaw : Type 0
StoreLaw =
    (w : EmitContext) (code : List (Option Op)) (s : State) (i base h a b offset pages : ℕ) (op : StoreOp) → HasAt code i (store_words w h op offset) → s.pc ≡ place i
    → IsFrame base s → HasRegions pages s → 2 ≤ h → base + operand w.layout (h - 1) < max_slots
    → slot_at s.bytes (base + operand w.layout (h - 2)) ≡ word I32 a → slot_at s.bytes (base + operand w.layout (h - 1)) ≡ word (store_type op) b
    → a < 2 ^ 32 → b < modulus (store_type op) → offset < 2 ^ 32 → length code ≤ 2 ^ 26
    → Stored code s (written_at (memory_now pages s.bytes) (a + offset) (bytes_of (store_count op) b))

-- ---- the size

abbrev pub SizeLaw : Type 0
SizeLaw =
    (w : EmitContext) (code : List (Option Op)) (s : State) (i base h pages : ℕ) → HasAt code i (size_words w h) → s.pc ≡ place i
    → IsFrame base s → HasRegions pages s → base + operand w.layout h < max_slots
    → Does code (length (size_words w h)) (length (size_words w h)) s
    (with_slot s.bytes (base + operand w.layout h) (word I32 (pages_of (memory_now pages s.bytes))))

-- ---- growing

-- the environment is asked with the operand in a0
pub record AsksForPages (code : List (Option Op)) (a : ℕ) (s : State) : Type 0 where
  pub asks : Asks code 5 5 2 s
  pub number_is : reg asks.end.registers a0 % 2 ^ 32 ≡ a

abbrev pub GrowLaw : Type 0
GrowLaw =
    (w : EmitContext) (code : List (Option Op)) (s : State) (i base h a : ℕ) → HasAt code i (grow_words w h) → s.pc ≡ place i
    → IsFrame base s → base + operand w.layout (h - 1) < max_slots
    → slot_at s.bytes (base + operand w.layout (h - 1)) ≡ word I32 a → a < 2 ^ 32 → AsksForPages code a s

-- after the call its answer goes from a0 to the operand
abbrev pub GrownLaw : Type 0
GrownLaw =
    (w : EmitContext) (code : List (Option Op)) (s : State) (i base h v : ℕ) → HasAt code i (grow_words w h) → s.pc ≡ place (i + 5)
    → IsFrame base s → base + operand w.layout (h - 1) < max_slots → reg s.registers a0 ≡ v
    → Does code 3 3 s (with_slot s.bytes (base + operand w.layout (h - 1)) v)

-- the memory of more pages, where the region has those of the cap, and zeros after the memory
abbrev pub GrownMemoryLaw : Type 0
GrownMemoryLaw =
    (memory : List ℕ) (pages more cap : ℕ) → pages ≤ cap → length memory ≡ page * cap → drop (page * pages) memory ≡ replicate (page * cap - page * pages) 0
    → grown (take (page * pages) memory) more cap ≡ (if nat_le (pages + more) cap then Some (take (page * (pages + more)) memory) else None)

-- and the zeros after that
abbrev pub ZerosBehindLaw : Type 0
ZerosBehindLaw =
    (memory : List ℕ) (pages more cap : ℕ) → pages + more ≤ cap → drop (page * pages) memory ≡ replicate (page * cap - page * pages) 0
    → drop (page * (pages + more)) memory ≡ replicate (page * cap - page * (pages + more)) 0
