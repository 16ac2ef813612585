-- What the machine does on the instruction words of `memory.fill`, `memory.copy`, `memory.init` and `data.drop` (WebAssembly Core
-- 2.0, 4.4.7).
use Rattle.std.specs.Prelude.{◌≡◌, ◌⊎◌, ℕ, ◌+◌, ◌-◌, ◌*◌, ◌^◌, ◌<◌, ◌≤◌, List, length, Option, None, Some}
use Rattle.rv_isa.specs.declared.operations.Op.{Op}
use Rattle.rv_isa.specs.Steps.{State}
use Rattle.rv_isa.specs.Runs.{place, HasAt, AreBytes}
use Rattle.wasm_defs.specs.declared.types.ValType.TheVariants.{I32}
use Rattle.wasm_defs.specs.Values.{word}
use Rattle.wasm_defs.specs.Configurations.{max_slots}
use Rattle.frame_layout.specs.Slots.{operand}
use Rattle.frame_layout.specs.Templates.{EmitContext}
use Rattle.frame_layout.specs.Laws.{slot_at, IsFrame, Does, TrapsAt}
use Rattle.simulation.specs.Regions.{with_global, memory_now, with_memory, HasRegions, SegmentStands}
use Rattle.frame_layout.specs.BulkWords.{fill_words, copy_words, init_words, drop_words}
use Rattle.wasm_defs.specs.Memory.{filled_at, copied_at}

-- by the memory after it: so many steps at most lead past so many words
pub record Writes (code : List (Option Op)) (most words : ℕ) (s : State) (memory : List ℕ) : Type 0 where
  pub steps : ℕ
  pub some : 0 < steps
  pub within : steps ≤ most
  pub does : Does code steps words s (with_memory s.bytes memory)

-- or to one of two traps, before any byte is written
pub record Halts (code : List (Option Op)) (first second : ℕ) (s : State) : Type 0 where
  pub steps : ℕ
  pub words : ℕ
  pub within : steps ≤ 128
  pub among : (words ≡ first) ⊎ (words ≡ second)
  pub traps : TrapsAt code steps words 4 s

-- ---- `memory.fill`: 4 steps a byte

abbrev pub Filled : (code : List (Option Op)) (n : ℕ) (s : State) → Option (List ℕ) → Type 0
Filled code n s None = TrapsAt code 15 15 4 s
Filled code n s (Some memory) = Writes code (18 + 4 * n) 24 s memory

abbrev pub FillLaw : Type 0
FillLaw =
    (w : EmitContext) (code : List (Option Op)) (s : State) (i base h d v n pages : ℕ) → HasAt code i (fill_words w.layout h) → s.pc ≡ place i
    → IsFrame base s → HasRegions pages s → 3 ≤ h → base + operand w.layout (h - 1) < max_slots
    → slot_at s.bytes (base + operand w.layout (h - 3)) ≡ word I32 d → slot_at s.bytes (base + operand w.layout (h - 2)) ≡ word I32 v
    → slot_at s.bytes (base + operand w.layout (h - 1)) ≡ word I32 n → d < 2 ^ 32 → v < 2 ^ 32 → n < 2 ^ 32 → length code ≤ 2 ^ 26
    → Filled code n s (filled_at (memory_now pages s.bytes) d v n)

-- ---- `memory.copy`: 6 steps a byte upward, and 7 downward

abbrev pub Copied : (code : List (Option Op)) (n : ℕ) (s : State) → Option (List ℕ) → Type 0
Copied code n s None = Halts code 20 25 s
Copied code n s (Some memory) = Writes code (25 + 7 * n) 44 s memory

abbrev pub CopyLaw : Type 0
CopyLaw =
    (w : EmitContext) (code : List (Option Op)) (s : State) (i base h d from n pages : ℕ) → HasAt code i (copy_words w.layout h) → s.pc ≡ place i
    → IsFrame base s → HasRegions pages s → AreBytes s.bytes.memory → 3 ≤ h → base + operand w.layout (h - 1) < max_slots
    → slot_at s.bytes (base + operand w.layout (h - 3)) ≡ word I32 d → slot_at s.bytes (base + operand w.layout (h - 2)) ≡ word I32 from
    → slot_at s.bytes (base + operand w.layout (h - 1)) ≡ word I32 n → d < 2 ^ 32 → from < 2 ^ 32 → n < 2 ^ 32 → length code ≤ 2 ^ 26
    → Copied code n s (copied_at (memory_now pages s.bytes) (memory_now pages s.bytes) d from n)

-- ---- `memory.init` of the segment whose words come after so many: 6 steps a byte

abbrev pub Inited : (code : List (Option Op)) (n : ℕ) (s : State) → Option (List ℕ) → Type 0
Inited code n s None = Halts code 23 28 s
Inited code n s (Some memory) = Writes code (29 + 6 * n) 40 s memory

abbrev pub InitLaw : Type 0
InitLaw =
    (w : EmitContext) (code : List (Option Op)) (s : State) (i base h d from n pages x : ℕ) (bytes : List ℕ) → HasAt code i (init_words w.layout h (8 * x)) → s.pc ≡ place i
    → IsFrame base s → HasRegions pages s → AreBytes s.bytes.passive → SegmentStands s.bytes x bytes → 3 ≤ h → base + operand w.layout (h - 1) < max_slots
    → slot_at s.bytes (base + operand w.layout (h - 3)) ≡ word I32 d → slot_at s.bytes (base + operand w.layout (h - 2)) ≡ word I32 from
    → slot_at s.bytes (base + operand w.layout (h - 1)) ≡ word I32 n → d < 2 ^ 32 → from < 2 ^ 32 → n < 2 ^ 32 → length code ≤ 2 ^ 26
    → Inited code n s (copied_at bytes (memory_now pages s.bytes) d from n)

-- ---- `data.drop`: the segment has no byte any more

abbrev pub DropLaw : Type 0
DropLaw =
    (code : List (Option Op)) (s : State) (i base x pages : ℕ) → HasAt code i (drop_words (8 * x)) → s.pc ≡ place i → IsFrame base s → HasRegions pages s
    → 8 * (x + 1) ≤ length s.bytes.globals → Does code 3 3 s (with_global s.bytes x 0)
