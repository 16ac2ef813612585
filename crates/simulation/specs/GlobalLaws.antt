-- What the machine does where the instruction words of `global.get` and `global.set` are (WebAssembly Core
-- 1.0, 4.4.3).
use Rattle.std.specs.Prelude.{◌≡◌, ℕ, ◌+◌, ◌-◌, ◌*◌, ◌<◌, ◌≤◌, List, length, Option}
use Rattle.rv_isa.specs.declared.operations.Op.{Op}
use Rattle.rv_isa.specs.Steps.{State}
use Rattle.rv_isa.specs.Runs.{place, HasAt}
use Rattle.wasm_defs.specs.Configurations.{max_slots}
use Rattle.frame_layout.specs.Slots.{operand}
use Rattle.frame_layout.specs.Templates.{EmitContext, global_get_words, global_set_words}
use Rattle.frame_layout.specs.Laws.{slot_at, with_slot, IsFrame, Does}
use Rattle.simulation.specs.Regions.{global_at, with_global, HasRegions}

-- a global's word comes into the operand above those on the stack
abbrev pub GlobalGetLaw : Type 0
GlobalGetLaw =
    (w : EmitContext) (code : List (Option Op)) (s : State) (i base h x pages : ℕ) → HasAt code i (global_get_words w h x) → s.pc ≡ place i
    → IsFrame base s → HasRegions pages s → 8 * (x + 1) ≤ length s.bytes.globals → base + operand w.layout h < max_slots
    → Does code (length (global_get_words w h x)) (length (global_get_words w h x)) s (with_slot s.bytes (base + operand w.layout h) (global_at s.bytes x))

-- the topmost operand comes into a global
abbrev pub GlobalSetLaw : Type 0
GlobalSetLaw =
    (w : EmitContext) (code : List (Option Op)) (s : State) (i base h x pages : ℕ) → HasAt code i (global_set_words w h x) → s.pc ≡ place i
    → IsFrame base s → HasRegions pages s → 8 * (x + 1) ≤ length s.bytes.globals → base + operand w.layout (h - 1) < max_slots
    → Does code (length (global_set_words w h x)) (length (global_set_words w h x)) s
    (with_global s.bytes x (slot_at s.bytes (base + operand w.layout (h - 1))))
