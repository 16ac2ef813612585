-- Slots of the stack: what is written is read, nothing else changes, and three instruction words load or store a slot
-- of the frame.
use Rattle.std.proofs.Common.{◌≡◌, ℕ, ◌+◌, ◌*◌, ◌^◌, ◌<◌, List, length, Option, inl, inr, refl, arith}
use Rattle.std.specs.Prelude.{◌≢◌}
use Rattle.std.proofs.lemmas.Bool.{cases_lt}
use Rattle.rv_isa.specs.declared.operations.Op.{Op}
use Rattle.rv_isa.specs.declared.stepping.Region.TheVariants.{Stack, Globals, Table, Memory, Passive}
use Rattle.rv_isa.specs.Values.{u_value, plus}
use Rattle.rv_isa.specs.Steps.{reg, Bytes, State, le_bytes}
use Rattle.rv_isa.specs.Runs.{place, HasAt, FitWindows, LiesIn, Leaves, hi}
use Rattle.rv_isa.proofs.ByteLaws.{written_is_read, above_stays, below_stays, length-put, length-le_bytes}
use Rattle.rv_isa.proofs.OffsetLaws.{loads_behind, stores_behind}
use Rattle.wasm_defs.specs.Configurations.{max_slots}
use Rattle.frame_layout.specs.Macros.{t3, s0, load_slot, store_slot}
use Rattle.frame_layout.specs.Laws.{slot_at, with_slot, IsFrame}

-- ---- slots that are written

pub slot_written : (b : Bytes) (i v : ℕ) → length b.stack ≡ 8 * max_slots → i < max_slots → v < 2 ^ 64 → slot_at (with_slot b i v) i ≡ v
slot_written b i v size inside small = written_is_read 8 (8 * i) v b.stack (omega arith) small

pub slot_other : (b : Bytes) (i v k : ℕ) → length b.stack ≡ 8 * max_slots → i < max_slots → k ≢ i → slot_at (with_slot b i v) k ≡ slot_at b k
slot_other b i v k size inside differs =
    elim (cases_lt k i) [
      | inl below ↦ below_stays 8 (8 * i) v 8 (8 * k) b.stack (omega arith) (omega arith)
      | inr above ↦ let behind : i < k = omega (arith, differs) in above_stays 8 (8 * i) v 8 (8 * k) b.stack (omega arith) (omega arith)
    ]

pub size_stays : (b : Bytes) (i v : ℕ) → length b.stack ≡ 8 * max_slots → i < max_slots → length (with_slot b i v).stack ≡ length b.stack
size_stays b i v size inside = length-put 8 (8 * i) b.stack (le_bytes 8 v) (omega arith) (length-le_bytes 8 v)

pub windows_stay : (b : Bytes) (i v : ℕ) → length b.stack ≡ 8 * max_slots → i < max_slots → FitWindows b → FitWindows (with_slot b i v)
windows_stay b i v size inside fit Stack = omega (arith, size_stays b i v size inside)
windows_stay b i v size inside fit Globals = fit Globals
windows_stay b i v size inside fit Table = fit Table
windows_stay b i v size inside fit Memory = fit Memory
windows_stay b i v size inside fit Passive = fit Passive

-- ---- slots of the frame

slot_lies : (s : State) (base k : ℕ) → IsFrame base s → base + k < max_slots → LiesIn s.bytes Stack (8 * (base + k)) 8 (plus (reg s.registers s0) (8 * k))
slot_lies s base k frame inside =
    let first = frame.first in
    let size = frame.size in
    record { address_is = omega arith; inside = omega arith }

-- into a register
pub load_slot_leaves : (code : List (Option Op)) (s : State) (i base r k : ℕ) → HasAt code i (load_slot r k) → s.pc ≡ place i → IsFrame base s → r ≢ 0 → s0 ≢ r → base + k < max_slots → Leaves code 3 s s.bytes r (slot_at s.bytes (base + k))
load_slot_leaves code s i base r k has at frame ne apart inside =
    loads_behind code s i r s0 (8 * k) Stack (8 * (base + k)) has at ne apart (omega arith) (slot_lies s base k frame inside) frame.windows

-- and back
pub store_slot_leaves : (code : List (Option Op)) (s : State) (i base r k : ℕ) → HasAt code i (store_slot r k) → s.pc ≡ place i → IsFrame base s → r ≢ t3 → base + k < max_slots → Leaves code 3 s (with_slot s.bytes (base + k) (reg s.registers r)) t3 (plus (u_value (hi (8 * k))) (reg s.registers s0))
store_slot_leaves code s i base r k has at frame differs inside =
    stores_behind code s i r t3 s0 (8 * k) Stack (8 * (base + k)) has at (λ e. absurd cc) (λ e. absurd cc) differs (omega arith) (slot_lies s base k frame inside) refl frame.windows
