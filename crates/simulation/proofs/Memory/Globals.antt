-- What the instruction words of `global.get` and `global.set` do.
use Rattle.std.proofs.Common.{◌≡◌, ℕ, ◌+◌, ◌-◌, ◌*◌, ◌≤◌, length, refl, ap, ap₂, arith}
use Rattle.rv_isa.specs.declared.stepping.Region.TheVariants.{Globals}
use Rattle.rv_isa.specs.Values.{plus}
use Rattle.rv_isa.specs.Steps.{reg, Bytes, State}
use Rattle.rv_isa.specs.Runs.{load_behind, store_behind, LiesIn}
use Rattle.rv_isa.proofs.OffsetLaws.{loads_behind, stores_behind}
use Rattle.frame_layout.specs.Slots.{operand}
use Rattle.frame_layout.specs.Macros.{t0, t3, s3}
use Rattle.frame_layout.specs.Templates.{load_operand, store_operand}
use Rattle.frame_layout.specs.Laws.{slot_at, IsFrame}
use Rattle.frame_layout.proofs.Standing.{has_first, has_rest}
use Rattle.frame_layout.proofs.SlotLaws.{load_slot_leaves}
use Rattle.frame_layout.proofs.Steps.{does_leave, does_then, does_with, frame_stays}
use Rattle.frame_layout.proofs.Instructions.{stored_does}
use Rattle.simulation.specs.Regions.{global_at, with_global, HasRegions}
use Rattle.simulation.proofs.Memory.Regions.{regions_stay}
use Rattle.simulation.specs.GlobalLaws.{GlobalGetLaw, GlobalSetLaw}

global_lies : (s : State) (base x pages : ℕ) → IsFrame base s → HasRegions pages s → 8 * (x + 1) ≤ length s.bytes.globals → LiesIn s.bytes Globals (8 * x) 8 (plus (reg s.registers s3) (8 * x))
global_lies s base x pages frame regions inside =
    let first = regions.globals in
    let small = frame.windows Globals in
    record { address_is = omega arith; inside = omega arith }

pub global_get_does : GlobalGetLaw
global_get_does w code s i base h x pages has at frame regions near inside =
    let front = load_behind t0 s3 (8 * x) in
    let small = frame.windows Globals in
    let given = loads_behind code s i t0 s3 (8 * x) Globals (8 * x) (has_first code i front (store_operand w t0 h) has) at (λ e. absurd cc) (λ e. absurd cc) (omega arith) (global_lies s base x pages frame regions near) frame.windows in
    let pc_is = given.pc_is in
    stored_does code s (i + 3) 3 3 base (operand w.layout h) (global_at s.bytes x) (does_leave refl given) given.value_is (has_rest code i front (store_operand w t0 h) has) (omega arith) frame inside

pub global_set_does : GlobalSetLaw
global_set_does w code s i base h x pages has at frame regions near inside =
    let front = load_operand w t0 (h - 1) in
    let back = store_behind t0 t3 s3 (8 * x) in
    let small = frame.windows Globals in
    let given = load_slot_leaves code s i base t0 (operand w.layout (h - 1)) (has_first code i front back has) at frame (λ e. absurd cc) (λ e. absurd cc) inside in
    let pc_is = given.pc_is in
    let first = does_leave refl given in
    let lies = global_lies given.end base x pages (frame_stays frame first) (regions_stay regions first) (omega (arith, ap (λ (b : Bytes). length b.globals) given.bytes_are)) in
    let stored = stores_behind code given.end (i + 3) t0 t3 s3 (8 * x) Globals (8 * x) (has_rest code i front back has) (omega arith) (λ e. absurd cc) (λ e. absurd cc) (λ e. absurd cc) (omega arith) lies refl (frame_stays frame first).windows in
    let same : with_global given.end.bytes x (reg given.end.registers t0) ≡ with_global s.bytes x (slot_at s.bytes (base + operand w.layout (h - 1))) = ap₂ (λ (b : Bytes) (v : ℕ). with_global b x v) given.bytes_are given.value_is in
    does_then first (does_with same (does_leave refl stored))
