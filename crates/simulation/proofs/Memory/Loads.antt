-- What the instruction words of loads do.
use Rattle.std.proofs.Common.{◌≡◌, ℕ, suc, ◌+◌, ◌-◌, ◌*◌, ◌^◌, ◌<◌, ◌≤◌, Bool, true, false, nat_le, if◌then◌else◌, List, ◌∷◌, take, drop, length, Option, None, Some, refl, sym, ap, subst, ◌∙◌, arith}
use Rattle.std.proofs.lemmas.Bool.{leb-true}
use Rattle.std.proofs.lemmas.List.{length-take-le}
use Rattle.rv_isa.specs.declared.operations.Op.{Op}
use Rattle.rv_isa.specs.declared.operations.Op.TheVariants as op
use Rattle.rv_isa.specs.declared.stepping.Region.TheVariants.{Memory}
use Rattle.rv_isa.specs.Values.{i_value, plus, load_width, load_value}
use Rattle.rv_isa.specs.Steps.{reg, Bytes, State, le_value, value_at, region_base}
use Rattle.rv_isa.specs.Runs.{place, HasAt, AreBytes}
use Rattle.rv_isa.proofs.ByteLaws.{value_at_small}
use Rattle.wasm_defs.specs.declared.operation.LoadOp.{LoadOp}
use Rattle.wasm_defs.specs.Typing.{load_type}
use Rattle.wasm_defs.specs.Values.{word}
use Rattle.wasm_defs.specs.Memory.{page, number_of, load_count, extended}
use Rattle.wasm_defs.specs.Configurations.{max_slots}
use Rattle.frame_layout.specs.Slots.{operand}
use Rattle.frame_layout.specs.Macros.{t0}
use Rattle.frame_layout.specs.Templates.{EmitContext, address, machine_load, store_operand}
use Rattle.frame_layout.specs.Laws.{IsFrame}
use Rattle.frame_layout.proofs.Standing.{has_first, has_rest}
use Rattle.frame_layout.proofs.Steps.{does_leave, does_then, does_with, frame_stays}
use Rattle.frame_layout.proofs.Instructions.{stored_does}
use Rattle.simulation.specs.Regions.{memory_now, HasRegions}
use Rattle.simulation.specs.MemoryLaws.{Finds, Addresses, Loaded, LoadLaw}
use Rattle.simulation.proofs.Memory.Accesses.{load_leaves}
use Rattle.simulation.proofs.Memory.Addresses.{address_does}
use Rattle.simulation.proofs.Memory.Parts.{number_is, part_is, load_width_is, load_count_few, loaded_word}

-- the machine's value is the word of the language's
value_of_part : (w : EmitContext) (op : LoadOp) (place size : ℕ) (memory : List ℕ) → AreBytes memory → size ≤ length memory → place + load_count op ≤ size → load_value (machine_load w op) (value_at (load_width (machine_load w op)) place memory) ≡ word (load_type op) (extended op (number_of (take (load_count op) (drop place (take size memory)))))
value_of_part w op place size memory sound whole inside =
    let part = take (load_count op) (drop place (take size memory)) in
    let number : value_at (load_count op) place memory ≡ number_of part = ap le_value (sym (part_is place (load_count op) size memory inside)) ∙ sym (number_is part) in
    let small = subst (λ (n : ℕ). n < 256 ^ load_count op) number (value_at_small (load_count op) place memory sound (omega arith)) in
    ap (λ (n : ℕ). load_value (machine_load w op) (value_at n place memory)) (load_width_is w op)
    ∙ ap (load_value (machine_load w op)) number
    ∙ loaded_word w op (number_of part) small

module _ (w : EmitContext) (code : List (Option Op)) (s : State) (i base h at_place pages : ℕ) (o : LoadOp) (has : HasAt code i (op.Load (machine_load w o) t0 t0 0 ∷ store_operand w t0 (h - 1)))
    (frame : IsFrame base s) (regions : HasRegions pages s) (sound : AreBytes s.bytes.memory) (inside : base + operand w.layout (h - 1) < max_slots) where
  abbrev part : List ℕ
  part = take (load_count o) (drop at_place (memory_now pages s.bytes))

  loads : (found : Finds code at_place s) → found.does.end.pc ≡ place i → at_place + load_count o ≤ page * pages → Loaded code s (base + operand w.layout (h - 1)) o (Some part)
  loads found at there =
      let whole = regions.whole in
      let fit = frame.windows Memory in
      let does = found.does in
      let place_is = found.place_is in
      let frame' = frame_stays frame does in
      let same = does.bytes_are in
      let width = load_width_is w o in
      let address_is : plus (reg does.end.registers t0) (i_value 0) ≡ region_base Memory + at_place = omega arith in
      let near : at_place + load_width (machine_load w o) ≤ length does.end.bytes.memory = omega (arith, ap (λ (b : Bytes). length b.memory) same) in
      let given = load_leaves code does.end i t0 0 Memory at_place at address_is frame'.windows (machine_load w o) t0 (has.0, tt) (λ e. absurd cc) near in
      let pc_is = given.pc_is in
      let both = does_then does (does_with same (does_leave refl given)) in
      let value = given.value_is ∙ ap (λ (b : Bytes). load_value (machine_load w o) (value_at (load_width (machine_load w o)) at_place b.memory)) same ∙ value_of_part w o at_place (page * pages) s.bytes.memory sound whole there in
      stored_does code s (suc i) 15 18 base (operand w.layout (h - 1)) (word (load_type o) (extended o (number_of part))) both value has.1 (omega arith) frame inside

  loads_by : (t : Bool) → nat_le (at_place + load_count o) (page * pages) ≡ t → (found : Addresses code at_place s t) → s.pc + 4 * 17 ≡ place i → Loaded code s (base + operand w.layout (h - 1)) o (if t then Some part else None)
  loads_by true is found at =
      let pc_is = found.does.pc_is in
      loads found (omega arith) (leb-true (at_place + load_count o) (page * pages) is)
  loads_by false is traps at = traps

pub load_does : LoadLaw
load_does w code s i base h a offset pages o has at frame regions sound inside is small small' short =
    let front = address w (h - 1) offset (load_count o) in
    let back = op.Load (machine_load w o) t0 t0 0 ∷ store_operand w t0 (h - 1) in
    let few = load_count_few o in
    let found = address_does w code s i base (h - 1) offset (load_count o) a pages (has_first code i front back has) at frame regions inside is small small' (omega arith) short in
    let size : length (memory_now pages s.bytes) ≡ page * pages = length-take-le (page * pages) s.bytes.memory regions.whole in
    let same : nat_le (a + offset + load_count o) (page * pages) ≡ nat_le (a + offset + load_count o) (length (memory_now pages s.bytes)) = ap (nat_le (a + offset + load_count o)) (sym size) in
    let result = loads_by w code s (i + 17) base h (a + offset) pages o (has_rest code i front back has) frame regions sound inside (nat_le (a + offset + load_count o) (page * pages)) refl found (omega arith) in
    subst (λ (t : Bool). Loaded code s (base + operand w.layout (h - 1)) o (if t then Some (take (load_count o) (drop (a + offset) (memory_now pages s.bytes))) else None)) same result
