-- What the instruction words of stores do.
use Rattle.std.proofs.Common.{◌≡◌, ℕ, ◌+◌, ◌-◌, ◌*◌, ◌<◌, ◌≤◌, Bool, true, false, nat_le, if◌then◌else◌, List, [], ◌∷◌, ◌++◌, drop, length, Option, None, Some, refl, sym, ap, ap₂, subst, ◌∙◌, arith}
use Rattle.std.proofs.lemmas.Bool.{leb-true}
use Rattle.std.proofs.lemmas.List.{length-take-le}
use Rattle.rv_isa.specs.declared.operations.Op.{Op}
use Rattle.rv_isa.specs.declared.operations.Op.TheVariants as op
use Rattle.rv_isa.specs.declared.stepping.Region.TheVariants.{Memory}
use Rattle.rv_isa.specs.Values.{i_value, plus, store_width}
use Rattle.rv_isa.specs.Steps.{reg, Bytes, State, le_bytes, put, region_base}
use Rattle.rv_isa.specs.Runs.{place, HasAt}
use Rattle.wasm_defs.specs.declared.operation.StoreOp.{StoreOp}
use Rattle.wasm_defs.specs.Typing.{store_type}
use Rattle.wasm_defs.specs.Values.{modulus, word}
use Rattle.wasm_defs.specs.Memory.{page, bytes_of, store_count}
use Rattle.wasm_defs.specs.Configurations.{max_slots}
use Rattle.frame_layout.specs.Slots.{operand}
use Rattle.frame_layout.specs.Macros.{t0, t2}
use Rattle.frame_layout.specs.Templates.{EmitContext, address, machine_store, load_operand}
use Rattle.frame_layout.specs.Laws.{slot_at, IsFrame, Does}
use Rattle.frame_layout.proofs.Standing.{has_first, has_rest}
use Rattle.frame_layout.proofs.SlotLaws.{load_slot_leaves}
use Rattle.frame_layout.proofs.Steps.{does_leave, does_then, does_with, frame_stays}
use Rattle.simulation.specs.Regions.{memory_now, with_memory, HasRegions}
use Rattle.simulation.specs.MemoryLaws.{Finds, Addresses, Stored, StoreLaw}
use Rattle.simulation.proofs.Memory.Accesses.{store_does}
use Rattle.simulation.proofs.Memory.Addresses.{address_does}
use Rattle.simulation.proofs.Memory.Parts.{store_width_is, store_count_few}
use Rattle.simulation.proofs.Memory.Written.{stored_bytes, length-bytes_of, over_part, over_part_size, over_part_is}

-- the machine's memory after a store
memory_is : (w : EmitContext) (o : StoreOp) (at_place pages b : ℕ) (bytes : Bytes) → b < modulus (store_type o) → page * pages ≤ length bytes.memory → at_place + store_count o ≤ page * pages
    → record bytes { memory = put (store_width (machine_store w o)) at_place bytes.memory (le_bytes (store_width (machine_store w o)) (word (store_type o) b)) } ≡ with_memory bytes (over_part at_place (page * pages) (bytes_of (store_count o) b) bytes.memory)
memory_is w o at_place pages b bytes small whole inside =
    let new = bytes_of (store_count o) b in
    let size = length-bytes_of (store_count o) b in
    let fits : at_place + length new ≤ page * pages = omega (arith, size) in
    let written = over_part at_place (page * pages) new bytes.memory in
    let put_is : put (store_width (machine_store w o)) at_place bytes.memory (le_bytes (store_width (machine_store w o)) (word (store_type o) b)) ≡ put (length new) at_place bytes.memory new =
    ap (λ (n : ℕ). put n at_place bytes.memory (le_bytes n (word (store_type o) b))) (store_width_is w o)
    ∙ ap₂ (λ (n : ℕ) (l : List ℕ). put n at_place bytes.memory l) (sym size) (stored_bytes o b small) in
    let whole_is : put (length new) at_place bytes.memory new ≡ written ++ drop (length written) bytes.memory =
    over_part_is at_place (page * pages) new bytes.memory fits whole ∙ ap (λ (n : ℕ). written ++ drop n bytes.memory) (sym (over_part_size at_place (page * pages) new bytes.memory fits whole)) in
    ap (λ (l : List ℕ). record bytes { memory = l }) (put_is ∙ whole_is)

module _ (w : EmitContext) (code : List (Option Op)) (s : State) (i base h at_place pages b : ℕ) (o : StoreOp) (has : HasAt code i (load_operand w t2 (h - 1) ++ op.Store (machine_store w o) t0 t2 0 ∷ []))
    (frame : IsFrame base s) (regions : HasRegions pages s) (inside : base + operand w.layout (h - 1) < max_slots) (b_is : slot_at s.bytes (base + operand w.layout (h - 1)) ≡ word (store_type o) b) (small : b < modulus (store_type o)) where
  stores : (found : Finds code at_place s) → found.does.end.pc ≡ place i → at_place + store_count o ≤ page * pages → Does code 18 21 s (with_memory s.bytes (over_part at_place (page * pages) (bytes_of (store_count o) b) s.bytes.memory))
  stores found at there =
      let whole = regions.whole in
      let does = found.does in
      let front = load_operand w t2 (h - 1) in
      let back = op.Store (machine_store w o) t0 t2 0 ∷ [] in
      let frame' = frame_stays frame does in
      let one = load_slot_leaves code does.end i base t2 (operand w.layout (h - 1)) (has_first code i front back has) at frame' (λ e. absurd cc) (λ e. absurd cc) inside in
      let pc_one = one.pc_is in
      let loaded = does_leave refl one in
      let frame'' = frame_stays frame' loaded in
      let place_is = one.others t0 (λ e. absurd cc) ∙ found.place_is in
      let width = store_width_is w o in
      let fit = frame.windows Memory in
      let same = one.bytes_are ∙ does.bytes_are in
      let near : at_place + store_width (machine_store w o) ≤ length one.end.bytes.memory = omega (arith, ap (λ (x : Bytes). length x.memory) same) in
      let address_is : plus (reg one.end.registers t0) (i_value 0) ≡ region_base Memory + at_place = omega arith in
      let value = one.value_is ∙ ap (λ (x : Bytes). slot_at x (base + operand w.layout (h - 1))) does.bytes_are ∙ b_is in
      let done = store_does code one.end (i + 3) t0 0 Memory at_place (omega arith) address_is frame''.windows (machine_store w o) t2 (word (store_type o) b) (has_rest code i front back has) refl near value in
      let bytes = ap (λ (x : Bytes). record x { memory = put (store_width (machine_store w o)) at_place x.memory (le_bytes (store_width (machine_store w o)) (word (store_type o) b)) }) same ∙ memory_is w o at_place pages b s.bytes small whole there in
      does_then (does_then does (does_with does.bytes_are loaded)) (does_with bytes done)

  stores_by : (t : Bool) → nat_le (at_place + store_count o) (page * pages) ≡ t → (found : Addresses code at_place s t) → s.pc + 4 * 17 ≡ place i → Stored code s (if t then Some (over_part at_place (page * pages) (bytes_of (store_count o) b) s.bytes.memory) else None)
  stores_by true is found at =
      let pc_is = found.does.pc_is in
      stores found (omega arith) (leb-true (at_place + store_count o) (page * pages) is)
  stores_by false is traps at = traps

pub store_law_does : StoreLaw
store_law_does w code s i base h a b offset pages o has at frame regions two inside a_is b_is small small_b small' short =
    let front = address w (h - 2) offset (store_count o) in
    let back = load_operand w t2 (h - 1) ++ op.Store (machine_store w o) t0 t2 0 ∷ [] in
    let few = store_count_few o in
    let found = address_does w code s i base (h - 2) offset (store_count o) a pages (has_first code i front back has) at frame regions (omega arith) a_is small small' (omega arith) short in
    let size : length (memory_now pages s.bytes) ≡ page * pages = length-take-le (page * pages) s.bytes.memory regions.whole in
    let count = length-bytes_of (store_count o) b in
    let same : nat_le (a + offset + store_count o) (page * pages) ≡ nat_le (a + offset + length (bytes_of (store_count o) b)) (length (memory_now pages s.bytes)) = ap₂ (λ (m n : ℕ). nat_le (a + offset + m) n) (sym count) (sym size) in
    let result = stores_by w code s (i + 17) base h (a + offset) pages b o (has_rest code i front back has) frame regions inside b_is small_b (nat_le (a + offset + store_count o) (page * pages)) refl found (omega arith) in
    subst (λ (t : Bool). Stored code s (if t then Some (over_part (a + offset) (page * pages) (bytes_of (store_count o) b) s.bytes.memory) else None)) same result
