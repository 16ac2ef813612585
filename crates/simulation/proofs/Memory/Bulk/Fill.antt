-- What the words of `memory.fill` do.
use Rattle.std.proofs.Common.{◌≡◌, ℕ, suc, ◌+◌, ◌-◌, ◌*◌, ◌%◌, ◌^◌, ◌<◌, ◌≤◌, Bool, nat_le, if◌then◌else◌, List, ◌∷◌, ◌++◌, length, replicate, Option, None, Some, inl, inr, refl, sym, ap, ap₂, subst, ◌∙◌, arith}
use Rattle.std.proofs.lemmas.Bool.{cases_lt, le-leb, lt-leb}
use Rattle.std.proofs.lemmas.List.{length-take-le, length-replicate}
use Rattle.std.proofs.lemmas.Option.{slice_get_within}
use Rattle.rv_isa.specs.declared.operations.Op.{Op}
use Rattle.rv_isa.specs.declared.operations.Op.TheVariants.{Branch}
use Rattle.rv_isa.specs.declared.operations.BranchOp.TheVariants.{Bgeu}
use Rattle.rv_isa.specs.declared.stepping.Region.TheVariants.{Memory}
use Rattle.rv_isa.specs.Values.{plus}
use Rattle.rv_isa.specs.Steps.{reg, Bytes, State, put}
use Rattle.rv_isa.specs.Runs.{place, HasAt}
use Rattle.wasm_defs.specs.declared.types.ValType.TheVariants.{I32}
use Rattle.wasm_defs.specs.Values.{word}
use Rattle.wasm_defs.specs.Memory.{page, filled_at}
use Rattle.wasm_defs.specs.Configurations.{max_slots}
use Rattle.frame_layout.specs.Slots.{operand}
use Rattle.frame_layout.specs.Macros.{t0, t1, t2, s1, s2, forward, trap}
use Rattle.frame_layout.specs.Templates.{EmitContext}
use Rattle.frame_layout.specs.Laws.{slot_at, IsFrame, Does, TrapsAt}
use Rattle.frame_layout.proofs.Standing.{has_first, has_rest}
use Rattle.frame_layout.proofs.SlotLaws.{load_slot_leaves}
use Rattle.frame_layout.proofs.Steps.{does_then, does_with, frame_stays}
use Rattle.frame_layout.proofs.Jumps.{traps_after}
use Rattle.simulation.specs.Regions.{memory_now, HasRegions}
use Rattle.simulation.proofs.Memory.Written.{over_part}
use Rattle.frame_layout.specs.BulkWords.{bound, fill_loop, load_number, fill_places, fill_words}
use Rattle.frame_layout.proofs.WordLaws.{low_word}
use Rattle.simulation.specs.BulkLaws.{Writes, Filled, FillLaw}
use Rattle.simulation.proofs.Memory.Bulk.Loops.{address, filled, fill_does}
use Rattle.simulation.proofs.Memory.Bulk.Moved.{with_bytes, filled_is}
use Rattle.simulation.proofs.Memory.Bulk.Parts.{part_is_put}
use Rattle.simulation.proofs.Memory.Bulk.Three.{Three, begin, number_into, sum_into, leaves_as, sets_t0, sets_t1, sets_t2, goes, test_turns, test_traps}

byte_place : (code : List (Option Op)) (s : State) (i k : ℕ) (d : Does code k 17 s s.bytes) → s.pc ≡ place i → d.end.pc ≡ place (suc (suc (i + 15)))
byte_place code s i k d at = omega (arith, d.pc_is)

module _ (w : EmitContext) (code : List (Option Op)) (s : State) (i base h d v n pages : ℕ) (has : HasAt code i (fill_words w.layout h)) (at : s.pc ≡ place i) (frame : IsFrame base s) (regions : HasRegions pages s) (high : 3 ≤ h) (inside : base + operand w.layout (h - 1) < max_slots)
    (d_is : slot_at s.bytes (base + operand w.layout (h - 3)) ≡ word I32 d) (v_is : slot_at s.bytes (base + operand w.layout (h - 2)) ≡ word I32 v) (n_is : slot_at s.bytes (base + operand w.layout (h - 1)) ≡ word I32 n)
    (small_d : d < 2 ^ 32) (small_v : v < 2 ^ 32) (small_n : n < 2 ^ 32) (short : length code ≤ 2 ^ 26) where
  abbrev first : List Op
  first = load_number w.layout t0 (h - 3)

  abbrev second : List Op
  second = load_number w.layout t1 (h - 1)

  abbrev fill_test : List Op
  fill_test = Branch Bgeu s2 t2 (forward 16) ∷ trap 4

  abbrev behind : List Op
  behind = bound t0 t1 t2 ++ (fill_places w.layout h ++ fill_loop)

  has_front : HasAt code i (first ++ second)
  has_front = has_first code i (first ++ second) behind has

  has_behind : HasAt code (i + 10) behind
  has_behind = has_rest code i (first ++ second) behind has

  has_places_loop : HasAt code (i + 15) (fill_places w.layout h ++ fill_loop)
  has_places_loop = let there : i + 10 + 5 ≡ i + 15 = omega arith in subst (λ (j : ℕ). HasAt code j (fill_places w.layout h ++ fill_loop)) there (has_rest code (i + 10) (bound t0 t1 t2) (fill_places w.layout h ++ fill_loop) has_behind)

  has_loop : HasAt code (i + 20) fill_loop
  has_loop = let there : i + 15 + 5 ≡ i + 20 = omega arith in subst (λ (j : ℕ). HasAt code j fill_loop) there (has_rest code (i + 15) (fill_places w.layout h) fill_loop has_places_loop)

  near : i + 20 < 2 ^ 26
  near = let within = slice_get_within code (i + 20) _ has_loop.0 in omega arith

  near_d : base + operand w.layout (h - 3) < max_slots
  near_d = omega arith

  near_v : base + operand w.layout (h - 2) < max_slots
  near_v = omega arith

  -- the address and the number of bytes, and their sum
  loaded : Three code 11 11 s d n (d + n)
  loaded =
      let nothing = begin code s in
      let one = number_into code s i base 4 (operand w.layout (h - 3)) d (has_first code i first second has_front) at frame (λ e. absurd cc) near_d d_is small_d in
      let a = sets_t0 nothing one in
      let pc_a = a.does.pc_is in
      let there = ap (λ (b : Bytes). slot_at b (base + operand w.layout (h - 1))) a.does.bytes_are ∙ n_is in
      let two = number_into code a.does.end (i + 5) base 5 (operand w.layout (h - 1)) n (has_rest code i first second has_front) (omega arith) (frame_stays frame a.does) (λ e. absurd cc) inside there small_n in
      let b = sets_t1 a two in
      let pc_b = b.does.pc_is in
      let d_there = b.t0_is in
      let n_there = b.t1_is in
      let sum : plus (reg b.does.end.registers t0) (reg b.does.end.registers t1) ≡ d + n = omega arith in
      sets_t2 b (sum_into code b.does.end (i + 10) 6 t0 t1 (d + n) (has_behind.0, tt) (omega arith) sum)

  size_is : reg loaded.does.end.registers s2 ≡ page * pages
  size_is = loaded.does.others s2 refl ∙ regions.size

  outside : page * pages < d + n → TrapsAt code 15 15 4 s
  outside large =
      let pc = loaded.does.pc_is in
      let tested = has_first code (suc (i + 10)) (fill_test) (fill_places w.layout h ++ fill_loop) has_behind.1 in
      traps_after loaded.does (test_traps code loaded.does.end (suc (i + 10)) s2 t2 (d + n) (page * pages) (omega arith) (omega (arith, near)) tested size_is loaded.t2_is large)

  -- the first address and the last one
  placed : d + n ≤ page * pages → page * pages ≤ 2 ^ 28 → Three code 14 17 s (address d) n (address (d + n))
  placed fits small =
      let pc = loaded.does.pc_is in
      let tested = has_first code (suc (i + 10)) (fill_test) (fill_places w.layout h ++ fill_loop) has_behind.1 in
      let a = goes loaded 4 (test_turns code loaded.does.end (suc (i + 10)) s2 t2 (d + n) (page * pages) (omega arith) (omega (arith, near)) tested size_is loaded.t2_is fits) in
      let has_places = has_first code (i + 15) (fill_places w.layout h) fill_loop has_places_loop in
      let d_there = a.t0_is in
      let base_a = a.does.others s1 refl ∙ regions.memory in
      let from : plus (reg a.does.end.registers t0) (reg a.does.end.registers s1) ≡ address d = omega arith in
      let b = sets_t0 a (sum_into code a.does.end (i + 15) 4 t0 s1 (address d) (has_places.0, tt) (omega arith) from) in
      let pc_b = b.does.pc_is in
      let end_there = b.t2_is in
      let base_b = b.does.others s1 refl ∙ regions.memory in
      let to : plus (reg b.does.end.registers t2) (reg b.does.end.registers s1) ≡ address (d + n) = omega arith in
      sets_t2 b (sum_into code b.does.end (suc (i + 15)) 6 t2 s1 (address (d + n)) (has_places.1.0, tt) (omega arith) to)

  -- and the byte
  ready : (c : Three code 14 17 s (address d) n (address (d + n))) → Three code 17 20 s (address d) (word I32 v) (address (d + n))
  ready c =
      let has_places = has_first code (i + 15) (fill_places w.layout h) fill_loop has_places_loop in
      let pc_c : c.does.end.pc ≡ place (suc (suc (i + 15))) = byte_place code s i 14 c.does at in
      let there = ap (λ (x : Bytes). slot_at x (base + operand w.layout (h - 2))) c.does.bytes_are ∙ v_is in
      sets_t1 c (leaves_as (word I32 v) there (load_slot_leaves code c.does.end (suc (suc (i + 15))) base t1 (operand w.layout (h - 2)) has_places.1.1 pc_c (frame_stays frame c.does) (λ e. absurd cc) (λ e. absurd cc) near_v))

  abbrev bytes : List ℕ
  bytes = replicate n (v % 256)

  writes : d + n ≤ page * pages → Writes code (18 + 4 * n) 24 s (over_part d (page * pages) (replicate n (v % 256)) s.bytes.memory)
  writes fits =
      let small = frame.windows Memory in
      let whole = regions.whole in
      let count = length-replicate n (v % 256) in
      let r = ready (placed fits (omega arith)) in
      let pc = r.does.pc_is in
      let same = r.does.bytes_are in
      let loop = fill_does code (i + 20) has_loop near n r.does.end d (word I32 v) (omega arith) r.t0_is r.t2_is r.t1_is (omega (arith, ap (λ (b : Bytes). length b.memory) same)) (frame_stays frame r.does).windows in
      let low : word I32 v % 256 ≡ v % 256 = omega (arith, low_word v small_v) in
      let bytes_are = ap (filled n d (word I32 v)) same ∙ filled_is n d (word I32 v) s.bytes (omega arith) ∙ ap (λ (x : ℕ). with_bytes s.bytes (put n d s.bytes.memory (replicate n x))) low
      ∙ part_is_put s.bytes n d (page * pages) (replicate n (v % 256)) count (omega arith) whole in
      record { steps = 17 + (4 * n + 1); some = omega arith; within = omega arith; does = does_then r.does (does_with bytes_are loop) }

  fills : Filled code n s (filled_at (memory_now pages s.bytes) d v n)
  fills =
      let size : length (memory_now pages s.bytes) ≡ page * pages = length-take-le (page * pages) s.bytes.memory regions.whole in
      let count = length-replicate n (v % 256) in
      let same : nat_le (d + n) (page * pages) ≡ nat_le (d + length (replicate n (v % 256))) (length (memory_now pages s.bytes)) = ap₂ (λ (m k : ℕ). nat_le (d + m) k) (sym count) (sym size) in
      subst (λ (t : Bool). Filled code n s (if t then Some (over_part d (page * pages) (replicate n (v % 256)) s.bytes.memory) else None)) same by_case
    where
      by_case : Filled code n s (if nat_le (d + n) (page * pages) then Some (over_part d (page * pages) (replicate n (v % 256)) s.bytes.memory) else None)
      by_case =
          elim (cases_lt (page * pages) (d + n)) [
            | inl large ↦ subst (λ (t : Bool). Filled code n s (if t then Some (over_part d (page * pages) (replicate n (v % 256)) s.bytes.memory) else None)) (sym (lt-leb (d + n) (page * pages) large)) (outside large)
            | inr fits ↦ subst (λ (t : Bool). Filled code n s (if t then Some (over_part d (page * pages) (replicate n (v % 256)) s.bytes.memory) else None)) (sym (le-leb (d + n) (page * pages) fits)) (writes fits)
          ]

pub fill_law_does : FillLaw
fill_law_does w code s i base h d v n pages has at frame regions high inside d_is v_is n_is small_d small_v small_n short =
    fills w code s i base h d v n pages has at frame regions high inside d_is v_is n_is small_d small_v small_n short
