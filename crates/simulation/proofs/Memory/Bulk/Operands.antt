-- The three operands, and a bound.
use Rattle.std.proofs.Common.{◌≡◌, ℕ, suc, ◌+◌, ◌-◌, ◌^◌, ◌<◌, ◌≤◌, true, List, ◌++◌, length, Option, refl, ap, subst, ◌∙◌, arith}
use Rattle.std.specs.Prelude.{◌≢◌}
use Rattle.rv_isa.specs.declared.operations.Op.{Op}
use Rattle.rv_isa.specs.Values.{plus}
use Rattle.rv_isa.specs.Steps.{reg, Bytes, State}
use Rattle.rv_isa.specs.Runs.{place, HasAt, Leaves}
use Rattle.wasm_defs.specs.declared.types.ValType.TheVariants.{I32}
use Rattle.wasm_defs.specs.Values.{word}
use Rattle.wasm_defs.specs.Configurations.{max_slots}
use Rattle.frame_layout.specs.Slots.{operand}
use Rattle.frame_layout.specs.Macros.{t0, t1, t2, s2}
use Rattle.frame_layout.specs.Templates.{EmitContext}
use Rattle.frame_layout.specs.Laws.{slot_at, IsFrame, is_scratch, Does, TrapsAt}
use Rattle.frame_layout.proofs.Standing.{has_first, has_rest}
use Rattle.frame_layout.proofs.Steps.{frame_stays}
use Rattle.frame_layout.proofs.Jumps.{traps_after}
use Rattle.frame_layout.specs.BulkWords.{bound, load_number, load_three}
use Rattle.simulation.proofs.Memory.Bulk.Three.{Three, begin, number_into, sum_into, sets_t0, sets_t1, sets_t2, sets_other, goes, test_turns, test_traps}

pub place_behind : {code : List (Option Op)} {s : State} {k a : ℕ} (i j : ℕ) → s.pc ≡ place i → i + a ≡ j → (d : Does code k a s s.bytes) → d.end.pc ≡ place j
place_behind {code} {s} {k} {a} i j at there d = omega (arith, d.pc_is)

pub has_from : (code : List (Option Op)) (i j : ℕ) (xs ys : List Op) → i + length xs ≡ j → HasAt code i (xs ++ ys) → HasAt code j ys
has_from code i j xs ys there has = subst (λ (k : ℕ). HasAt code k ys) there (has_rest code i xs ys has)

-- ---- the three operands

module _ (w : EmitContext) (code : List (Option Op)) (s : State) (i base h d from n : ℕ) (has : HasAt code i (load_three w.layout h)) (at : s.pc ≡ place i) (frame : IsFrame base s) (high : 3 ≤ h) (inside : base + operand w.layout (h - 1) < max_slots)
    (d_is : slot_at s.bytes (base + operand w.layout (h - 3)) ≡ word I32 d) (from_is : slot_at s.bytes (base + operand w.layout (h - 2)) ≡ word I32 from) (n_is : slot_at s.bytes (base + operand w.layout (h - 1)) ≡ word I32 n)
    (small_d : d < 2 ^ 32) (small_from : from < 2 ^ 32) (small_n : n < 2 ^ 32) where
  near_d : base + operand w.layout (h - 3) < max_slots
  near_d = omega arith

  near_from : base + operand w.layout (h - 2) < max_slots
  near_from = omega arith

  abbrev first : List Op
  first = load_number w.layout t0 (h - 3)

  abbrev second : List Op
  second = load_number w.layout t1 (h - 2)

  abbrev third : List Op
  third = load_number w.layout t2 (h - 1)

  pub three_load : Three code 15 15 s d from n
  three_load =
      let one = number_into code s i base 4 (operand w.layout (h - 3)) d (has_first code i first (second ++ third) has) at frame (λ e. absurd cc) near_d d_is small_d in
      let a = sets_t0 (begin code s) one in
      let from_there = ap (λ (b : Bytes). slot_at b (base + operand w.layout (h - 2))) a.does.bytes_are ∙ from_is in
      let has_two = has_from code i (i + 5) first (second ++ third) refl has in
      let two = number_into code a.does.end (i + 5) base 5 (operand w.layout (h - 2)) from (has_first code (i + 5) second third has_two) (place_behind i (i + 5) at refl a.does) (frame_stays frame a.does) (λ e. absurd cc) near_from from_there small_from in
      let b = sets_t1 a two in
      let n_there = ap (λ (b : Bytes). slot_at b (base + operand w.layout (h - 1))) b.does.bytes_are ∙ n_is in
      let has_three = has_from code i (i + 10) (first ++ second) third refl has in
      let three = number_into code b.does.end (i + 10) base 6 (operand w.layout (h - 1)) n has_three (place_behind i (i + 10) at refl b.does) (frame_stays frame b.does) (λ e. absurd cc) inside n_there small_n in
      sets_t2 b three

-- ---- a bound: the sum of a register and t2 comes into r

module _ {code : List (Option Op)} {k a : ℕ} {s : State} {x y z : ℕ} (given : Three code k a s x y z) (i size q r v : ℕ) (free : is_scratch (suc r) ≡ true) (from_t0 : t0 ≢ suc r) (from_t1 : t1 ≢ suc r) (from_t2 : t2 ≢ suc r)
    (at : given.does.end.pc ≡ place i) (near : i + 1 < 2 ^ 26) (size_is : reg s.registers s2 ≡ size) (has : HasAt code i (bound q t2 (suc r))) (q_is : reg given.does.end.registers q ≡ v) (small : v < 2 ^ 32) (small_z : z < 2 ^ 32) where
  abbrev sum_in : Leaves code 1 given.does.end given.does.end.bytes (suc r) (v + z)
  sum_in =
      let z_is = given.t2_is in
      let sum : plus (reg given.does.end.registers q) (reg given.does.end.registers t2) ≡ v + z = omega arith in
      sum_into code given.does.end i r q t2 (v + z) (has.0, tt) at sum

  abbrev summed : Three code (k + 1) (a + 1) s x y z
  summed = sets_other given (suc r) free from_t0 from_t1 from_t2 sum_in

  pub fits_in : v + z ≤ size → Three code (k + 1 + 1) (a + 1 + 4) s x y z
  fits_in fits =
      let pc = sum_in.pc_is in
      goes summed 4 (test_turns code summed.does.end (suc i) s2 (suc r) (v + z) size (omega arith) (omega arith) has.1 (summed.does.others s2 refl ∙ size_is) sum_in.value_is fits)

  pub lies_outside : size < v + z → TrapsAt code (k + 1 + 4) (a + 1 + 4) 4 s
  lies_outside outside =
      let pc = sum_in.pc_is in
      traps_after summed.does (test_traps code summed.does.end (suc i) s2 (suc r) (v + z) size (omega arith) (omega arith) has.1 (summed.does.others s2 refl ∙ size_is) sum_in.value_is outside)
