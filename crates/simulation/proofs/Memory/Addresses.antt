-- The address of bytes in the memory: what its instruction words compute, and the test against the
-- memory's size.
use Rattle.std.proofs.Common.{◌≡◌, ℕ, suc, ◌+◌, ◌*◌, ◌^◌, ◌<◌, ◌≤◌, nat_le, List, [], ◌∷◌, ◌++◌, Option, inl, inr, refl, sym, ap, subst, ◌∙◌, arith}
use Rattle.std.specs.Prelude.{not}
use Rattle.std.proofs.lemmas.Bool.{cases_lt, lt-ltb, le-ltb, le-leb, lt-leb}
use Rattle.std.proofs.lemmas.Option.{slice_get_within}
use Rattle.rv_isa.specs.declared.operations.BranchOp.TheVariants.{Bgeu}
use Rattle.rv_isa.specs.declared.operations.ImmOp.TheVariants.{Addi}
use Rattle.rv_isa.specs.declared.operations.RegOp.TheVariants.{Add, Sll, Srl}
use Rattle.rv_isa.specs.declared.operations.Op.{Op}
use Rattle.rv_isa.specs.declared.operations.Op.TheVariants.{Branch, Imm, Reg}
use Rattle.rv_isa.specs.declared.stepping.Region.TheVariants.{Memory}
use Rattle.rv_isa.specs.Values.{i_value, plus, computed, is_taken}
use Rattle.rv_isa.specs.Steps.{reg, State, region_base}
use Rattle.rv_isa.specs.Runs.{place, HasAt, Leaves, load_behind}
use Rattle.wasm_defs.specs.declared.types.ValType.TheVariants.{I32}
use Rattle.wasm_defs.specs.Values.{word}
use Rattle.wasm_defs.specs.Memory.{page}
use Rattle.wasm_defs.specs.Configurations.{max_slots}
use Rattle.frame_layout.specs.Slots.{operand}
use Rattle.frame_layout.specs.Macros.{t0, t1, s0, s1, s2, forward, const_32, trap, zero_extend}
use Rattle.frame_layout.specs.Templates.{load_operand}
use Rattle.frame_layout.specs.Laws.{slot_at, IsFrame, Does, TrapsAt}
use Rattle.frame_layout.proofs.Standing.{has_first, has_rest}
use Rattle.frame_layout.proofs.Constants.{block_leaves, const_32_leaves}
use Rattle.frame_layout.proofs.SlotLaws.{load_slot_leaves}
use Rattle.frame_layout.proofs.Steps.{does_leave, does_then, does_with, leaves_then}
use Rattle.frame_layout.proofs.Jumps.{trap_traps, traps_after}
use Rattle.simulation.proofs.Memory.Tests.{passes, turns, does_moved}
use Rattle.simulation.specs.Regions.{HasRegions}
use Rattle.simulation.specs.MemoryLaws.{Finds, Addresses, AddressLaw}

-- the lower half of the word of an i32, by two shifts
pub cleared : (a : ℕ) → a < 2 ^ 32 → computed Srl (computed Sll (word I32 a) 32) 32 ≡ a
unfolding computed
cleared a small =
    elim (cases_lt a (2 ^ 31)) [
      | inl h ↦ rw (lt-ltb a (2 ^ 31) h) (omega arith)
      | inr h ↦ rw (le-ltb a (2 ^ 31) h) (omega arith)
    ]

-- an operand's number comes into t0
pub number_leaves : (code : List (Option Op)) (s : State) (i base k a : ℕ) (rest : List Op) → HasAt code i (load_behind t0 s0 (8 * k) ++ (zero_extend t0 ++ rest)) → s.pc ≡ place i → IsFrame base s → base + k < max_slots → slot_at s.bytes (base + k) ≡ word I32 a → a < 2 ^ 32 → Leaves code 5 s s.bytes t0 a
number_leaves code s i base k a rest has at frame inside is small =
    let front = load_behind t0 s0 (8 * k) in
    let one = load_slot_leaves code s i base t0 k (has_first code i front (zero_extend t0 ++ rest) has) at frame (λ e. absurd cc) (λ e. absurd cc) inside in
    let pc_one = one.pc_is in
    let has_two = has_first code (i + 3) (zero_extend t0) rest (has_rest code i front (zero_extend t0 ++ rest) has) in
    let value : computed Srl (computed Sll (reg one.end.registers t0) 32) 32 ≡ a = ap (λ (x : ℕ). computed Srl (computed Sll x 32) 32) (one.value_is ∙ is) ∙ cleared a small in
    leaves_then one (block_leaves code (zero_extend t0) (i + 3) one.end t0 a refl has_two (omega arith) value)

-- two registers have values
pub record Pair (code : List (Option Op)) (steps : ℕ) (s : State) (x y : ℕ) : Type 0 where
  pub does : Does code steps steps s s.bytes
  pub first : reg does.end.registers t0 ≡ x
  pub second : reg does.end.registers t1 ≡ y

-- a number in t0, and a constant in t1
pub pair_made : (code : List (Option Op)) (s : State) (i n a v : ℕ) → (one : Leaves code n s s.bytes t0 a) → HasAt code (i + n) (const_32 t1 v) → s.pc ≡ place i → v < 2 ^ 32 → Pair code (n + 5) s a v
pair_made code s i n a v one has at small =
    let pc_one = one.pc_is in
    let two = const_32_leaves code one.end (i + n) t1 v has (omega arith) (λ e. absurd cc) small in
    record {
      does = does_then (does_leave refl one) (does_with one.bytes_are (does_leave refl two));
      first = two.others t0 (λ e. absurd cc) ∙ one.value_is;
      second = two.value_is;
    }

-- their sum, and the one with the number of bytes
abbrev pub sums : (count : ℕ) → List Op
sums count = Reg Add t0 t0 t1 ∷ Imm Addi t1 t0 count ∷ []

ends_made : (code : List (Option Op)) (s : State) (i a offset count : ℕ) → (given : Pair code 10 s a offset) → HasAt code (i + 10) (sums count) → s.pc ≡ place i → a < 2 ^ 32 → offset < 2 ^ 32 → count < 2 ^ 11 → Pair code 12 s (a + offset) (a + offset + count)
unfolding computed
ends_made code s i a offset count given has at small small' few =
    let does = given.does in
    let pc_is = does.pc_is in
    let x_is = given.first in
    let y_is = given.second in
    let sum : plus (reg does.end.registers t0) (reg does.end.registers t1) ≡ a + offset = omega arith in
    let one = block_leaves code (Reg Add t0 t0 t1 ∷ []) (i + 10) does.end t0 (a + offset) refl (has.0, tt) (omega arith) sum in
    let pc_one = one.pc_is in
    let one_is = one.value_is in
    let low : i_value count ≡ count = rw (lt-ltb count 2048 (omega arith)) refl in
    let end : plus (reg one.end.registers t0) (i_value count) ≡ a + offset + count = omega arith in
    let two = block_leaves code (Imm Addi t1 t0 count ∷ []) (suc (i + 10)) one.end t1 (a + offset + count) refl (has.1.0, tt) (omega arith) end in
    record {
      does = does_then does (does_with does.bytes_are (does_then (does_leave refl one) (does_with one.bytes_are (does_leave refl two))));
      first = two.others t0 (λ e. absurd cc) ∙ one.value_is;
      second = two.value_is;
    }

-- ---- the test

module _ (code : List (Option Op)) (s : State) (i place_of count pages : ℕ) (given : Pair code 12 s place_of (place_of + count)) (at : s.pc ≡ place i) (near : i < 2 ^ 26) (regions : HasRegions pages s) where
  abbrev test : List Op
  test = Branch Bgeu s2 t1 (forward 16) ∷ []

  abbrev last : List Op
  last = Reg Add t0 t0 s1 ∷ []

  module _ (has : HasAt code (i + 12) (test ++ (trap 4 ++ last))) where
    has_test : HasAt code (i + 12) test
    has_test = has_first code (i + 12) test (trap 4 ++ last) has

    size_is : reg given.does.end.registers s2 ≡ page * pages
    size_is = given.does.others s2 refl ∙ regions.size

    finds : place_of + count ≤ page * pages → page * pages ≤ 2 ^ 28 → Finds code place_of s
    unfolding is_taken computed
    finds inside small =
        let does = given.does in
        let pc_is = does.pc_is in
        let end_is = given.second in
        let size = size_is in
        let less : reg does.end.registers t1 ≤ reg does.end.registers s2 = omega arith in
        let taken = turns code does.end (i + 12) (omega arith) Bgeu s2 t1 (forward 16) has_test 4 (ap not (le-ltb (reg does.end.registers s2) (reg does.end.registers t1) less)) (omega arith) in
        let tested = does_then does (does_with does.bytes_are (does_moved 4 taken)) in
        let pc_tested = tested.pc_is in
        let first_is : reg tested.end.registers t0 ≡ place_of = given.first in
        let base_is = tested.others s1 refl ∙ regions.memory in
        let sum : plus (reg tested.end.registers t0) (reg tested.end.registers s1) ≡ region_base Memory + place_of = omega arith in
        let has_last = has_rest code (i + 12) (test ++ trap 4) last has in
        let added = block_leaves code last (i + 12 + 4) tested.end t0 (region_base Memory + place_of) refl has_last (omega arith) sum in
        record {
          does = does_then tested (does_with tested.bytes_are (does_leave refl added));
          place_is = added.value_is;
        }

    outside : page * pages < place_of + count → TrapsAt code 16 16 4 s
    unfolding is_taken
    outside large =
        let does = given.does in
        let pc_is = does.pc_is in
        let end_is = given.second in
        let size = size_is in
        let more : reg does.end.registers s2 < reg does.end.registers t1 = omega arith in
        let passed = passes code does.end (i + 12) (omega arith) Bgeu s2 t1 (forward 16) has_test (ap not (lt-ltb (reg does.end.registers s2) (reg does.end.registers t1) more)) in
        let tested = does_then does (does_with does.bytes_are (does_moved 1 passed)) in
        let pc_tested = tested.pc_is in
        let has_trap = has_first code (suc (i + 12)) (trap 4) last has.1 in
        traps_after tested (trap_traps code tested.end (suc (i + 12)) 4 has_trap (omega arith) (omega arith))

    addresses : page * pages ≤ 2 ^ 28 → Addresses code place_of s (nat_le (place_of + count) (page * pages))
    addresses small =
        elim (cases_lt (page * pages) (place_of + count)) [
          | inl large ↦ subst (Addresses code place_of s) (sym (lt-leb (place_of + count) (page * pages) large)) (outside large)
          | inr inside ↦ subst (Addresses code place_of s) (sym (le-leb (place_of + count) (page * pages) inside)) (finds inside small)
        ]

pub address_does : AddressLaw
address_does w code s i base j offset count a pages has at frame regions inside is small small' few short =
    let tests = Branch Bgeu s2 t1 (forward 16) ∷ (trap 4 ++ Reg Add t0 t0 s1 ∷ []) in
    let front = load_operand w t0 j ++ zero_extend t0 in
    let fit = frame.windows Memory in
    let whole = regions.whole in
    let one = number_leaves code s i base (operand w.layout j) a (const_32 t1 offset ++ (sums count ++ tests)) has at frame inside is small in
    let has_two = has_rest code i front (const_32 t1 offset ++ (sums count ++ tests)) has in
    let two = pair_made code s i 5 a offset one (has_first code (i + 5) (const_32 t1 offset) (sums count ++ tests) has_two) at small' in
    let has_three' = has_rest code i (front ++ const_32 t1 offset) (sums count ++ tests) has in
    let three = ends_made code s i a offset count two (has_first code (i + 10) (sums count) tests has_three') at small small' few in
    let has_four = has_rest code i (front ++ (const_32 t1 offset ++ sums count)) tests has in
    let near = slice_get_within code (i + 12) _ has_four.0 in
    addresses code s i (a + offset) count pages three at (omega arith) regions has_four (omega arith)
