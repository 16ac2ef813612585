-- The beginning of a function: the test for room, the return address, and the declared locals.
use Rattle.std.proofs.Common.{◌≡◌, ℕ, zero, suc, ◌+◌, ◌*◌, ◌^◌, ◌<◌, ◌≤◌, List, [], ◌∷◌, ◌++◌, length, Option, refl, ap, ap₂, subst, ◌∙◌, arith}
use Rattle.std.specs.Prelude.{not, ◌≢◌}
use Rattle.std.proofs.lemmas.Bool.{lt-ltb, le-ltb, eq-eqb}
use Rattle.std.proofs.lemmas.Option.{slice_get_within}
use Rattle.rv_isa.specs.declared.operations.BranchOp.TheVariants.{Bgeu}
use Rattle.rv_isa.specs.declared.operations.RegOp.TheVariants.{Add}
use Rattle.rv_isa.specs.declared.operations.Op.{Op}
use Rattle.rv_isa.specs.declared.operations.Op.TheVariants.{Branch, Reg}
use Rattle.rv_isa.specs.Values.{plus, computed, is_taken}
use Rattle.rv_isa.specs.Steps.{reg, Bytes, State}
use Rattle.rv_isa.specs.Runs.{place, HasAt, Leaves}
use Rattle.wasm_defs.specs.Configurations.{max_slots}
use Rattle.frame_layout.specs.declared.layout.Layout.{Layout}
use Rattle.frame_layout.specs.Slots.{link, need}
use Rattle.frame_layout.specs.Macros.{ra, t0, t1, s0, s5, forward, const_32, store_slot, trap}
use Rattle.frame_layout.specs.Templates.{room_words, zero_locals, prologue}
use Rattle.frame_layout.specs.Laws.{with_slot, IsFrame, Does, TrapsAt, Enters, PrologueLaw, ExhaustionLaw}
use Rattle.frame_layout.proofs.Standing.{has_first, has_rest}
use Rattle.frame_layout.proofs.Constants.{block_leaves, const_33_leaves}
use Rattle.frame_layout.proofs.SlotLaws.{store_slot_leaves, slot_written, slot_other, size_stays}
use Rattle.frame_layout.proofs.Steps.{does_leave, does_then, does_with, does_count, does_nothing, leaves_then, frame_stays, frame_written}
use Rattle.frame_layout.proofs.Jumps.{passed_does, taken_does, trap_traps, traps_after}
use Rattle.frame_layout.proofs.Zeroing.{zeroed, zeroed_size, zeroed_below, zeroed_above, zeroed_zero, zeroed_globals, zeroed_table, zeroed_memory, zeroed_passive, loop_words, loop_does, address}

-- ---- the address of a slot, into a register

abbrev pub address_words : (r k : ℕ) → List Op
address_words r k = const_32 r (8 * k) ++ (Reg Add r r s0 ∷ [])

pub sum_leaves : (code : List (Option Op)) (s : State) (i base r k : ℕ) → (one : Leaves code 5 s s.bytes (suc r) (8 * k)) → HasAt code (i + 5) (Reg Add (suc r) (suc r) s0 ∷ []) → s.pc ≡ place i → IsFrame base s → s0 ≢ suc r → k < 2 ^ 30 → base ≤ max_slots → Leaves code 6 s s.bytes (suc r) (address (base + k))
unfolding computed
sum_leaves code s i base r k one has at frame differs small inside =
    let pc_one = one.pc_is in
    let number = one.value_is in
    let first = one.others s0 differs ∙ frame.first in
    let sum : plus (reg one.end.registers (suc r)) (reg one.end.registers s0) ≡ address (base + k) = omega arith in
    let same = eq-eqb (suc r) (suc r) refl in
    leaves_then one (block_leaves code (Reg Add (suc r) (suc r) s0 ∷ []) (i + 5) one.end (suc r) (address (base + k)) (rw same refl) has (omega arith) (rw same sum))

address_leaves : (code : List (Option Op)) (s : State) (i base r k : ℕ) → HasAt code i (address_words (suc r) k) → s.pc ≡ place i → IsFrame base s → s0 ≢ suc r → k < 2 ^ 30 → base ≤ max_slots → Leaves code 6 s s.bytes (suc r) (address (base + k))
address_leaves code s i base r k has at frame differs small inside =
    let front = const_32 (suc r) (8 * k) in
    let back = Reg Add (suc r) (suc r) s0 ∷ [] in
    let one = const_33_leaves code s i (suc r) (8 * k) (has_first code i front back has) at (λ e. absurd cc) (omega arith) in
    sum_leaves code s i base r k one (has_rest code i front back has) at frame differs small inside

-- ---- room for so many slots

-- after the test, and past the trap
module _ (code : List (Option Op)) (s : State) (i base slots : ℕ) (has : HasAt code i (room_words slots)) (at : s.pc ≡ place i) (frame : IsFrame base s) (small : slots < 2 ^ 30) (inside : base ≤ max_slots) where
  abbrev test : List Op
  test = Branch Bgeu s5 t0 (forward 16) ∷ []

  end_made : Leaves code 6 s s.bytes t0 (address (base + slots))
  end_made = address_leaves code s i base 4 slots (has_first code i (address_words t0 slots) (test ++ trap 8) has) at frame (λ e. absurd cc) small inside

  has_test : HasAt code (i + 6) test
  has_test = has_first code (i + 6) test (trap 8) (has_rest code i (address_words t0 slots) (test ++ trap 8) has)

  pub room_is : base + slots ≤ max_slots → i < 2 ^ 26 → Does code 7 10 s s.bytes
  unfolding is_taken
  room_is fits near =
      let one = end_made in
      let pc_one = one.pc_is in
      let end = one.value_is in
      let last = one.others s5 (λ e. absurd cc) ∙ frame.end in
      let less : reg one.end.registers t0 ≤ reg one.end.registers s5 = omega arith in
      let taken = taken_does code one.end (i + 6) (omega arith) Bgeu s5 t0 (forward 16) 4 has_test (ap not (le-ltb (reg one.end.registers s5) (reg one.end.registers t0) less)) (omega arith) in
      does_then (does_leave refl one) (does_with one.bytes_are taken)

  room_is_none : max_slots < base + slots → Does code 7 7 s s.bytes
  unfolding is_taken
  room_is_none full =
      let one = end_made in
      let pc_one = one.pc_is in
      let end = one.value_is in
      let last = one.others s5 (λ e. absurd cc) ∙ frame.end in
      let more : reg one.end.registers s5 < reg one.end.registers t0 = omega arith in
      let passed = passed_does code one.end (i + 6) (omega arith) Bgeu s5 t0 (forward 16) has_test (ap not (lt-ltb (reg one.end.registers s5) (reg one.end.registers t0) more)) in
      does_then (does_leave refl one) (does_with one.bytes_are passed)

  pub none_traps : max_slots < base + slots → TrapsAt code 10 10 8 s
  none_traps full =
      let does = room_is_none full in
      let pc_is = does.pc_is in
      let has_trap = has_rest code i (address_words t0 slots ++ test) (trap 8) has in
      traps_after does (trap_traps code does.end (i + 7) 8 has_trap (omega arith) (omega arith))

pub exhaustion_does : ExhaustionLaw
exhaustion_does code s i base l has at frame inside small full =
    none_traps code s i base (need l) (has_first code i (room_words (need l)) (store_slot ra (link l) ++ zero_locals l l.locals) has) at frame small inside full

-- ---- declared locals

-- with how many steps they become zero
abbrev pub zero_steps : (locals : ℕ) → ℕ
zero_steps zero = 0
zero_steps (suc n) = 15 + 3 * n

pub zero_steps_within : (n : ℕ) → zero_steps n ≤ 12 + 3 * n
zero_steps_within zero = omega arith
zero_steps_within (suc n) = omega arith

-- from the first slot's address in t0 on
locals_from : (code : List (Option Op)) (s : State) (i base first n : ℕ) → (one : Leaves code 6 s s.bytes t0 (address (base + first))) → HasAt code (i + 6) (address_words t1 (first + suc n)) → HasAt code (i + 12) loop_words → s.pc ≡ place i → IsFrame base s → base + first + suc n ≤ max_slots → i + 12 < 2 ^ 26 → Does code (15 + 3 * n) 15 s (zeroed (suc n) (base + first) s.bytes)
locals_from code s i base first n one has has_loop at frame fits near =
    let made = does_leave refl one in
    let frame' = frame_stays frame made in
    let pc_one = one.pc_is in
    let two = address_leaves code one.end (i + 6) base 5 (first + suc n) has (omega arith) frame' (λ e. absurd cc) (omega arith) (omega arith) in
    let pc_two = two.pc_is in
    let both = does_then made (does_with one.bytes_are (does_leave refl two)) in
    let from = two.others t0 (λ e. absurd cc) ∙ one.value_is in
    let to = two.value_is in
    let whole = frame_stays frame both in
    let cleared = loop_does code (i + 12) has_loop near n two.end (base + first) (omega arith) from (omega arith) (omega arith) whole.size whole.windows in
    does_count (15 + 3 * n) 15 (omega arith) refl (does_then both (does_with (ap (zeroed (suc n) (base + first)) both.bytes_are) cleared))

locals_cleared : (code : List (Option Op)) (s : State) (i base n : ℕ) (l : Layout) → l.locals ≡ n → HasAt code i (zero_locals l n) → s.pc ≡ place i → IsFrame base s → base + link l ≤ max_slots → length code ≤ 2 ^ 26 → Does code (zero_steps n) (length (zero_locals l n)) s (zeroed n (base + l.params) s.bytes)
locals_cleared code s i base zero l is has at frame fits short = does_nothing code s
locals_cleared code s i base (suc n) l is has at frame fits short =
    let from = address_words t0 l.params in
    let to = address_words t1 (link l) in
    let has_to = has_first code (i + 6) to loop_words (has_rest code i from (to ++ loop_words) has) in
    let has_loop = has_rest code i (from ++ to) loop_words has in
    let near = slice_get_within code (i + 12) _ has_loop.0 in
    let one = address_leaves code s i base 4 l.params (has_first code i from (to ++ loop_words) has) at frame (λ e. absurd cc) (omega arith) (omega arith) in
    let slots : link l ≡ l.params + suc n = omega arith in
    locals_from code s i base l.params n one (subst (λ (k : ℕ). HasAt code (i + 6) (address_words t1 k)) slots has_to) has_loop at frame (omega arith) (omega arith)

-- ---- the return address

linked : (code : List (Option Op)) (s : State) (i base k : ℕ) → (room : Does code 7 10 s s.bytes) → HasAt code (i + 10) (store_slot ra k) → s.pc ≡ place i → IsFrame base s → base + k < max_slots → Does code 10 13 s (with_slot s.bytes (base + k) (reg s.registers ra))
linked code s i base k room has at frame inside =
    let pc_is = room.pc_is in
    let put = store_slot_leaves code room.end (i + 10) base ra k has (omega arith) (frame_stays frame room) (λ e. absurd cc) inside in
    let same : with_slot room.end.bytes (base + k) (reg room.end.registers ra) ≡ with_slot s.bytes (base + k) (reg s.registers ra) = ap₂ (λ (b : Bytes) (x : ℕ). with_slot b (base + k) x) room.bytes_are (room.others ra refl) in
    does_then room (does_with same (does_leave refl put))

-- ---- all of it

entered : (code : List (Option Op)) (s : State) (i base : ℕ) (l : Layout) → (first : Does code 10 13 s (with_slot s.bytes (base + link l) (reg s.registers ra))) → HasAt code (i + 13) (zero_locals l l.locals) → s.pc ≡ place i → IsFrame base s → reg s.registers ra < 2 ^ 64 → base + need l ≤ max_slots → length code ≤ 2 ^ 26 → Enters code l base s
entered code s i base l first has at frame small fits short =
    let put = with_slot s.bytes (base + link l) (reg s.registers ra) in
    let size = frame.size in
    let inside : base + link l < max_slots = omega arith in
    let pc_is = first.pc_is in
    let frame' = frame_written (base + link l) (reg s.registers ra) inside frame first in
    let rest = locals_cleared code first.end (i + 13) base l.locals l refl has (omega arith) frame' (omega arith) short in
    let all = does_then first (does_with (ap (zeroed l.locals (base + l.params)) first.bytes_are) rest) in
    let whole = size_stays s.bytes (base + link l) (reg s.registers ra) size inside in
    let room : base + l.params + l.locals ≤ max_slots = omega arith in
    record {
      steps = 10 + zero_steps l.locals;
      bytes = zeroed l.locals (base + l.params) put;
      within = omega (arith, zero_steps_within l.locals);
      does = does_count (10 + zero_steps l.locals) (length (prologue l)) refl (omega arith) all;
      link_is =
          zeroed_above l.locals (base + l.params) put (base + link l) (whole ∙ size) room (omega arith)
          ∙ slot_written s.bytes (base + link l) (reg s.registers ra) size inside small;
      zeros = λ k near. zeroed_zero l.locals (base + l.params) put k (whole ∙ size) room near;
      below = λ k near.
          zeroed_below l.locals (base + l.params) put k (whole ∙ size) room near
          ∙ slot_other s.bytes (base + link l) (reg s.registers ra) k size inside (λ e. absurd (omega (arith, e)));
      size = zeroed_size l.locals (base + l.params) put (whole ∙ size) room ∙ whole;
      globals = zeroed_globals l.locals (base + l.params) put;
      table = zeroed_table l.locals (base + l.params) put;
      memory = zeroed_memory l.locals (base + l.params) put;
      passive = zeroed_passive l.locals (base + l.params) put;
    }

pub prologue_does : PrologueLaw
prologue_does code s i base l has at frame small fits short =
    let front = room_words (need l) in
    let middle = store_slot ra (link l) in
    let back = zero_locals l l.locals in
    let near = slice_get_within code i _ has.0 in
    let room = room_is code s i base (need l) (has_first code i front (middle ++ back) has) at frame (omega arith) (omega arith) fits (omega arith) in
    let has_link = has_first code (i + 10) middle back (has_rest code i front (middle ++ back) has) in
    let first = linked code s i base (link l) room has_link at frame (omega arith) in
    entered code s i base l first (has_rest code i (front ++ middle) back has) at frame small fits short
