-- What the instruction words of `call_indirect` do: three tests that trap, and the jump.
use Rattle.std.proofs.Common.{◌≡◌, ℕ, zero, suc, ◌+◌, ◌-◌, ◌*◌, ◌/◌, ◌%◌, ◌^◌, ◌==◌, ◌<◌, ◌≤◌, Bool, true, false, List, [], ◌∷◌, ◌++◌, length, Option, None, Some, inl, inr, refl, sym, ap, ap₂, subst, ◌∙◌, arith, lit<}
use Rattle.std.specs.Prelude.{not, ◌≢◌, ◌||◌, slice_get}
use Rattle.std.proofs.lemmas.Bool.{cases_lt, lt-ltb, le-ltb, eq-eqb, ne_eqb, eqb-true, or_parts, false≢true}
use Rattle.std.proofs.lemmas.Option.{slice_get_within}
use Rattle.rv_isa.specs.declared.operations.BranchOp.{BranchOp}
use Rattle.rv_isa.specs.declared.operations.BranchOp.TheVariants.{Beq, Bne, Bltu}
use Rattle.rv_isa.specs.declared.operations.LoadOp.TheVariants.{Ld}
use Rattle.rv_isa.specs.declared.operations.ShiftOp.TheVariants.{Slli}
use Rattle.rv_isa.specs.declared.operations.RegOp.TheVariants.{Add}
use Rattle.rv_isa.specs.declared.operations.Op.{Op}
use Rattle.rv_isa.specs.declared.operations.Op.TheVariants as op
use Rattle.rv_isa.specs.declared.stepping.Region.TheVariants.{Table}
use Rattle.rv_isa.specs.Values.{i_value, plus, computed, is_taken}
use Rattle.rv_isa.specs.Steps.{reg, set_reg, Bytes, State, Next, act, jump, region_base}
use Rattle.rv_isa.specs.Runs.{place, HasAt, Reaches, FitWindows}
use Rattle.rv_isa.proofs.RunLaws.{Reaches-then, one_step}
use Rattle.rv_isa.proofs.OffsetLaws.{other_registers_stay}
use Rattle.wasm_defs.specs.declared.types.ValType.TheVariants.{I32}
use Rattle.wasm_defs.specs.Values.{word}
use Rattle.wasm_defs.specs.Configurations.{max_slots}
use Rattle.frame_layout.specs.Slots.{operand}
use Rattle.frame_layout.specs.Macros.{x0, ra, t0, t1, t2, s0, s4, forward, const_32, trap, zero_extend, shift, back}
use Rattle.frame_layout.specs.Templates.{EmitContext, load_operand, indirect_words}
use Rattle.frame_layout.specs.Laws.{slot_at, IsFrame, is_scratch, Does, TrapsAt}
use Rattle.frame_layout.proofs.Standing.{has_first, has_rest}
use Rattle.frame_layout.proofs.Constants.{block_leaves, const_32_leaves}
use Rattle.frame_layout.proofs.Steps.{does_leave, does_then, does_with, frame_stays}
use Rattle.frame_layout.proofs.Jumps.{trap_traps, traps_after}
use Rattle.simulation.specs.Regions.{row_code, row_like, HasRegions}
use Rattle.simulation.specs.TableLaws.{TableStands, Begins, BeginsTyped, BeginsRow, IndirectLaw}
use Rattle.simulation.proofs.Memory.Accesses.{load_leaves}
use Rattle.simulation.proofs.Memory.Addresses.{Pair, number_leaves, pair_made}
use Rattle.simulation.proofs.Memory.Tests.{moved, passes, turns, does_moved}

-- ---- a test with a trap after it

module _ (code : List (Option Op)) (s : State) (i : ℕ) (at : s.pc ≡ place i) (o : BranchOp) (left right kind : ℕ) (rest : List Op) (has : HasAt code i (op.Branch o left right (forward 16) ∷ (trap kind ++ rest))) where
  pub goes_past : i < 2 ^ 26 → is_taken o (reg s.registers left) (reg s.registers right) ≡ true → Reaches code 1 s (moved s 4)
  goes_past near taken = turns code s i at o left right (forward 16) (has.0, tt) 4 taken (omega arith)

  pub goes_wrong : kind < 2 ^ 11 → is_taken o (reg s.registers left) (reg s.registers right) ≡ false → TrapsAt code 4 4 kind s
  goes_wrong small not_taken =
      traps_after (does_moved 1 (passes code s i at o left right (forward 16) (has.0, tt) not_taken)) (trap_traps code (moved s 1) (suc i) kind (has_first code (suc i) (trap kind) rest has.1) (omega arith) small)

-- ---- a row of the table

abbrev pub row_words : List Op
row_words = op.Shift Slli t0 t0 4 ∷ op.Reg Add t0 t0 s4 ∷ op.Load Ld t1 t0 0 ∷ []

-- its address in t0, and its function's address in t1
pub record Row (code : List (Option Op)) (a : ℕ) (s : State) : Type 0 where
  pub does : Does code 3 3 s s.bytes
  pub address_is : reg does.end.registers t0 ≡ region_base Table + 16 * a
  pub code_is : reg does.end.registers t1 ≡ row_code s.bytes a

row_loads : (code : List (Option Op)) (s : State) (i a : ℕ) → HasAt code i row_words → s.pc ≡ place i → reg s.registers t0 ≡ a → reg s.registers s4 ≡ region_base Table → 16 * (a + 1) ≤ length s.bytes.table → FitWindows s.bytes → Row code a s
unfolding computed
row_loads code s i a has at a_is table_is inside fit =
    let small = fit Table in
    let sum : plus ((reg s.registers t0 * 2 ^ 4) % 2 ^ 64) (reg s.registers s4) ≡ region_base Table + 16 * a = omega arith in
    let one = block_leaves code (op.Shift Slli t0 t0 4 ∷ op.Reg Add t0 t0 s4 ∷ []) i s t0 (region_base Table + 16 * a) refl (has.0, (has.1.0, tt)) at sum in
    let pc_one = one.pc_is in
    let one_is = one.value_is in
    let address_is : plus (reg one.end.registers t0) (i_value 0) ≡ region_base Table + 16 * a = omega arith in
    let two = load_leaves code one.end (suc (suc i)) t0 0 Table (16 * a) (omega arith) address_is (subst FitWindows (sym one.bytes_are) fit) Ld t1 (has.1.1.0, tt) (λ e. absurd cc) (omega (arith, ap (λ (b : Bytes). length b.table) one.bytes_are)) in
    record {
      does = does_then (does_leave refl one) (does_with one.bytes_are (does_leave refl two));
      address_is = two.others t0 (λ e. absurd cc) ∙ one.value_is;
      code_is = two.value_is ∙ ap (λ (b : Bytes). row_code b a) one.bytes_are;
    }

-- its type in t0, and another one in t2
pub record Likes (code : List (Option Op)) (a like : ℕ) (s : State) : Type 0 where
  pub does : Does code 6 6 s s.bytes
  pub row_is : reg does.end.registers t0 ≡ row_like s.bytes a
  pub like_is : reg does.end.registers t2 ≡ like
  pub code_kept : reg does.end.registers t1 ≡ reg s.registers t1

like_loads : (code : List (Option Op)) (s : State) (i a like : ℕ) → HasAt code i (op.Load Ld t0 t0 8 ∷ const_32 t2 like) → s.pc ≡ place i → reg s.registers t0 ≡ region_base Table + 16 * a → 16 * (a + 1) ≤ length s.bytes.table → FitWindows s.bytes → like < 2 ^ 32 → Likes code a like s
like_loads code s i a like has at is inside fit small =
    let near = fit Table in
    let address_is : plus (reg s.registers t0) (i_value 8) ≡ region_base Table + (16 * a + 8) = omega arith in
    let one = load_leaves code s i t0 8 Table (16 * a + 8) at address_is fit Ld t0 (has.0, tt) (λ e. absurd cc) (omega arith) in
    let pc_one = one.pc_is in
    let two = const_32_leaves code one.end (suc i) t2 like has.1 (omega arith) (λ e. absurd cc) small in
    record {
      does = does_then (does_leave refl one) (does_with one.bytes_are (does_leave refl two));
      row_is = two.others t0 (λ e. absurd cc) ∙ one.value_is;
      like_is = two.value_is;
      code_kept = two.others t1 (λ e. absurd cc) ∙ one.others t1 (λ e. absurd cc);
    }

-- ---- the jump

abbrev pub jump_words : (slots : ℕ) → List Op
jump_words slots = shift slots ++ op.Jalr ra t1 0 ∷ []

kept_apart : (q r : ℕ) → (is_scratch q || q == ra || q == s0) ≡ false → (is_scratch r || r == ra || r == s0) ≡ true → q ≢ r
kept_apart q r kept passed same = false≢true (sym kept ∙ ap (λ (n : ℕ). is_scratch n || n == ra || n == s0) same ∙ passed)

kept_scratch : (q : ℕ) → (is_scratch q || q == ra || q == s0) ≡ false → is_scratch q ≡ false
kept_scratch q kept = (or_parts (is_scratch q) (q == ra) (or_parts (is_scratch q || q == ra) (q == s0) kept).0).0

jumps : (code : List (Option Op)) (s : State) (i base slots there : ℕ) → HasAt code i (jump_words slots) → s.pc ≡ place i → IsFrame base s → base + slots ≤ max_slots → reg s.registers t1 ≡ there → there < 2 ^ 64 → there % 4 ≡ 0 → Begins code 7 7 slots there s
unfolding computed
jumps code s i base slots there has at frame near is small aligned =
    let front = const_32 t0 (8 * slots) in
    let behind = op.Reg Add s0 s0 t0 ∷ op.Jalr ra t1 0 ∷ [] in
    let one = const_32_leaves code s i t0 (8 * slots) (has_first code i front behind has) at (λ e. absurd cc) (omega arith) in
    let pc_one = one.pc_is in
    let has_two = has_rest code i front behind has in
    let first = one.others s0 (λ e. absurd cc) ∙ frame.first in
    let first' = one.others s0 (λ e. absurd cc) in
    let number = one.value_is in
    let sum : plus (reg one.end.registers s0) (reg one.end.registers t0) ≡ reg s.registers s0 + 8 * slots = omega arith in
    let two = block_leaves code (op.Reg Add s0 s0 t0 ∷ []) (i + 5) one.end s0 (reg s.registers s0 + 8 * slots) refl (has_two.0, tt) (omega arith) sum in
    let pc_two = two.pc_is in
    let t1_is = two.others t1 (λ e. absurd cc) ∙ one.others t1 (λ e. absurd cc) ∙ is in
    let s2 = two.end in
    let s3 : State = record s2 { registers = set_reg s2.registers ra (s2.pc + 4); pc = there } in
    let target : plus (reg s2.registers t1) (i_value 0) / 2 * 2 ≡ there = omega arith in
    let row : act (op.Jalr ra t1 0) s2 ≡ Next s3 = ap (jump s2 ra) target ∙ rw (eq-eqb (there % 4) 0 aligned) refl in
    record {
      end = s3;
      reaches = Reaches-then (Reaches-then one.reaches two.reaches) (one_step code s2 s3 (suc (i + 5)) (op.Jalr ra t1 0) (omega arith) has_two.1.0 row);
      pc_is = refl;
      link_is = omega arith;
      first_is = two.value_is;
      bytes_are = two.bytes_are ∙ one.bytes_are;
      others = λ q kept. other_registers_stay s2.registers ra q (s2.pc + 4) (kept_apart q ra kept refl) ∙ two.others q (kept_apart q s0 kept refl) ∙ one.others q (kept_apart q t0 kept refl);
    }

-- after steps that change scratch registers alone
begins_after : {code : List (Option Op)} {j a k b slots there : ℕ} {s : State} → (first : Does code j a s s.bytes) → Begins code k b slots there first.end → Begins code (j + k) (a + b) slots there s
begins_after {code} {j} {a} {k} {b} {slots} {there} {s} first begins =
    let pc_is = first.pc_is in
    let link = begins.link_is in
    record {
      end = begins.end;
      reaches = Reaches-then first.reaches begins.reaches;
      pc_is = begins.pc_is;
      link_is = omega arith;
      first_is = begins.first_is ∙ ap (λ (x : ℕ). x + 8 * slots) (first.others s0 refl);
      bytes_are = begins.bytes_are ∙ first.bytes_are;
      others = λ q kept. begins.others q kept ∙ first.others q (kept_scratch q kept);
    }

-- a list has what its length says
none_within : (rows : List (Option ℕ)) (a : ℕ) → a < length rows → slice_get rows a ≡ None → ⊥
none_within [] a less e = omega arith
none_within (r ∷ rows) zero less e = cc
none_within (r ∷ rows) (suc a) less e = none_within rows a (omega arith) e

-- ---- all of it

module _ (w : EmitContext) (code : List (Option Op)) (s : State) (i base h type arguments a pages : ℕ) (rows : List (Option ℕ)) (places like_of : ℕ → ℕ)
    (has : HasAt code i (indirect_words w h type arguments)) (at : s.pc ≡ place i) (frame : IsFrame base s) (regions : HasRegions pages s) (table : TableStands rows places like_of s.bytes)
    (rows_are : w.rows ≡ length rows) (like_small : w.like type < 2 ^ 32) (inside : base + operand w.layout (h - 1) < max_slots)
    (a_is : slot_at s.bytes (base + operand w.layout (h - 1)) ≡ word I32 a) (small : a < 2 ^ 32) (short : length code ≤ 2 ^ 26) where
  abbrev slots : ℕ
  slots = operand w.layout (h - 1 - arguments)

  abbrev like : ℕ
  like = w.like type

  abbrev last : List Op
  last = op.Jalr ra t1 0 ∷ back slots

  abbrev third : List Op
  third = op.Branch Beq t0 t2 (forward 16) ∷ (trap 7 ++ (shift slots ++ last))

  abbrev second : List Op
  second = op.Branch Bne t1 x0 (forward 16) ∷ (trap 6 ++ (op.Load Ld t0 t0 8 ∷ const_32 t2 like ++ third))

  abbrev first : List Op
  first = op.Branch Bltu t0 t1 (forward 16) ∷ (trap 5 ++ (row_words ++ second))

  abbrev index : List Op
  index = load_operand w t0 (h - 1) ++ zero_extend t0

  rows_small : w.rows < 2 ^ 32
  rows_small =
      let fit = frame.windows Table in
      omega (arith, table.size)

  -- the index in t0, and the number of rows in t1
  has_first_test : HasAt code (i + 10) first
  has_first_test = has_rest code i (index ++ const_32 t1 w.rows) first has

  indexed : Pair code 10 s a w.rows
  indexed =
      let one = number_leaves code s i base (operand w.layout (h - 1)) a (const_32 t1 w.rows ++ first) has at frame inside a_is small in
      pair_made code s i 5 a w.rows one (has_first code (i + 5) (const_32 t1 w.rows) first (has_rest code i index (const_32 t1 w.rows ++ first) has)) at rows_small

  near_first : i + 10 < 2 ^ 26
  near_first = let within = slice_get_within code (i + 10) _ has_first_test.0 in omega arith

  outside : length rows ≤ a → TrapsAt code 14 14 5 s
  unfolding is_taken
  outside large =
      let p = indexed in
      let pc_is = p.does.pc_is in
      let a_there = p.first in
      let rows_there = p.second in
      let wrong = goes_wrong code p.does.end (i + 10) (omega arith) Bltu t0 t1 5 (row_words ++ second) has_first_test (lit< tt) (le-ltb (reg p.does.end.registers t0) (reg p.does.end.registers t1) (omega arith)) in
      traps_after p.does wrong

  module _ (less : a < length rows) where
    -- the row
    record Found : Type 0 where
      does : Does code 14 17 s s.bytes
      address_is : reg does.end.registers t0 ≡ region_base Table + 16 * a
      code_is : reg does.end.registers t1 ≡ row_code s.bytes a

    has_row : HasAt code (i + 10 + 4) (row_words ++ second)
    has_row = has_rest code (i + 10) (op.Branch Bltu t0 t1 (forward 16) ∷ trap 5) (row_words ++ second) has_first_test

    room : 16 * (a + 1) ≤ length s.bytes.table
    room = omega (arith, table.size)

    found : Found
    unfolding is_taken
    found =
        let p = indexed in
        let near = near_first in
        let pc_is = p.does.pc_is in
        let a_there = p.first in
        let rows_there = p.second in
        let past = goes_past code p.does.end (i + 10) (omega arith) Bltu t0 t1 5 (row_words ++ second) has_first_test near (lt-ltb (reg p.does.end.registers t0) (reg p.does.end.registers t1) (omega arith)) in
        let tested = does_then p.does (does_with p.does.bytes_are (does_moved 4 past)) in
        let pc_tested = tested.pc_is in
        let same = tested.bytes_are in
        let row = row_loads code tested.end (i + 10 + 4) a (has_first code (i + 10 + 4) row_words second has_row) (omega arith) p.first (tested.others s4 refl ∙ regions.table) (subst (λ (b : Bytes). 16 * (a + 1) ≤ length b.table) (sym same) room) (subst FitWindows (sym same) frame.windows) in
        record {
          does = does_then tested (does_with same row.does);
          address_is = row.address_is;
          code_is = row.code_is ∙ ap (λ (b : Bytes). row_code b a) same;
        }

    has_second_test : HasAt code (i + 10 + 4 + 3) second
    has_second_test = has_rest code (i + 10 + 4) row_words second has_row

    empty : row_code s.bytes a ≡ 0 → TrapsAt code 18 21 6 s
    unfolding is_taken
    empty none =
        let f = found in
        let pc_is = f.does.pc_is in
        let wrong = goes_wrong code f.does.end (i + 10 + 4 + 3) (omega arith) Bne t1 x0 6 (op.Load Ld t0 t0 8 ∷ const_32 t2 like ++ third) has_second_test (lit< tt) (ap not (eq-eqb (reg f.does.end.registers t1) 0 (f.code_is ∙ none))) in
        traps_after f.does wrong

    module _ (some : row_code s.bytes a ≢ 0) where
      record Typed : Type 0 where
        does : Does code 21 27 s s.bytes
        row_is : reg does.end.registers t0 ≡ row_like s.bytes a
        like_is : reg does.end.registers t2 ≡ like
        code_is : reg does.end.registers t1 ≡ row_code s.bytes a

      has_type : HasAt code (i + 10 + 4 + 3 + 4) ((op.Load Ld t0 t0 8 ∷ const_32 t2 like) ++ third)
      has_type = has_rest code (i + 10 + 4 + 3) (op.Branch Bne t1 x0 (forward 16) ∷ trap 6) ((op.Load Ld t0 t0 8 ∷ const_32 t2 like) ++ third) has_second_test

      typed : Typed
      unfolding is_taken
      typed =
          let f = found in
          let within = slice_get_within code (i + 10 + 4 + 3) _ has_second_test.0 in
          let pc_is = f.does.pc_is in
          let past = goes_past code f.does.end (i + 10 + 4 + 3) (omega arith) Bne t1 x0 6 (op.Load Ld t0 t0 8 ∷ const_32 t2 like ++ third) has_second_test (omega arith) (ap not (ne_eqb (reg f.does.end.registers t1) 0 (λ e. some (sym f.code_is ∙ e)))) in
          let tested = does_then f.does (does_with f.does.bytes_are (does_moved 4 past)) in
          let pc_tested = tested.pc_is in
          let same = tested.bytes_are in
          let likes = like_loads code tested.end (i + 10 + 4 + 3 + 4) a like (has_first code (i + 10 + 4 + 3 + 4) (op.Load Ld t0 t0 8 ∷ const_32 t2 like) third has_type) (omega arith) f.address_is (subst (λ (b : Bytes). 16 * (a + 1) ≤ length b.table) (sym same) room) (subst FitWindows (sym same) frame.windows) like_small in
          record {
            does = does_then tested (does_with same likes.does);
            row_is = likes.row_is ∙ ap (λ (b : Bytes). row_like b a) same;
            like_is = likes.like_is;
            code_is = likes.code_kept ∙ f.code_is;
          }

      has_third_test : HasAt code (i + 10 + 4 + 3 + 4 + 6) third
      has_third_test = has_rest code (i + 10 + 4 + 3 + 4) (op.Load Ld t0 t0 8 ∷ const_32 t2 like) third has_type

      by_type : (there : ℕ) (t : Bool) → (row_like s.bytes a == like) ≡ t → row_code s.bytes a ≡ there → there < 2 ^ 64 → there % 4 ≡ 0 → BeginsTyped code slots there s t
      unfolding is_taken
      by_type there true is there_is low aligned =
          let y = typed in
          let within = slice_get_within code (i + 10 + 4 + 3 + 4 + 6) _ has_third_test.0 in
          let pc_is = y.does.pc_is in
          let past = goes_past code y.does.end (i + 10 + 4 + 3 + 4 + 6) (omega arith) Beq t0 t2 7 (shift slots ++ last) has_third_test (omega arith) (eq-eqb (reg y.does.end.registers t0) (reg y.does.end.registers t2) (y.row_is ∙ eqb-true (row_like s.bytes a) like is ∙ sym y.like_is)) in
          let tested = does_then y.does (does_with y.does.bytes_are (does_moved 4 past)) in
          let pc_tested = tested.pc_is in
          let has_last = has_rest code (i + 10 + 4 + 3 + 4 + 6) (op.Branch Beq t0 t2 (forward 16) ∷ trap 7) (shift slots ++ last) has_third_test in
          let jumped = jumps code tested.end (i + 10 + 4 + 3 + 4 + 6 + 4) base slots there (has_first code (i + 10 + 4 + 3 + 4 + 6 + 4) (jump_words slots) (back slots) has_last) (omega arith) (frame_stays frame tested) (omega arith) (y.code_is ∙ there_is) low aligned in
          begins_after tested jumped
      by_type there false is there_is low aligned =
          let y = typed in
          let pc_is = y.does.pc_is in
          let wrong = goes_wrong code y.does.end (i + 10 + 4 + 3 + 4 + 6) (omega arith) Beq t0 t2 7 (shift slots ++ last) has_third_test (lit< tt) (ap₂ (λ (x y : ℕ). x == y) y.row_is y.like_is ∙ is) in
          traps_after y.does wrong

  by_row : (o : Option (Option ℕ)) → slice_get rows a ≡ o → ((f : ℕ) → slice_get rows a ≡ Some (Some f) → places f ≤ length code) → BeginsRow code slots like places like_of s o
  by_row None is fit = outside (elim (cases_lt a (length rows)) [ inl less ↦ absurd (none_within rows a less is) | inr large ↦ large ])
  by_row (Some None) is fit = empty (slice_get_within rows a None is) (table.empty a is)
  by_row (Some (Some f)) is fit =
      let there_is = table.code_is a f is in
      let near = fit f is in
      let differs : row_code s.bytes a ≢ 0 = λ e. absurd (omega arith) in
      subst (BeginsTyped code slots (place (places f)) s) (ap (λ (n : ℕ). n == like) (table.like_is a f is)) (by_type (slice_get_within rows a (Some f) is) differs (place (places f)) (row_like s.bytes a == like) refl there_is (omega arith) (omega arith))

pub indirect_does : IndirectLaw
indirect_does w code s i base h type arguments a pages rows places like_of has at frame regions table rows_are like_small inside a_is small short fit =
    by_row w code s i base h type arguments a pages rows places like_of has at frame regions table rows_are like_small inside a_is small short (slice_get rows a) refl fit
