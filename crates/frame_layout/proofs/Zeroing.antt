-- Slots that become zero one after the other, and the loop that does it.
use Rattle.std.proofs.Common.{◌≡◌, ℕ, zero, suc, ◌+◌, ◌*◌, ◌^◌, ◌<◌, ◌≤◌, List, [], ◌∷◌, length, Option, Some, refl, ap, subst, ◌∙◌, arith, lit<}
use Rattle.std.specs.Prelude.{not, ◌≢◌}
use Rattle.std.proofs.lemmas.Bool.{eq-eqb, ne_eqb}
use Rattle.rv_isa.specs.declared.operations.BranchOp.TheVariants.{Bne}
use Rattle.rv_isa.specs.declared.operations.StoreOp.TheVariants.{Sd}
use Rattle.rv_isa.specs.declared.operations.ImmOp.TheVariants.{Addi}
use Rattle.rv_isa.specs.declared.operations.Op.{Op}
use Rattle.rv_isa.specs.declared.operations.Op.TheVariants.{Branch, Store, Imm}
use Rattle.rv_isa.specs.declared.stepping.Region.TheVariants.{Stack}
use Rattle.rv_isa.specs.Values.{i_value, plus, computed, is_taken}
use Rattle.rv_isa.specs.Steps.{reg, set_reg, Bytes, State, gives, stored, store, region_base}
use Rattle.rv_isa.specs.Runs.{place, HasAt, Reaches, FitWindows}
use Rattle.rv_isa.proofs.RunLaws.{Reaches-then, one_step}
use Rattle.rv_isa.proofs.AccessLaws.{stored_at}
use Rattle.rv_isa.proofs.OffsetLaws.{other_registers_stay}
use Rattle.wasm_defs.specs.Configurations.{max_slots}
use Rattle.frame_layout.specs.Macros.{x0, t0, t1, backward}
use Rattle.frame_layout.specs.Laws.{slot_at, with_slot, Does}
use Rattle.frame_layout.proofs.SlotLaws.{slot_written, slot_other, size_stays, windows_stay}
use Rattle.frame_layout.proofs.Steps.{apart, does_then}
use Rattle.frame_layout.proofs.Jumps.{passed_does, taken_reaches}

-- so many slots from one on are zero
abbrev pub zeroed : (count from : ℕ) → Bytes → Bytes
zeroed zero from b = b
zeroed (suc n) from b = zeroed n (suc from) (with_slot b from 0)

-- ---- what stays, and what is zero

pub zeroed_size : (n from : ℕ) (b : Bytes) → length b.stack ≡ 8 * max_slots → from + n ≤ max_slots → length (zeroed n from b).stack ≡ length b.stack
zeroed_size zero from b size inside = refl
zeroed_size (suc n) from b size inside =
    let first = size_stays b from 0 size (omega arith) in
    zeroed_size n (suc from) (with_slot b from 0) (first ∙ size) (omega arith) ∙ first

pub zeroed_windows : (n from : ℕ) (b : Bytes) → length b.stack ≡ 8 * max_slots → from + n ≤ max_slots → FitWindows b → FitWindows (zeroed n from b)
zeroed_windows zero from b size inside fit = fit
zeroed_windows (suc n) from b size inside fit =
    zeroed_windows n (suc from) (with_slot b from 0) (size_stays b from 0 size (omega arith) ∙ size) (omega arith) (windows_stay b from 0 size (omega arith) fit)

pub zeroed_below : (n from : ℕ) (b : Bytes) (k : ℕ) → length b.stack ≡ 8 * max_slots → from + n ≤ max_slots → k < from → slot_at (zeroed n from b) k ≡ slot_at b k
zeroed_below zero from b k size inside below = refl
zeroed_below (suc n) from b k size inside below =
    zeroed_below n (suc from) (with_slot b from 0) k (size_stays b from 0 size (omega arith) ∙ size) (omega arith) (omega arith)
    ∙ slot_other b from 0 k size (omega arith) (λ e. absurd (omega (arith, e)))

pub zeroed_above : (n from : ℕ) (b : Bytes) (k : ℕ) → length b.stack ≡ 8 * max_slots → from + n ≤ max_slots → from + n ≤ k → slot_at (zeroed n from b) k ≡ slot_at b k
zeroed_above zero from b k size inside above = refl
zeroed_above (suc n) from b k size inside above =
    zeroed_above n (suc from) (with_slot b from 0) k (size_stays b from 0 size (omega arith) ∙ size) (omega arith) (omega arith)
    ∙ slot_other b from 0 k size (omega arith) (λ e. absurd (omega (arith, e)))

pub zeroed_zero : (n from : ℕ) (b : Bytes) (k : ℕ) → length b.stack ≡ 8 * max_slots → from + n ≤ max_slots → k < n → slot_at (zeroed n from b) (from + k) ≡ 0
zeroed_zero zero from b k size inside near = absurd (omega (arith, near))
zeroed_zero (suc n) from b zero size inside near =
    let here : from + 0 ≡ from = omega arith in
    ap (slot_at (zeroed (suc n) from b)) here
    ∙ zeroed_below n (suc from) (with_slot b from 0) from (size_stays b from 0 size (omega arith) ∙ size) (omega arith) (omega arith)
    ∙ slot_written b from 0 size (omega arith) (lit< tt)
zeroed_zero (suc n) from b (suc k) size inside near =
    let there : from + suc k ≡ suc from + k = omega arith in
    ap (slot_at (zeroed (suc n) from b)) there
    ∙ zeroed_zero n (suc from) (with_slot b from 0) k (size_stays b from 0 size (omega arith) ∙ size) (omega arith) (omega arith)

pub zeroed_globals : (n from : ℕ) (b : Bytes) → (zeroed n from b).globals ≡ b.globals
zeroed_globals zero from b = refl
zeroed_globals (suc n) from b = zeroed_globals n (suc from) (with_slot b from 0)

pub zeroed_table : (n from : ℕ) (b : Bytes) → (zeroed n from b).table ≡ b.table
zeroed_table zero from b = refl
zeroed_table (suc n) from b = zeroed_table n (suc from) (with_slot b from 0)

pub zeroed_memory : (n from : ℕ) (b : Bytes) → (zeroed n from b).memory ≡ b.memory
zeroed_memory zero from b = refl
zeroed_memory (suc n) from b = zeroed_memory n (suc from) (with_slot b from 0)

pub zeroed_passive : (n from : ℕ) (b : Bytes) → (zeroed n from b).passive ≡ b.passive
zeroed_passive zero from b = refl
zeroed_passive (suc n) from b = zeroed_passive n (suc from) (with_slot b from 0)

-- ---- the loop

abbrev pub loop_words : List Op
loop_words = Store Sd t0 x0 0 ∷ Imm Addi t0 t0 8 ∷ Branch Bne t0 t1 (backward 8) ∷ []

-- the address of a slot
abbrev pub address : ℕ → ℕ
address k = region_base Stack + 8 * k

module _ (code : List (Option Op)) (i : ℕ) (has : HasAt code i loop_words) (near : i < 2 ^ 26) where
  -- a slot becomes zero, and t0 goes on to the next one
  abbrev stepped : State → ℕ → State
  stepped s from =
      record s { registers = set_reg s.registers t0 (address (suc from)); pc = s.pc + 4 + 4; bytes = with_slot s.bytes from 0 }

  first_steps : (s : State) (from : ℕ) → s.pc ≡ place i → reg s.registers t0 ≡ address from → from < max_slots → length s.bytes.stack ≡ 8 * max_slots → FitWindows s.bytes → Reaches code 2 s (stepped s from)
  unfolding computed
  first_steps s from at here inside size fit =
      let s1 : State = record s { pc = s.pc + 4; bytes = with_slot s.bytes from 0 } in
      let target : plus (reg s.registers t0) (i_value 0) ≡ region_base Stack + 8 * from = omega arith in
      let put_there : stored s.bytes Sd (plus (reg s.registers t0) (i_value 0)) 0 ≡ Some (with_slot s.bytes from 0) = ap (λ (a : ℕ). stored s.bytes Sd a 0) target ∙ stored_at s.bytes Sd Stack (8 * from) 0 refl (omega arith) (fit Stack) in
      let next : plus (reg s.registers t0) (i_value 8) ≡ address (suc from) = omega arith in
      let first = one_step code s s1 i (Store Sd t0 x0 0) at has.0 (ap (store s) put_there) in
      Reaches-then first (one_step code s1 (stepped s from) (suc i) (Imm Addi t0 t0 8) (omega arith) has.1.0 (ap (gives s1 t0) next))

  pub loop_does : (n : ℕ) (s : State) (from : ℕ) → s.pc ≡ place i → reg s.registers t0 ≡ address from → reg s.registers t1 ≡ address (from + suc n) → from + suc n ≤ max_slots → length s.bytes.stack ≡ 8 * max_slots → FitWindows s.bytes → Does code (3 * suc n) 3 s (zeroed (suc n) from s.bytes)
  unfolding is_taken
  loop_does zero s from at here there inside size fit =
      let s2 = stepped s from in
      let last : address (suc from) ≡ reg s.registers t1 = omega arith in
      let passed = passed_does code s2 (suc (suc i)) (omega arith) Bne t0 t1 (backward 8) (has.1.1.0, tt) (ap not (eq-eqb (address (suc from)) (reg s.registers t1) last)) in
      let first : Does code 2 2 s s2.bytes = record {
        end = s2;
        reaches = first_steps s from at here (omega arith) size fit;
        pc_is = omega arith;
        bytes_are = refl;
        others = λ q kept. other_registers_stay s.registers t0 q (address (suc from)) (apart q t0 kept refl);
      } in
      does_then first passed
  loop_does (suc n) s from at here there inside size fit =
      let s2 = stepped s from in
      let s3 : State = record s2 { pc = s.pc } in
      let more : address (suc from) ≢ reg s.registers t1 = λ e. absurd (omega (arith, e)) in
      let taken = taken_reaches code s2 (suc (suc i)) (omega arith) Bne t0 t1 (backward 8) s.pc (has.1.1.0, tt) (ap not (ne_eqb (address (suc from)) (reg s.registers t1) more)) (omega arith) (omega arith) in
      let size' = size_stays s.bytes from 0 size (omega arith) ∙ size in
      let rest = loop_does n s3 (suc from) at refl (omega arith) (omega arith) size' (windows_stay s.bytes from 0 size (omega arith) fit) in
      let count : 2 + 1 + 3 * suc n ≡ 3 * suc (suc n) = omega arith in
      record {
        end = rest.end;
        reaches = subst (λ (k : ℕ). Reaches code k s rest.end) count (Reaches-then (Reaches-then (first_steps s from at here (omega arith) size fit) taken) rest.reaches);
        pc_is = rest.pc_is;
        bytes_are = rest.bytes_are;
        others = λ q kept. rest.others q kept ∙ other_registers_stay s.registers t0 q (address (suc from)) (apart q t0 kept refl);
      }
