-- Branches that are taken and passed, jumps to an address in a register, and calls of the environment.
use Rattle.std.proofs.Common.{◌≡◌, ℕ, suc, ◌+◌, ◌*◌, ◌/◌, ◌%◌, ◌^◌, ◌<◌, ◌==◌, true, false, List, [], ◌∷◌, Option, refl, sym, ap, ◌∙◌, arith}
use Rattle.std.specs.Prelude.{◌||◌, ◌≢◌}
use Rattle.std.proofs.lemmas.Bool.{eq-eqb, lt-ltb, false≢true, or_parts}
use Rattle.rv_isa.specs.declared.operations.BranchOp.{BranchOp}
use Rattle.rv_isa.specs.declared.operations.ImmOp.TheVariants.{Addi}
use Rattle.rv_isa.specs.declared.operations.Op.{Op}
use Rattle.rv_isa.specs.declared.operations.Op.TheVariants.{Jalr, Branch, Imm, Ecall}
use Rattle.rv_isa.specs.Values.{i_value, b_value, plus, computed, is_taken}
use Rattle.rv_isa.specs.Steps.{reg, State, Next, act, branch, jump, exec}
use Rattle.rv_isa.specs.Runs.{place, HasAt, Reaches, Leaves}
use Rattle.rv_isa.proofs.RunLaws.{Reaches-then, one_step, one_call}
use Rattle.frame_layout.specs.Macros.{x0, ra, a0, a7, trap}
use Rattle.frame_layout.specs.Laws.{is_scratch, is_passed, Does, Asks, TrapsAt}
use Rattle.frame_layout.proofs.Constants.{block_leaves}

module _ (code : List (Option Op)) (s : State) (i : ℕ) (at : s.pc ≡ place i) where
  -- ---- branches

  pub passed_does : (op : BranchOp) (left right field : ℕ) → HasAt code i (Branch op left right field ∷ []) → is_taken op (reg s.registers left) (reg s.registers right) ≡ false → Does code 1 1 s s.bytes
  passed_does op left right field has not_taken =
      let on : State = record s { pc = s.pc + 4 } in
      let row = ap (λ t. branch s t (plus s.pc (b_value field))) not_taken in
      record {
        end = on;
        reaches = one_step code s on i (Branch op left right field) at has.0 row;
        pc_is = omega arith;
        bytes_are = refl;
        others = λ q kept. refl;
      }

  pub taken_reaches : (op : BranchOp) (left right field there : ℕ) → HasAt code i (Branch op left right field ∷ []) → is_taken op (reg s.registers left) (reg s.registers right) ≡ true → plus s.pc (b_value field) ≡ there → there % 4 ≡ 0 → Reaches code 1 s (record s { pc = there })
  taken_reaches op left right field there has taken is aligned =
      let row : act (Branch op left right field) s ≡ Next (record s { pc = there }) =
      ap (λ t. branch s t (plus s.pc (b_value field))) taken ∙ ap (branch s true) is ∙ rw (eq-eqb (there % 4) 0 aligned) refl in
      one_step code s (record s { pc = there }) i (Branch op left right field) at has.0 row

  -- by so many words forward
  pub taken_does : (op : BranchOp) (left right field words : ℕ) → HasAt code i (Branch op left right field ∷ []) → is_taken op (reg s.registers left) (reg s.registers right) ≡ true → plus s.pc (b_value field) ≡ s.pc + 4 * words → Does code 1 words s s.bytes
  taken_does op left right field words has taken is =
      record {
        end = record s { pc = s.pc + 4 * words };
        reaches = taken_reaches op left right field (s.pc + 4 * words) has taken is (omega arith);
        pc_is = refl;
        bytes_are = refl;
        others = λ q kept. refl;
      }

  -- ---- to the address in ra

  pub returned_reaches : (there : ℕ) → HasAt code i (Jalr x0 ra 0 ∷ []) → reg s.registers ra ≡ there → there < 2 ^ 64 → there % 4 ≡ 0 → Reaches code 1 s (record s { pc = there })
  returned_reaches there has is small aligned =
      let target : plus (reg s.registers ra) (i_value 0) / 2 * 2 ≡ there = omega arith in
      let row : act (Jalr x0 ra 0) s ≡ Next (record s { pc = there }) =
      ap (jump s 0) target ∙ rw (eq-eqb (there % 4) 0 aligned) refl in
      one_step code s (record s { pc = there }) i (Jalr x0 ra 0) at has.0 row

-- ---- calls of the environment

-- a small number, into a register
pub number_leaves : (code : List (Option Op)) (s : State) (i r n : ℕ) → HasAt code i (Imm Addi (suc r) x0 n ∷ []) → s.pc ≡ place i → n < 2 ^ 11 → Leaves code 1 s s.bytes (suc r) n
unfolding computed
number_leaves code s i r n has at small =
    let value : plus 0 (i_value n) ≡ n = rw (lt-ltb n (2 ^ 11) small) (omega arith) in
    block_leaves code (Imm Addi (suc r) x0 n ∷ []) i s (suc r) n (rw (eq-eqb (suc r) (suc r) refl) refl) has at (rw (eq-eqb (suc r) (suc r) refl) value)

-- a register that keeps what it held up to a call of the environment
pub passed_kept : (r : ℕ) → is_passed r ≡ false → is_scratch r ≡ false
passed_kept r kept = (or_parts (is_scratch r) (r == a0) (or_parts (is_scratch r || r == a0) (r == a7) kept).0).0

pub passed_apart : (q r : ℕ) → is_passed q ≡ false → is_passed r ≡ true → q ≢ r
passed_apart q r kept passed same = false≢true (sym kept ∙ ap is_passed same ∙ passed)

abbrev pub asks_after : {code : List (Option Op)} {s : State} (k i words number : ℕ) (s' : State) → Reaches code k s s' → s'.pc ≡ place i → HasAt code i (Ecall ∷ []) → s'.pc ≡ s.pc + 4 * words → s'.bytes ≡ s.bytes → reg s'.registers a7 ≡ number → ((r : ℕ) → is_passed r ≡ false → reg s'.registers r ≡ reg s.registers r) → Asks code (k + 1) (words + 1) number s
asks_after {code} {s} k i words number s' reaches at has pc bytes is others =
    let end : State = record s' { pc = s'.pc + 4 } in
    record {
      end = end;
      by = λ n.
          let one : k + 1 + n ≡ k + suc n = omega arith in
          ap (λ m. exec code m s) one ∙ reaches.by (suc n) ∙ one_call code s' end i Ecall at has.0 refl n;
      pc_is = omega arith;
      number_is = is;
      bytes_are = bytes;
      others = others;
    }

pub trap_traps : (code : List (Option Op)) (s : State) (i kind : ℕ) → HasAt code i (trap kind) → s.pc ≡ place i → kind < 2 ^ 11 → TrapsAt code 3 3 kind s
trap_traps code s i kind has at small =
    let one = number_leaves code s i 9 kind (has.0, tt) at small in
    let pc_one = one.pc_is in
    let two = number_leaves code one.end (suc i) 16 1 (has.1.0, tt) (omega arith) (omega arith) in
    let pc_two = two.pc_is in
    record {
      asks = asks_after 2 (suc (suc i)) 2 1 two.end (Reaches-then one.reaches two.reaches) (omega arith) (has.1.1.0, tt) (omega arith) (two.bytes_are ∙ one.bytes_are) two.value_is (λ r kept. two.others r (passed_apart r a7 kept refl) ∙ one.others r (passed_apart r a0 kept refl));
      kind_is = two.others a0 (λ e. absurd cc) ∙ one.value_is;
    }

-- a trap after steps that change no byte
pub traps_after : {code : List (Option Op)} {j a k b kind : ℕ} {s : State} → (first : Does code j a s s.bytes) → TrapsAt code k b kind first.end → TrapsAt code (j + k) (a + b) kind s
traps_after {code} {j} {a} {k} {b} {kind} {s} first traps =
    let asks = traps.asks in
    let here = first.pc_is in
    let there = asks.pc_is in
    record {
      asks = record {
        end = asks.end;
        by = λ n.
            let regroup : j + k + n ≡ j + (k + n) = omega arith in
            ap (λ m. exec code m s) regroup ∙ first.reaches.by (k + n) ∙ asks.by n;
        pc_is = omega arith;
        number_is = asks.number_is;
        bytes_are = asks.bytes_are ∙ first.bytes_are;
        others = λ r kept. asks.others r kept ∙ first.others r (passed_kept r kept);
      };
      kind_is = traps.kind_is;
    }

pub exit_asks : (code : List (Option Op)) (s : State) (i : ℕ) → HasAt code i (Imm Addi a7 x0 0 ∷ Ecall ∷ []) → s.pc ≡ place i → Asks code 2 2 0 s
exit_asks code s i has at =
    let one = number_leaves code s i 16 0 (has.0, tt) at (omega arith) in
    let pc_one = one.pc_is in
    asks_after 1 (suc i) 1 0 one.end one.reaches (omega arith) (has.1.0, tt) (omega arith) one.bytes_are one.value_is (λ r kept. one.others r (passed_apart r a7 kept refl))
