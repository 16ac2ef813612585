-- The loops over bytes.
use Rattle.std.proofs.Common.{◌≡◌, ℕ, zero, suc, ◌+◌, ◌*◌, ◌%◌, ◌^◌, ◌<◌, ◌≤◌, List, [], ◌∷◌, length, Option, Some, refl, ap, subst, ◌∙◌, arith}
use Rattle.std.specs.Prelude.{◌≢◌}
use Rattle.std.proofs.lemmas.Bool.{eq-eqb, ne_eqb}
use Rattle.rv_isa.specs.declared.operations.BranchOp.TheVariants.{Beq}
use Rattle.rv_isa.specs.declared.operations.LoadOp.TheVariants.{Lbu}
use Rattle.rv_isa.specs.declared.operations.StoreOp.TheVariants.{Sb}
use Rattle.rv_isa.specs.declared.operations.ImmOp.TheVariants.{Addi}
use Rattle.rv_isa.specs.declared.operations.Op.{Op}
use Rattle.rv_isa.specs.declared.operations.Op.TheVariants.{Jal, Load, Store, Imm}
use Rattle.rv_isa.specs.declared.stepping.Region.{Region}
use Rattle.rv_isa.specs.declared.stepping.Region.TheVariants.{Stack, Globals, Table, Memory, Passive}
use Rattle.rv_isa.specs.Values.{i_value, b_value, j_value, plus, computed, is_taken}
use Rattle.rv_isa.specs.Steps.{reg, set_reg, Bytes, State, Next, act, jump, load, store, gives, value_at, put, le_bytes, region_base, region, loaded, stored}
use Rattle.rv_isa.specs.Runs.{place, HasAt, Reaches, FitWindows}
use Rattle.rv_isa.proofs.RunLaws.{Reaches-then, one_step}
use Rattle.rv_isa.proofs.ByteLaws.{length-put, length-le_bytes}
use Rattle.rv_isa.proofs.AccessLaws.{loaded_at, stored_at}
use Rattle.rv_isa.proofs.OffsetLaws.{other_registers_stay}
use Rattle.frame_layout.specs.Macros.{x0, t0, t1, t2, t3, forward, minus_one}
use Rattle.frame_layout.specs.Laws.{Does}
use Rattle.frame_layout.proofs.Steps.{apart}
use Rattle.frame_layout.proofs.Jumps.{taken_does}
use Rattle.simulation.proofs.Memory.Tests.{moved, passes}
use Rattle.frame_layout.specs.BulkWords.{jump_back, fill_loop, up_loop, down_loop}

-- ---- jumps

pub jumps : (code : List (Option Op)) (s : State) (i : ℕ) → s.pc ≡ place i → (field there : ℕ) → HasAt code i (Jal x0 field ∷ []) → plus s.pc (j_value field) ≡ there → there % 4 ≡ 0 → Reaches code 1 s (record s { pc = there })
jumps code s i at field there has is aligned =
    let row : act (Jal x0 field) s ≡ Next (record s { pc = there }) = ap (jump s 0) is ∙ rw (eq-eqb (there % 4) 0 aligned) refl in
    one_step code s (record s { pc = there }) i (Jal x0 field) at has.0 row

-- ---- a byte that is written

-- the low byte of a number
abbrev pub with_byte : Bytes → (at value : ℕ) → Bytes
with_byte b at value = record b { memory = put 1 at b.memory (le_bytes 1 value) }

abbrev pub address : ℕ → ℕ
address at = region_base Memory + at

pub byte_size : (b : Bytes) (at value : ℕ) (r : Region) → at < length b.memory → length (region (with_byte b at value) r) ≡ length (region b r)
byte_size b at value Stack inside = refl
byte_size b at value Globals inside = refl
byte_size b at value Table inside = refl
byte_size b at value Passive inside = refl
byte_size b at value Memory inside = length-put 1 at b.memory (le_bytes 1 value) (omega arith) (length-le_bytes 1 value)

pub byte_windows : (b : Bytes) (at value : ℕ) → at < length b.memory → FitWindows b → FitWindows (with_byte b at value)
byte_windows b at value inside fit r = omega (arith, byte_size b at value r inside, fit r)

pub base_small : (r : Region) → region_base r ≤ 0x70000000
base_small Stack = omega arith
base_small Globals = omega arith
base_small Table = omega arith
base_small Memory = omega arith
base_small Passive = omega arith

byte_stored : (b : Bytes) (from at value : ℕ) → from ≡ address at → at < length b.memory → FitWindows b → stored b Sb (plus from (i_value 0)) value ≡ Some (with_byte b at value)
byte_stored b from at value is inside fit =
    let small = fit Memory in
    let target : plus from (i_value 0) ≡ region_base Memory + at = omega arith in
    ap (λ (a : ℕ). stored b Sb a value) target ∙ stored_at b Sb Memory at value refl (omega arith) (fit Memory)

-- ---- filling

abbrev pub filled : (n at value : ℕ) → Bytes → Bytes
filled zero at value b = b
filled (suc n) at value b = filled n (suc at) value (with_byte b at value)

module _ (code : List (Option Op)) (i : ℕ) (has : HasAt code i fill_loop) (near : i < 2 ^ 26) where
  -- one more byte is written, and t0 goes on
  abbrev fill_next : State → (at value : ℕ) → State
  fill_next s at value = record s { registers = set_reg s.registers t0 (address (suc at)); bytes = with_byte s.bytes at value }

  fill_one : (s : State) (at value : ℕ) → s.pc ≡ place i → reg s.registers t0 ≡ address at → reg s.registers t0 ≢ reg s.registers t2 → reg s.registers t1 ≡ value → at < length s.bytes.memory → FitWindows s.bytes → Reaches code 4 s (fill_next s at value)
  unfolding is_taken computed
  fill_one s at value here t0_is more t1_is inside fit =
      let s1 = moved s 1 in
      let s2 : State = record s1 { pc = s1.pc + 4; bytes = with_byte s.bytes at value } in
      let s3 : State = record s2 { registers = set_reg s.registers t0 (address (suc at)); pc = s2.pc + 4 } in
      let small = fit Memory in
      let one = passes code s i here Beq t0 t2 (forward 16) (has.0, tt) (ne_eqb (reg s.registers t0) (reg s.registers t2) more) in
      let put_there : stored s.bytes Sb (plus (reg s.registers t0) (i_value 0)) (reg s.registers t1) ≡ Some (with_byte s.bytes at value) =
      ap (stored s.bytes Sb (plus (reg s.registers t0) (i_value 0))) t1_is ∙ byte_stored s.bytes (reg s.registers t0) at value t0_is inside fit in
      let two = one_step code s1 s2 (suc i) (Store Sb t0 t1 0) (omega arith) has.1.0 (ap (store s1) put_there) in
      let next : plus (reg s.registers t0) (i_value 1) ≡ address (suc at) = omega arith in
      let three = one_step code s2 s3 (suc (suc i)) (Imm Addi t0 t0 1) (omega arith) has.1.1.0 (ap (gives s2 t0) next) in
      let four = jumps code s3 (suc (suc (suc i))) (omega arith) (jump_back 12) s.pc (has.1.1.1.0, tt) (omega arith) (omega arith) in
      Reaches-then (Reaches-then (Reaches-then one two) three) four

  pub fill_does : (n : ℕ) (s : State) (at value : ℕ) → s.pc ≡ place i → reg s.registers t0 ≡ address at → reg s.registers t2 ≡ address (at + n) → reg s.registers t1 ≡ value → at + n ≤ length s.bytes.memory → FitWindows s.bytes → Does code (4 * n + 1) 4 s (filled n at value s.bytes)
  unfolding is_taken
  fill_does zero s at value here t0_is t2_is t1_is inside fit =
      let same : reg s.registers t0 ≡ reg s.registers t2 = omega arith in
      taken_does code s i here Beq t0 t2 (forward 16) 4 (has.0, tt) (eq-eqb (reg s.registers t0) (reg s.registers t2) same) (omega arith)
  fill_does (suc n) s at value here t0_is t2_is t1_is inside fit =
      let more : reg s.registers t0 ≢ reg s.registers t2 = λ e. absurd (omega (arith, e)) in
      let size = byte_size s.bytes at value Memory (omega arith) in
      let first = fill_one s at value here t0_is more t1_is (omega arith) fit in
      let s' = fill_next s at value in
      let rest = fill_does n s' (suc at) value here refl (omega arith) t1_is (omega arith) (byte_windows s.bytes at value (omega arith) fit) in
      let count : 4 + (4 * n + 1) ≡ 4 * suc n + 1 = omega arith in
      record {
        end = rest.end;
        reaches = subst (λ (k : ℕ). Reaches code k s rest.end) count (Reaches-then first rest.reaches);
        pc_is = rest.pc_is;
        bytes_are = rest.bytes_are;
        others = λ q kept. rest.others q kept ∙ other_registers_stay s.registers t0 q (address (suc at)) (apart q t0 kept refl);
      }

-- ---- moving upward, from a region

abbrev pub moved_up : Region → (n to from : ℕ) → Bytes → Bytes
moved_up r zero to from b = b
moved_up r (suc n) to from b = moved_up r n (suc to) (suc from) (with_byte b to (value_at 1 from (region b r)))

module _ (code : List (Option Op)) (i exit out : ℕ) (leads : b_value (forward exit) ≡ 4 * out) (r : Region) (has : HasAt code i (up_loop exit)) (near : i < 2 ^ 26) (few : out < 2 ^ 10) where
  abbrev up_next : State → (to from : ℕ) → State
  up_next s to from =
      let value = value_at 1 from (region s.bytes r) in
      record s { registers = set_reg (set_reg (set_reg s.registers t3 value) t0 (address (suc to))) t1 (region_base r + suc from); bytes = with_byte s.bytes to value }

  up_one : (s : State) (to from : ℕ) → s.pc ≡ place i → reg s.registers t0 ≡ address to → reg s.registers t1 ≡ region_base r + from → reg s.registers t0 ≢ reg s.registers t2 → to < length s.bytes.memory → from < length (region s.bytes r) → FitWindows s.bytes → Reaches code 6 s (up_next s to from)
  unfolding is_taken computed
  up_one s to from here t0_is t1_is more inside within fit =
      let value = value_at 1 from (region s.bytes r) in
      let s1 = moved s 1 in
      let s2 : State = record s1 { registers = set_reg s.registers t3 value; pc = s1.pc + 4 } in
      let s3 : State = record s2 { pc = s2.pc + 4; bytes = with_byte s.bytes to value } in
      let s4 : State = record s3 { registers = set_reg s3.registers t0 (address (suc to)); pc = s3.pc + 4 } in
      let s5 : State = record s4 { registers = set_reg s4.registers t1 (region_base r + suc from); pc = s4.pc + 4 } in
      let small = fit Memory in
      let small' = fit r in
      let low = base_small r in
      let one = passes code s i here Beq t0 t2 (forward exit) (has.0, tt) (ne_eqb (reg s.registers t0) (reg s.registers t2) more) in
      let source : plus (reg s.registers t1) (i_value 0) ≡ region_base r + from = omega arith in
      let got : loaded s.bytes Lbu (plus (reg s.registers t1) (i_value 0)) ≡ Some value = ap (loaded s.bytes Lbu) source ∙ loaded_at s.bytes Lbu r from (omega arith) small' in
      let two = one_step code s1 s2 (suc i) (Load Lbu t3 t1 0) (omega arith) has.1.0 (ap (load s1 t3) got) in
      let three = one_step code s2 s3 (suc (suc i)) (Store Sb t0 t3 0) (omega arith) has.1.1.0 (ap (store s2) (byte_stored s.bytes (reg s.registers t0) to value t0_is inside fit)) in
      let next : plus (reg s.registers t0) (i_value 1) ≡ address (suc to) = omega arith in
      let four = one_step code s3 s4 (suc (suc (suc i))) (Imm Addi t0 t0 1) (omega arith) has.1.1.1.0 (ap (gives s3 t0) next) in
      let next' : plus (reg s.registers t1) (i_value 1) ≡ region_base r + suc from = omega arith in
      let five = one_step code s4 s5 (suc (suc (suc (suc i)))) (Imm Addi t1 t1 1) (omega arith) has.1.1.1.1.0 (ap (gives s4 t1) next') in
      let six = jumps code s5 (suc (suc (suc (suc (suc i))))) (omega arith) (jump_back 20) s.pc (has.1.1.1.1.1.0, tt) (omega arith) (omega arith) in
      Reaches-then (Reaches-then (Reaches-then (Reaches-then (Reaches-then one two) three) four) five) six

  pub up_does : (n : ℕ) (s : State) (to from : ℕ) → s.pc ≡ place i → reg s.registers t0 ≡ address to → reg s.registers t1 ≡ region_base r + from → reg s.registers t2 ≡ address (to + n) → to + n ≤ length s.bytes.memory → from + n ≤ length (region s.bytes r) → FitWindows s.bytes → Does code (6 * n + 1) out s (moved_up r n to from s.bytes)
  unfolding is_taken
  up_does zero s to from here t0_is t1_is t2_is inside within fit =
      let same : reg s.registers t0 ≡ reg s.registers t2 = omega arith in
      taken_does code s i here Beq t0 t2 (forward exit) out (has.0, tt) (eq-eqb (reg s.registers t0) (reg s.registers t2) same) (omega (arith, leads))
  up_does (suc n) s to from here t0_is t1_is t2_is inside within fit =
      let more : reg s.registers t0 ≢ reg s.registers t2 = λ e. absurd (omega (arith, e)) in
      let value = value_at 1 from (region s.bytes r) in
      let size = byte_size s.bytes to value Memory (omega arith) in
      let size' = byte_size s.bytes to value r (omega arith) in
      let first = up_one s to from here t0_is t1_is more (omega arith) (omega arith) fit in
      let s' = up_next s to from in
      let rest = up_does n s' (suc to) (suc from) here refl refl (omega arith) (omega arith) (omega arith) (byte_windows s.bytes to value (omega arith) fit) in
      let count : 6 + (6 * n + 1) ≡ 6 * suc n + 1 = omega arith in
      record {
        end = rest.end;
        reaches = subst (λ (k : ℕ). Reaches code k s rest.end) count (Reaches-then first rest.reaches);
        pc_is = rest.pc_is;
        bytes_are = rest.bytes_are;
        others = λ q kept.
            rest.others q kept
            ∙ other_registers_stay (set_reg (set_reg s.registers t3 value) t0 (address (suc to))) t1 q (region_base r + suc from) (apart q t1 kept refl)
            ∙ other_registers_stay (set_reg s.registers t3 value) t0 q (address (suc to)) (apart q t0 kept refl)
            ∙ other_registers_stay s.registers t3 q value (apart q t3 kept refl);
      }

-- ---- moving downward, within the memory

abbrev pub moved_down : (n to from : ℕ) → Bytes → Bytes
moved_down zero to from b = b
moved_down (suc n) to from b = moved_down n to from (with_byte b (to + n) (value_at 1 (from + n) b.memory))

module _ (code : List (Option Op)) (i : ℕ) (has : HasAt code i down_loop) (near : i < 2 ^ 26) where
  abbrev down_next : State → (n to from : ℕ) → State
  down_next s n to from =
      let value = value_at 1 (from + n) s.bytes.memory in
      record s { registers = set_reg (set_reg (set_reg (set_reg s.registers t0 (address (to + n))) t1 (address (from + n))) t3 value) t2 n; bytes = with_byte s.bytes (to + n) value }

  down_one : (s : State) (n to from : ℕ) → s.pc ≡ place i → reg s.registers t0 ≡ address (to + suc n) → reg s.registers t1 ≡ address (from + suc n) → reg s.registers t2 ≡ suc n → to + n < length s.bytes.memory → from + n < length s.bytes.memory → FitWindows s.bytes → Reaches code 7 s (down_next s n to from)
  unfolding is_taken computed
  down_one s n to from here t0_is t1_is t2_is inside within fit =
      let value = value_at 1 (from + n) s.bytes.memory in
      let s1 = moved s 1 in
      let s2 : State = record s1 { registers = set_reg s1.registers t0 (address (to + n)); pc = s1.pc + 4 } in
      let s3 : State = record s2 { registers = set_reg s2.registers t1 (address (from + n)); pc = s2.pc + 4 } in
      let s4 : State = record s3 { registers = set_reg s3.registers t3 value; pc = s3.pc + 4 } in
      let s5 : State = record s4 { pc = s4.pc + 4; bytes = with_byte s.bytes (to + n) value } in
      let s6 : State = record s5 { registers = set_reg s5.registers t2 n; pc = s5.pc + 4 } in
      let small = fit Memory in
      let more : reg s.registers t2 ≢ 0 = λ e. absurd (omega (arith, e)) in
      let one = passes code s i here Beq t2 x0 (forward 28) (has.0, tt) (ne_eqb (reg s.registers t2) 0 more) in
      let next : plus (reg s.registers t0) (i_value minus_one) ≡ address (to + n) = omega arith in
      let two = one_step code s1 s2 (suc i) (Imm Addi t0 t0 minus_one) (omega arith) has.1.0 (ap (gives s1 t0) next) in
      let next' : plus (reg s.registers t1) (i_value minus_one) ≡ address (from + n) = omega arith in
      let three = one_step code s2 s3 (suc (suc i)) (Imm Addi t1 t1 minus_one) (omega arith) has.1.1.0 (ap (gives s2 t1) next') in
      let source : plus (address (from + n)) (i_value 0) ≡ region_base Memory + (from + n) = omega arith in
      let got : loaded s.bytes Lbu (plus (address (from + n)) (i_value 0)) ≡ Some value = ap (loaded s.bytes Lbu) source ∙ loaded_at s.bytes Lbu Memory (from + n) (omega arith) small in
      let four = one_step code s3 s4 (suc (suc (suc i))) (Load Lbu t3 t1 0) (omega arith) has.1.1.1.0 (ap (load s3 t3) got) in
      let five = one_step code s4 s5 (suc (suc (suc (suc i)))) (Store Sb t0 t3 0) (omega arith) has.1.1.1.1.0 (ap (store s4) (byte_stored s.bytes (address (to + n)) (to + n) value refl inside fit)) in
      let left : plus (reg s.registers t2) (i_value minus_one) ≡ n = omega arith in
      let six = one_step code s5 s6 (suc (suc (suc (suc (suc i))))) (Imm Addi t2 t2 minus_one) (omega arith) has.1.1.1.1.1.0 (ap (gives s5 t2) left) in
      let seven = jumps code s6 (suc (suc (suc (suc (suc (suc i)))))) (omega arith) (jump_back 24) s.pc (has.1.1.1.1.1.1.0, tt) (omega arith) (omega arith) in
      Reaches-then (Reaches-then (Reaches-then (Reaches-then (Reaches-then (Reaches-then one two) three) four) five) six) seven

  pub down_does : (n : ℕ) (s : State) (to from : ℕ) → s.pc ≡ place i → reg s.registers t0 ≡ address (to + n) → reg s.registers t1 ≡ address (from + n) → reg s.registers t2 ≡ n → to + n ≤ length s.bytes.memory → from + n ≤ length s.bytes.memory → FitWindows s.bytes → Does code (7 * n + 1) 7 s (moved_down n to from s.bytes)
  unfolding is_taken
  down_does zero s to from here t0_is t1_is t2_is inside within fit =
      taken_does code s i here Beq t2 x0 (forward 28) 7 (has.0, tt) (eq-eqb (reg s.registers t2) 0 t2_is) (omega arith)
  down_does (suc n) s to from here t0_is t1_is t2_is inside within fit =
      let value = value_at 1 (from + n) s.bytes.memory in
      let size = byte_size s.bytes (to + n) value Memory (omega arith) in
      let first = down_one s n to from here t0_is t1_is t2_is (omega arith) (omega arith) fit in
      let s' = down_next s n to from in
      let rest = down_does n s' to from here refl refl refl (omega arith) (omega arith) (byte_windows s.bytes (to + n) value (omega arith) fit) in
      let count : 7 + (7 * n + 1) ≡ 7 * suc n + 1 = omega arith in
      let r1 = set_reg s.registers t0 (address (to + n)) in
      let r2 = set_reg r1 t1 (address (from + n)) in
      let r3 = set_reg r2 t3 value in
      record {
        end = rest.end;
        reaches = subst (λ (k : ℕ). Reaches code k s rest.end) count (Reaches-then first rest.reaches);
        pc_is = rest.pc_is;
        bytes_are = rest.bytes_are;
        others = λ q kept.
            rest.others q kept
            ∙ other_registers_stay r3 t2 q n (apart q t2 kept refl)
            ∙ other_registers_stay r2 t3 q value (apart q t3 kept refl)
            ∙ other_registers_stay r1 t1 q (address (from + n)) (apart q t1 kept refl)
            ∙ other_registers_stay s.registers t0 q (address (to + n)) (apart q t0 kept refl);
      }
