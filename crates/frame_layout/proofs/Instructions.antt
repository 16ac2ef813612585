-- What the instruction words of instructions do.
use Rattle.std.proofs.Common.{◌≡◌, ℕ, ◌+◌, ◌-◌, ◌%◌, ◌^◌, ◌==◌, ◌<◌, true, List, [], ◌∷◌, ◌++◌, Option, refl, ap, ap₂, ◌∙◌, arith}
use Rattle.rv_isa.specs.declared.operations.RegOpW.TheVariants.{Addw}
use Rattle.rv_isa.specs.declared.operations.Op.{Op}
use Rattle.rv_isa.specs.declared.operations.Op.TheVariants.{RegW}
use Rattle.rv_isa.specs.Values.{extended, computed_w, computed_word}
use Rattle.rv_isa.specs.Steps.{Registers, reg, Bytes, State}
use Rattle.rv_isa.specs.Runs.{place, HasAt, computes, after_one, Leaves}
use Rattle.wasm_defs.specs.declared.types.ValType.TheVariants.{I32, I64}
use Rattle.wasm_defs.specs.Values.{word}
use Rattle.wasm_defs.specs.Integers.{iadd}
use Rattle.wasm_defs.specs.Configurations.{max_slots}
use Rattle.frame_layout.specs.Slots.{operand}
use Rattle.frame_layout.specs.Macros.{t0, t1, load_slot, store_slot, const_32, const_64}
use Rattle.frame_layout.specs.Templates.{load_operand, store_operand}
use Rattle.frame_layout.specs.Laws.{slot_at, with_slot, IsFrame, Does, ConstLaw, LocalGetLaw, AddLaw}
use Rattle.frame_layout.proofs.Standing.{has_first, has_rest}
use Rattle.frame_layout.proofs.Constants.{block_leaves, const_word_leaves, const_64_leaves}
use Rattle.frame_layout.proofs.SlotLaws.{load_slot_leaves, store_slot_leaves}
use Rattle.frame_layout.proofs.Steps.{does_leave, does_then, does_with, frame_stays}
use Rattle.frame_layout.proofs.WordLaws.{low_word}

-- what t0 holds then goes to a slot of the frame
pub stored_does : (code : List (Option Op)) (s : State) (i steps count base k v : ℕ) → (first : Does code steps count s s.bytes) → reg first.end.registers t0 ≡ v → HasAt code i (store_slot t0 k) → first.end.pc ≡ place i → IsFrame base s → base + k < max_slots → Does code (steps + 3) (count + 3) s (with_slot s.bytes (base + k) v)
stored_does code s i steps count base k v first is has at frame inside =
    let second = store_slot_leaves code first.end i base t0 k has at (frame_stays frame first) (λ e. absurd cc) inside in
    let same : with_slot first.end.bytes (base + k) (reg first.end.registers t0) ≡ with_slot s.bytes (base + k) v = ap₂ (λ (b : Bytes) (x : ℕ). with_slot b (base + k) x) first.bytes_are is in
    does_then first (does_with same (does_leave refl second))

-- ---- constants

pub const_does : ConstLaw
const_does w code s i base h I32 n has at frame small inside =
    let front = const_32 t0 (word I32 n) in
    let given = const_word_leaves code s i t0 n (has_first code i front (store_operand w t0 h) has) at (λ e. absurd cc) small in
    let pc_is = given.pc_is in
    stored_does code s (i + 5) 5 5 base (operand w.layout h) (word I32 n) (does_leave refl given) given.value_is (has_rest code i front (store_operand w t0 h) has) (omega arith) frame inside
const_does w code s i base h I64 n has at frame small inside =
    let front = const_64 t0 n in
    let given = const_64_leaves code s i t0 n (has_first code i front (store_operand w t0 h) has) at (λ e. absurd cc) small in
    let pc_is = given.pc_is in
    stored_does code s (i + 11) 11 11 base (operand w.layout h) n (does_leave refl given) given.value_is (has_rest code i front (store_operand w t0 h) has) (omega arith) frame inside

-- ---- variables

-- a slot is copied to another
pub copied_does : (code : List (Option Op)) (s : State) (i base j k : ℕ) → HasAt code i (load_slot t0 j ++ store_slot t0 k) → s.pc ≡ place i → IsFrame base s → base + j < max_slots → base + k < max_slots → Does code 6 6 s (with_slot s.bytes (base + k) (slot_at s.bytes (base + j)))
copied_does code s i base j k has at frame near inside =
    let given = load_slot_leaves code s i base t0 j (has_first code i (load_slot t0 j) (store_slot t0 k) has) at frame (λ e. absurd cc) (λ e. absurd cc) near in
    let pc_is = given.pc_is in
    stored_does code s (i + 3) 3 3 base k (slot_at s.bytes (base + j)) (does_leave refl given) given.value_is (has_rest code i (load_slot t0 j) (store_slot t0 k) has) (omega arith) frame inside

pub local_get_does : LocalGetLaw
local_get_does w code s i base h x has at frame near inside =
    copied_does code s i base x (operand w.layout h) has at frame near inside

-- ---- numbers

-- the machine's sum of two words is the word of the sum
add_word : (a b : ℕ) → a < 2 ^ 32 → b < 2 ^ 32 → computed_w Addw (word I32 a) (word I32 b) ≡ word I32 (iadd I32 a b)
unfolding computed_word
add_word a b small small' =
    ap₂ (λ (x y : ℕ). extended 32 ((x + y) % 2 ^ 32)) (low_word a small) (low_word b small')

-- two operands, in t0 and t1
pub record Operands (code : List (Option Op)) (s : State) (x y : ℕ) : Type 0 where
  pub does : Does code 6 6 s s.bytes
  pub first : reg does.end.registers t0 ≡ x
  pub second : reg does.end.registers t1 ≡ y

second_loads : (code : List (Option Op)) (s : State) (i base k x : ℕ) → (one : Leaves code 3 s s.bytes t0 x) → HasAt code (i + 3) (load_slot t1 k) → s.pc ≡ place i → IsFrame base s → base + k < max_slots → Operands code s x (slot_at s.bytes (base + k))
second_loads code s i base k x one has at frame near =
    let pc_is = one.pc_is in
    let first = does_leave refl one in
    let two = load_slot_leaves code one.end (i + 3) base t1 k has (omega arith) (frame_stays frame first) (λ e. absurd cc) (λ e. absurd cc) near in
    record {
      does = does_then first (does_with one.bytes_are (does_leave refl two));
      first = two.others t0 (λ e. absurd cc) ∙ one.value_is;
      second = two.value_is ∙ ap (λ (b : Bytes). slot_at b (base + k)) one.bytes_are;
    }

pub operands_load : (code : List (Option Op)) (s : State) (i base j k : ℕ) → HasAt code i (load_slot t0 j) → HasAt code (i + 3) (load_slot t1 k) → s.pc ≡ place i → IsFrame base s → base + j < max_slots → base + k < max_slots → Operands code s (slot_at s.bytes (base + j)) (slot_at s.bytes (base + k))
operands_load code s i base j k has has' at frame near near' =
    let one = load_slot_leaves code s i base t0 j has at frame (λ e. absurd cc) (λ e. absurd cc) near in
    second_loads code s i base k (slot_at s.bytes (base + j)) one has' at frame near'

-- an operation on t0 and t1 into t0, and the result to a slot
pub operated_does : (code : List (Option Op)) (s : State) (op : Op) (i base k x y v : ℕ) → Operands code s x y → HasAt code (i + 6) (op ∷ []) → HasAt code (i + 7) (store_slot t0 k) → s.pc ≡ place i → IsFrame base s → base + k < max_slots → computes (λ q. q == t0) op ≡ true → ((registers : Registers) → reg registers t0 ≡ x → reg registers t1 ≡ y → reg (after_one op registers) t0 ≡ v) → Does code 10 10 s (with_slot s.bytes (base + k) v)
operated_does code s op i base k x y v given has has' at frame near alone is =
    let does = given.does in
    let pc_is = does.pc_is in
    let one = block_leaves code (op ∷ []) (i + 6) does.end t0 v (rw alone refl) has (omega arith) (is does.end.registers given.first given.second) in
    let pc_one = one.pc_is in
    let both = does_then does (does_with does.bytes_are (does_leave refl one)) in
    stored_does code s (i + 7) 7 7 base k v both one.value_is has' (omega arith) frame near

pub add_does : AddLaw
add_does w code s i base h a b has at frame two inside small small' a_is b_is =
    let near : base + operand w.layout (h - 2) < max_slots = omega arith in
    let op = RegW Addw t0 t0 t1 in
    let one = load_operand w t0 (h - 2) in
    let other = load_operand w t1 (h - 1) in
    let store = store_operand w t0 (h - 2) in
    let has_other = has_first code (i + 3) other (op ∷ store) (has_rest code i one (other ++ (op ∷ store)) has) in
    let has_op = has_first code (i + 6) (op ∷ []) store (has_rest code i (one ++ other) (op ∷ store) has) in
    let has_store = has_rest code i (one ++ (other ++ (op ∷ []))) store has in
    let given = operands_load code s i base (operand w.layout (h - 2)) (operand w.layout (h - 1)) (has_first code i one (other ++ (op ∷ store)) has) has_other at frame near inside in
    let sum = λ (registers : Registers) (x : reg registers t0 ≡ _) (y : reg registers t1 ≡ _). ap₂ (computed_w Addw) (x ∙ a_is) (y ∙ b_is) ∙ add_word a b small small' in
    operated_does code s op i base (operand w.layout (h - 2)) _ _ (word I32 (iadd I32 a b)) given has_op has_store at frame near refl sum
