-- Bytes of the memory that the machine reads and writes, as lists.
use Rattle.std.proofs.Common.{◌≡◌, ℕ, zero, suc, ◌+◌, ◌-◌, ◌*◌, ◌/◌, ◌%◌, ◌^◌, ◌<◌, ◌≤◌, Bool, true, false, nat_le, if◌then◌else◌, List, [], ◌∷◌, take, drop, length, None, Some, pos, negsuc, inl, inr, refl, sym, ap, subst, ◌∙◌, arith}
use Rattle.std.specs.Int.{w8, w16, w32, cast_signed}
use Rattle.std.proofs.lemmas.Bool.{cases_lt, lt-ltb, le-ltb, leb-true}
use Rattle.std.proofs.lemmas.List.{drop-take, take-take}
use Rattle.rv_isa.specs.Values.{load_width, load_value, store_width}
use Rattle.rv_isa.specs.Values as machine
use Rattle.rv_isa.specs.Steps.{le_value, le_bytes}
use Rattle.rv_isa.specs.Runs.{AreBytes}
use Rattle.rv_isa.proofs.ByteLaws.{value_at_small}
use Rattle.wasm_defs.specs.declared.types.ValType.{ValType}
use Rattle.wasm_defs.specs.declared.types.ValType.TheVariants.{I32, I64}
use Rattle.wasm_defs.specs.declared.operation.LoadOp.{LoadOp}
use Rattle.wasm_defs.specs.declared.operation.LoadOp.TheVariants.{I32Load, I64Load, I32Load8S, I32Load8U, I32Load16S, I32Load16U, I64Load8S, I64Load8U, I64Load16S, I64Load16U, I64Load32S, I64Load32U}
use Rattle.wasm_defs.specs.declared.operation.StoreOp.{StoreOp}
use Rattle.wasm_defs.specs.declared.operation.StoreOp.TheVariants.{I32Store}
use Rattle.wasm_defs.specs.Typing.{load_type}
use Rattle.wasm_defs.specs.Values.{modulus, unsigned, word}
use Rattle.wasm_defs.specs.Memory.{number_of, bytes_of, load_count, store_count, extended}
use Rattle.frame_layout.specs.Templates.{EmitContext, machine_load, machine_store}
use Rattle.simulation.specs.MemoryLaws.{LoadRangeLaw}
use Rattle.simulation.proofs.Integers.SignExtensions.{below_8, below_16, below_32}

-- ---- numbers of bytes: the language's and the machine's

pub number_is : (bytes : List ℕ) → number_of bytes ≡ le_value bytes
number_is [] = refl
number_is (b ∷ bytes) = ap (λ (n : ℕ). b + 256 * n) (number_is bytes)

pub bytes_are : (count n : ℕ) → bytes_of count n ≡ le_bytes count n
bytes_are zero n = refl
bytes_are (suc count) n = ap (λ (bytes : List ℕ). n % 256 ∷ bytes) (bytes_are count (n / 256))

-- ---- a part of the first bytes

pub part_is : (place count size : ℕ) (l : List ℕ) → place + count ≤ size → take count (drop place (take size l)) ≡ take count (drop place l)
part_is place count size l inside =
    let rest = size - place in
    let split : place + rest ≡ size = omega arith in
    ap (λ (n : ℕ). take count (drop place (take n l))) (sym split)
    ∙ ap (take count) (drop-take place rest l)
    ∙ take-take count rest (drop place l) (omega arith)

-- ---- how many bytes

pub load_width_is : (w : EmitContext) (op : LoadOp) → load_width (machine_load w op) ≡ load_count op
load_width_is w I32Load = refl
load_width_is w p = refl

pub load_count_few : (op : LoadOp) → load_count op ≤ 8
load_count_few I32Load = omega arith
load_count_few p = omega arith

pub store_width_is : (w : EmitContext) (op : StoreOp) → store_width (machine_store w op) ≡ store_count op
store_width_is w I32Store = refl
store_width_is w p = refl

pub store_count_few : (op : StoreOp) → store_count op ≤ 8
store_count_few I32Store = omega arith
store_count_few p = omega arith

-- ---- the instruction word of what is loaded

word_small : (t : ValType) (n : ℕ) → n < 2 ^ 31 → word t n ≡ n
word_small I32 n h = rw (lt-ltb n (2 ^ 31) h) refl
word_small I64 n h = refl

word_pos : (t : ValType) (n : ℕ) → n < 2 ^ 31 → word t (unsigned t (pos n)) ≡ n
word_pos I32 n h = rw (lt-ltb n (2 ^ 31) h) refl
word_pos I64 n h = refl

word_neg : (t : ValType) (n : ℕ) → n < 2 ^ 31 → word t (unsigned t (negsuc n)) ≡ 2 ^ 64 - suc n
word_neg I32 n h = rw (le-ltb (2 ^ 32 - suc n) (2 ^ 31) (omega arith)) (omega arith)
word_neg I64 n h = refl

extended_8 : (t : ValType) (n : ℕ) → n < 2 ^ 8 → machine.extended 8 n ≡ word t (unsigned t (cast_signed w8 n))
extended_8 t n small =
    elim (cases_lt n (2 ^ 7)) [
      | inl h ↦ rw (lt-ltb n (2 ^ 7) h) (sym (word_pos t n (omega arith)))
      | inr h ↦ rw (le-ltb n (2 ^ 7) h) (omega (arith, word_neg t (2 ^ 8 - suc n) (omega arith)))
    ]

extended_16 : (t : ValType) (n : ℕ) → n < 2 ^ 16 → machine.extended 16 n ≡ word t (unsigned t (cast_signed w16 n))
extended_16 t n small =
    elim (cases_lt n (2 ^ 15)) [
      | inl h ↦ rw (lt-ltb n (2 ^ 15) h) (sym (word_pos t n (omega arith)))
      | inr h ↦ rw (le-ltb n (2 ^ 15) h) (omega (arith, word_neg t (2 ^ 16 - suc n) (omega arith)))
    ]

extended_32 : (n : ℕ) → n < 2 ^ 32 → machine.extended 32 n ≡ unsigned I64 (cast_signed w32 n)
extended_32 n small =
    elim (cases_lt n (2 ^ 31)) [
      | inl h ↦ rw (lt-ltb n (2 ^ 31) h) refl
      | inr h ↦ rw (le-ltb n (2 ^ 31) h) (omega arith)
    ]

pub loaded_word : (w : EmitContext) (op : LoadOp) (n : ℕ) → n < 256 ^ load_count op → load_value (machine_load w op) n ≡ word (load_type op) (extended op n)
loaded_word w I32Load n small = refl
loaded_word w I64Load n small = refl
loaded_word w I32Load8S n small = extended_8 I32 n small
loaded_word w I32Load8U n small = sym (word_small I32 n (omega arith))
loaded_word w I32Load16S n small = extended_16 I32 n small
loaded_word w I32Load16U n small = sym (word_small I32 n (omega arith))
loaded_word w I64Load8S n small = extended_8 I64 n small
loaded_word w I64Load8U n small = refl
loaded_word w I64Load16S n small = extended_16 I64 n small
loaded_word w I64Load16U n small = refl
loaded_word w I64Load32S n small = extended_32 n small
loaded_word w I64Load32U n small = refl

-- ---- the range of what is loaded

extended_below : (op : LoadOp) (n : ℕ) → n < 256 ^ load_count op → extended op n < modulus (load_type op)
extended_below I32Load n small = small
extended_below I64Load n small = small
extended_below I32Load8S n small = below_8 I32 n small
extended_below I32Load8U n small = omega arith
extended_below I32Load16S n small = below_16 I32 n small
extended_below I32Load16U n small = omega arith
extended_below I64Load8S n small = below_8 I64 n small
extended_below I64Load8U n small = omega arith
extended_below I64Load16S n small = below_16 I64 n small
extended_below I64Load16U n small = omega arith
extended_below I64Load32S n small = below_32 n small
extended_below I64Load32U n small = omega arith

range_by : (op : LoadOp) (memory bytes : List ℕ) (at : ℕ) (t : Bool) → AreBytes memory → nat_le (at + load_count op) (length memory) ≡ t → (if t then Some (take (load_count op) (drop at memory)) else None) ≡ Some bytes → extended op (number_of bytes) < modulus (load_type op)
range_by op memory bytes at true sound is e =
    let same : take (load_count op) (drop at memory) ≡ bytes = cc in
    let small = value_at_small (load_count op) at memory sound (leb-true (at + load_count op) (length memory) is) in
    subst (λ (l : List ℕ). extended op (number_of l) < modulus (load_type op)) same (extended_below op (number_of (take (load_count op) (drop at memory))) (subst (λ (n : ℕ). n < 256 ^ load_count op) (sym (number_is (take (load_count op) (drop at memory)))) small))
range_by op memory bytes at false sound is e = absurd cc

pub load_range : LoadRangeLaw
load_range op memory bytes at sound e = range_by op memory bytes at _ sound refl e
