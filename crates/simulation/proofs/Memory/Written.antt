-- Bytes that are written into the memory: the language's list and the machine's.
use Rattle.std.proofs.Common.{◌≡◌, ℕ, ◌+◌, ◌/◌, ◌%◌, ◌^◌, ◌<◌, ◌≤◌, List, [], ◌∷◌, ◌++◌, take, drop, length, sym, ap, ap₂, ◌∙◌, arith, length-append, length-take, length-drop, append_assoc}
use Rattle.std.proofs.lemmas.List.{take-take, drop-drop, length-take-le, take-append-drop, drop-append-le}
use Rattle.rv_isa.specs.Steps.{le_bytes, put}
use Rattle.rv_isa.proofs.ByteLaws.{length-le_bytes}
use Rattle.wasm_defs.specs.declared.types.ValType.TheVariants.{I32}
use Rattle.wasm_defs.specs.declared.operation.StoreOp.{StoreOp}
use Rattle.wasm_defs.specs.declared.operation.StoreOp.TheVariants.{I32Store, I64Store, I32Store8, I32Store16, I64Store8, I64Store16, I64Store32}
use Rattle.wasm_defs.specs.Typing.{store_type}
use Rattle.wasm_defs.specs.Values.{modulus, word}
use Rattle.wasm_defs.specs.Memory.{bytes_of, store_count}
use Rattle.simulation.proofs.Memory.Parts.{bytes_are}
use Rattle.frame_layout.proofs.WordLaws.{low_word}

-- ---- the low bytes of an instruction word

bytes_1 : (x y : ℕ) → x % 2 ^ 32 ≡ y → le_bytes 1 x ≡ le_bytes 1 y
bytes_1 x y e =
    let a : x % 256 ≡ y % 256 = omega arith in
    ap (λ (p : ℕ). p ∷ []) a

bytes_2 : (x y : ℕ) → x % 2 ^ 32 ≡ y → le_bytes 2 x ≡ le_bytes 2 y
bytes_2 x y e =
    let a : x % 256 ≡ y % 256 = omega arith in
    let b : x / 256 % 256 ≡ y / 256 % 256 = omega arith in
    ap₂ (λ (p q : ℕ). p ∷ q ∷ []) a b

bytes_4 : (x y : ℕ) → x % 2 ^ 32 ≡ y → le_bytes 4 x ≡ le_bytes 4 y
bytes_4 x y e =
    let a : x % 256 ≡ y % 256 = omega arith in
    let b : x / 256 % 256 ≡ y / 256 % 256 = omega arith in
    let c : x / 256 / 256 % 256 ≡ y / 256 / 256 % 256 = omega arith in
    let d : x / 256 / 256 / 256 % 256 ≡ y / 256 / 256 / 256 % 256 = omega arith in
    ap₂ (λ (p q : ℕ). p ∷ q ∷ x / 256 / 256 % 256 ∷ x / 256 / 256 / 256 % 256 ∷ []) a b
    ∙ ap₂ (λ (p q : ℕ). y % 256 ∷ y / 256 % 256 ∷ p ∷ q ∷ []) c d

pub stored_bytes : (o : StoreOp) (b : ℕ) → b < modulus (store_type o) → le_bytes (store_count o) (word (store_type o) b) ≡ bytes_of (store_count o) b
stored_bytes I32Store b small = bytes_4 (word I32 b) b (low_word b small) ∙ sym (bytes_are 4 b)
stored_bytes I64Store b small = sym (bytes_are 8 b)
stored_bytes I32Store8 b small = bytes_1 (word I32 b) b (low_word b small) ∙ sym (bytes_are 1 b)
stored_bytes I32Store16 b small = bytes_2 (word I32 b) b (low_word b small) ∙ sym (bytes_are 2 b)
stored_bytes I64Store8 b small = sym (bytes_are 1 b)
stored_bytes I64Store16 b small = sym (bytes_are 2 b)
stored_bytes I64Store32 b small = sym (bytes_are 4 b)

pub length-bytes_of : (count n : ℕ) → length (bytes_of count n) ≡ count
length-bytes_of count n = ap length (bytes_are count n) ∙ length-le_bytes count n

-- ---- lists

-- bytes written over the first ones of a list
abbrev pub over_part : (place size : ℕ) → (new l : List ℕ) → List ℕ
over_part place size new l = take place (take size l) ++ (new ++ drop (place + length new) (take size l))

pub over_part_size : (place size : ℕ) (new l : List ℕ) → place + length new ≤ size → size ≤ length l → length (over_part place size new l) ≡ size
over_part_size place size new l inside whole =
    omega (arith, length-append (take place (take size l)) (new ++ drop (place + length new) (take size l)), length-append new (drop (place + length new) (take size l)), length-take place (take size l), length-drop (place + length new) (take size l), length-take-le size l whole)

-- with what is after them, they are the machine's
pub over_part_is : (place size : ℕ) (new l : List ℕ) → place + length new ≤ size → size ≤ length l → put (length new) place l new ≡ over_part place size new l ++ drop size l
over_part_is place size new l inside whole =
    let k = place + length new in
    let first : take place l ≡ take place (take size l) = sym (take-take place size l (omega arith)) in
    let fits : k ≤ length (take size l) = omega (arith, length-take-le size l whole) in
    let rest : drop (length new) (drop place l) ≡ drop k (take size l) ++ drop size l =
    drop-drop (length new) place l ∙ ap (drop k) (sym (take-append-drop size l)) ∙ drop-append-le k (take size l) (drop size l) fits in
    ap₂ (λ (xs ys : List ℕ). xs ++ (new ++ ys)) first rest
    ∙ ap (λ (ys : List ℕ). take place (take size l) ++ ys) (sym (append_assoc new (drop k (take size l)) (drop size l)))
    ∙ sym (append_assoc (take place (take size l)) (new ++ drop k (take size l)) (drop size l))
