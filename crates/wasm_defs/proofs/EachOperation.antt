-- What is true of each row of the table of operations is true of each operation.
use Rattle.std.proofs.Common.{◌≡◌, ℕ, zero, suc, ◌-◌, Bool, true, false, ◌&&◌, eqb, List, [], ◌∷◌, length, Option, None, Some, refl, subst}
use Rattle.std.specs.Prelude.{slice_get}
use Rattle.std.proofs.lemmas.Bool.{and_parts, eqb-true, false≢true}
use Rattle.wasm_defs.specs.declared.types.ValType.TheVariants.{I32, I64}
use Rattle.wasm_defs.specs.declared.operation.UnaryOp.{UnaryOp}
use Rattle.wasm_defs.specs.declared.operation.UnaryOp.TheVariants.{Clz}
use Rattle.wasm_defs.specs.declared.operation.BinaryOp.{BinaryOp}
use Rattle.wasm_defs.specs.declared.operation.BinaryOp.TheVariants.{Add}
use Rattle.wasm_defs.specs.declared.operation.CompareOp.{CompareOp}
use Rattle.wasm_defs.specs.declared.operation.CompareOp.TheVariants.{Eq}
use Rattle.wasm_defs.specs.declared.operation.ConvertOp.{ConvertOp}
use Rattle.wasm_defs.specs.declared.operation.ConvertOp.TheVariants.{Wrap}
use Rattle.wasm_defs.specs.declared.operation.ExtendOp.{ExtendOp}
use Rattle.wasm_defs.specs.declared.operation.ExtendOp.TheVariants.{I32Extend8S}
use Rattle.wasm_defs.specs.declared.operation.Operation.{Operation}
use Rattle.wasm_defs.specs.declared.operation.Operation.TheVariants.{Unary, Test, Binary, Compare, Convert, Extend}
use Rattle.wasm_defs.specs.Opcodes.{operations, operation_code}
use Rattle.wasm_defs.specs.Typing.{operated}

abbrev pub all_rows : (Operation → Bool) → List (Option Operation) → Bool
all_rows p [] = true
all_rows p (None ∷ rows) = all_rows p rows
all_rows p (Some op ∷ rows) = p op && all_rows p rows

at_row : (p : Operation → Bool) (rows : List (Option Operation)) (i : ℕ) (op : Operation) → all_rows p rows ≡ true → slice_get rows i ≡ Some (Some op) → p op ≡ true
at_row p [] i op e h = absurd cc
at_row p (None ∷ rows) zero op e h = absurd cc
at_row p (None ∷ rows) (suc i) op e h = at_row p rows i op e h
at_row p (Some x ∷ rows) zero op e h =
    let here = and_parts (p x) (all_rows p rows) e in
    let same : x ≡ op = cc in
    subst (λ (y : Operation). p y ≡ true) same here.0
at_row p (Some x ∷ rows) (suc i) op e h =
    let here = and_parts (p x) (all_rows p rows) e in
    at_row p rows i op here.1 h

-- an operation's opcode is that of its row: a last clause for all others of a sort computes each of them
abbrev IsAtRow : Operation → Type 0
IsAtRow op = slice_get operations (operation_code op - 0x45) ≡ Some (Some op)

unary_row : (op : UnaryOp) → IsAtRow (Unary I32 op) × IsAtRow (Unary I64 op)
unfolding operation_code
unary_row Clz = (refl, refl)
unary_row op = (refl, refl)

binary_row : (op : BinaryOp) → IsAtRow (Binary I32 op) × IsAtRow (Binary I64 op)
unfolding operation_code
binary_row Add = (refl, refl)
binary_row op = (refl, refl)

compare_row : (op : CompareOp) → IsAtRow (Compare I32 op) × IsAtRow (Compare I64 op)
unfolding operation_code
compare_row Eq = (refl, refl)
compare_row op = (refl, refl)

convert_row : (op : ConvertOp) → IsAtRow (Convert op)
unfolding operation_code
convert_row Wrap = refl
convert_row op = refl

extend_row : (op : ExtendOp) → IsAtRow (Extend op)
unfolding operation_code
extend_row I32Extend8S = refl
extend_row op = refl

pub operation_row : (op : Operation) → slice_get operations (operation_code op - 0x45) ≡ Some (Some op)
unfolding operation_code
operation_row (Test I32) = refl
operation_row (Test I64) = refl
operation_row (Unary I32 op) = (unary_row op).0
operation_row (Unary I64 op) = (unary_row op).1
operation_row (Binary I32 op) = (binary_row op).0
operation_row (Binary I64 op) = (binary_row op).1
operation_row (Compare I32 op) = (compare_row op).0
operation_row (Compare I64 op) = (compare_row op).1
operation_row (Convert op) = convert_row op
operation_row (Extend op) = extend_row op

pub each_operation : (p : Operation → Bool) → all_rows p operations ≡ true → (op : Operation) → p op ≡ true
each_operation p e op = at_row p operations (operation_code op - 0x45) op e (operation_row op)

-- ---- two lists of numbers that are one for each operation

abbrev pub same_numbers : List ℕ → List ℕ → Bool
same_numbers [] [] = true
same_numbers (a ∷ xs) (b ∷ ys) = eqb a b && same_numbers xs ys
same_numbers xs ys = false

same_is : (xs ys : List ℕ) → same_numbers xs ys ≡ true → xs ≡ ys
same_is [] [] e = refl
same_is (a ∷ xs) (b ∷ ys) e =
    let p = and_parts (eqb a b) (same_numbers xs ys) e in
    let x = eqb-true a b p.0 in
    let y = same_is xs ys p.1 in
    cc
same_is [] (b ∷ ys) e = absurd (false≢true e)
same_is (a ∷ xs) [] e = absurd (false≢true e)

pub each_same : (f g : Operation → List ℕ) → all_rows (λ (o : Operation). same_numbers (f o) (g o)) operations ≡ true → (op : Operation) → f op ≡ g op
each_same f g e op = same_is (f op) (g op) (each_operation (λ (o : Operation). same_numbers (f o) (g o)) e op)

-- ---- one result

pub leaves_one : (op : Operation) → length (operated op).results ≡ 1
leaves_one op = eqb-true (length (operated op).results) 1 (each_operation (λ (o : Operation). eqb (length (operated o).results) 1) refl op)
