-- The opcodes of operations, loads and stores are the rows of the tables.
use Rattle.std.proofs.Common.{◌≡◌, ℕ, zero, suc, ◌+◌, ◌-◌, ◌≤◌, Bool, true, ◌&&◌, eqb, List, [], ◌∷◌, Option, None, Some, refl, ap, arith}
use Rattle.std.specs.Prelude.{slice_get}
use Rattle.std.proofs.lemmas.Bool.{and_parts, eqb-true}
use Rattle.wasm_defs.specs.declared.operation.Operation.{Operation}
use Rattle.wasm_defs.specs.declared.operation.LoadOp.{LoadOp}
use Rattle.wasm_defs.specs.declared.operation.LoadOp.TheVariants.{I32Load}
use Rattle.wasm_defs.specs.declared.operation.StoreOp.{StoreOp}
use Rattle.wasm_defs.specs.declared.operation.StoreOp.TheVariants.{I32Store}
use Rattle.wasm_defs.specs.declared.operation.Access.{Access}
use Rattle.wasm_defs.specs.declared.operation.Access.TheVariants.{Load, Store}
use Rattle.wasm_defs.specs.Opcodes.{operations, accesses, load_code, store_code, operation_code}

-- ---- a table's rows are at their codes

abbrev are_rows : {A : Type 0} → (A → ℕ) → ℕ → List (Option A) → Bool
are_rows code n [] = true
are_rows code n (None ∷ rows) = are_rows code (suc n) rows
are_rows code n (Some x ∷ rows) = eqb (code x) n && are_rows code (suc n) rows

row_code : {A : Type 0} (code : A → ℕ) (n i : ℕ) (rows : List (Option A)) (x : A) → are_rows code n rows ≡ true → slice_get rows i ≡ Some (Some x) → code x ≡ n + i
row_code code n i [] x e h = absurd cc
row_code code n zero (None ∷ rows) x e h = absurd cc
row_code code n zero (Some y ∷ rows) x e h =
    let p = and_parts (eqb (code y) n) (are_rows code (suc n) rows) e in
    let same : y ≡ x = cc in
    omega (arith, ap code same, eqb-true (code y) n p.0)
row_code code n (suc i) (None ∷ rows) x e h = omega (arith, row_code code (suc n) i rows x e h)
row_code code n (suc i) (Some y ∷ rows) x e h =
    let p = and_parts (eqb (code y) n) (are_rows code (suc n) rows) e in
    omega (arith, row_code code (suc n) i rows x p.1 h)

-- ---- operations

operations_are_rows : are_rows operation_code 0x45 operations ≡ true
unfolding operation_code
operations_are_rows = refl

pub operation_at : (b : ℕ) (op : Operation) → 0x45 ≤ b → slice_get operations (b - 0x45) ≡ Some (Some op) → operation_code op ≡ b
operation_at b op ge h = omega (arith, row_code operation_code 0x45 (b - 0x45) operations op operations_are_rows h)

-- ---- loads and stores

abbrev pub access_code : Access → ℕ
access_code (Load op) = load_code op
access_code (Store op) = store_code op

pub load_row : (op : LoadOp) → slice_get accesses (load_code op - 0x28) ≡ Some (Some (Load op))
unfolding load_code
load_row I32Load = refl
load_row op = refl

pub store_row : (op : StoreOp) → slice_get accesses (store_code op - 0x28) ≡ Some (Some (Store op))
unfolding store_code
store_row I32Store = refl
store_row op = refl

accesses_are_rows : are_rows access_code 0x28 accesses ≡ true
unfolding load_code store_code
accesses_are_rows = refl

pub access_at : (b : ℕ) (op : Access) → 0x28 ≤ b → slice_get accesses (b - 0x28) ≡ Some (Some op) → access_code op ≡ b
access_at b op ge h = omega (arith, row_code access_code 0x28 (b - 0x28) accesses op accesses_are_rows h)
