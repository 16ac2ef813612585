-- The functions of a drill, and what its last one returns by the reduction rules (WebAssembly Core 1.0, 4.4).
use Rattle.std.specs.Prelude.{◌≡◌, ℕ, zero, suc, ◌+◌, ◌*◌, ◌<◌, ◌≤◌, pos, [], ◌∷◌, Some, slice_get}
use Rattle.std.specs.List.{sum, range_with_len}
use Rattle.wasm_defs.specs.declared.types.FuncType.{FuncType}
use Rattle.wasm_defs.specs.declared.types.ValType.TheVariants.{I32}
use Rattle.wasm_defs.specs.declared.operation.BinaryOp.TheVariants.{Add}
use Rattle.wasm_defs.specs.declared.operation.Operation.TheVariants.{Binary}
use Rattle.wasm_defs.specs.declared.token.Plain.TheVariants.{Call, Const, LocalGet, Numeric}
use Rattle.wasm_defs.specs.Trees.{Seq, Nothing, Simple}
use Rattle.wasm_defs.specs.Effects.{value}
use Rattle.wasm_defs.specs.Configurations.{Declared, Func, Instance, Outside, Returned, Store}
use Rattle.wasm_defs.specs.Reductions.{run}

abbrev pub adder_type : FuncType
adder_type = record { params = I32 ∷ []; results = I32 ∷ [] }

abbrev pub runner_type : FuncType
runner_type = record { params = []; results = I32 ∷ [] }

-- its argument and i
abbrev pub adder_tree : ℕ → Seq
adder_tree i = Simple (LocalGet 0) (Simple (Const I32 (pos i)) (Simple (Numeric (Binary I32 Add)) Nothing))

-- so many calls, of one function after the other, of which the first has that index
abbrev pub calls_from : (first count : ℕ) → Seq
calls_from first zero = Nothing
calls_from first (suc k) = Simple (Call first) (calls_from (first + 1) k)

abbrev pub runner_tree : ℕ → Seq
runner_tree n = Simple (Const I32 (pos 0)) (calls_from 0 n)

-- a function of that type and of that body, without locals of its own; at most two operands are in it
pub record IsFunction (ty : FuncType) (tree : Seq) (f : Func) : Type 0 where
  pub ty_is : f.ty ≡ ty
  pub locals_are : f.locals ≡ []
  pub greatest_is : f.greatest ≤ 2
  pub body_is : f.body ≡ tree

-- of n functions each adds its index to its argument, and the one after them calls all of them
pub record HasDrill (n : ℕ) (i : Instance) : Type 0 where
  pub adders : (j : ℕ) → j < n → (f : Func) × (slice_get i.functions j ≡ Some (Declared f)) × IsFunction adder_type (adder_tree j) f
  pub runner : (f : Func) × (slice_get i.functions n ≡ Some (Declared f)) × IsFunction runner_type (runner_tree n) f

-- the sum of 0 to n - 1
abbrev pub sum_below : ℕ → ℕ
sum_below n = sum (range_with_len 0 n)

-- It returns their sum, and changes nothing: for each weight from 5 n + 3 on. A sum of 50,000 is below 2 ^ 31.
abbrev pub DrillsReturn : Type 0
DrillsReturn = (n : ℕ) (i : Instance) (store : Store) → n ≤ 50000 → HasDrill n i → (more : ℕ)
    → run i (5 * n + 3 + more) (Outside store (record { function = n; arguments = [] }) []) ≡ Returned store (value I32 (sum_below n) ∷ [])
