-- A drill's run, reduction by reduction.
use Rattle.std.proofs.Common.{◌≡◌, ◌∙◌, ℕ, zero, suc, ◌+◌, ◌*◌, ◌^◌, ◌%◌, ◌<◌, ◌≤◌, pos, false, List, [], ◌∷◌, Some, refl, ap, arith}
use Rattle.std.specs.Prelude.{slice_get, nat_lt}
use Rattle.std.specs.List.{sum, range_with_len}
use Rattle.std.proofs.lemmas.Bool.{le-ltb}
use Rattle.std.proofs.lemmas.List.Sums.{sum_by-cons}
use Rattle.std.proofs.Math.Nat.{mod-eq_of_lt}
use Rattle.wasm_defs.specs.declared.types.FuncType.{FuncType}
use Rattle.wasm_defs.specs.declared.types.ValType.{ValType}
use Rattle.wasm_defs.specs.declared.types.ValType.TheVariants.{I32}
use Rattle.wasm_defs.specs.declared.token.Plain.TheVariants.{Call}
use Rattle.wasm_defs.specs.Trees.{Seq, Nothing, Simple}
use Rattle.wasm_defs.specs.Values.{Value, modulus, unsigned}
use Rattle.wasm_defs.specs.Effects.{value}
use Rattle.wasm_defs.specs.Configurations.{Declared, Frame, Func, Inside, Instance, Origin, Outside, Returned, State, Store, To}
use Rattle.wasm_defs.specs.Reductions.{enter, next, on, run}
use Rattle.drill_laws.specs.Functions.{DrillsReturn, IsFunction, adder_tree, adder_type, calls_from, runner_tree, runner_type, sum_below}

-- a function whose other parts are known
abbrev made : Origin → (ty : FuncType) (greatest : ℕ) (tree : Seq) → Func
made o ty greatest tree = record { origin = o; ty = ty; locals = []; greatest = greatest; body = tree }

made_is : (ty : FuncType) (tree : Seq) (f : Func) → IsFunction ty tree f → f ≡ made f.origin ty f.greatest tree
made_is ty tree f is = go f.ty f.locals f.body is.ty_is is.locals_are is.body_is
  where
    go : (t : FuncType) (l : List ValType) (b : Seq) → t ≡ ty → l ≡ [] → b ≡ tree → ◌≡◌ {A = Func} (record { origin = f.origin; ty = t; locals = l; greatest = f.greatest; body = b }) (made f.origin ty f.greatest tree)
    go t l b e g h = rw (e, g, h) refl

-- ---- the running frame of the last function, and of one that it calls

abbrev frame : Func → List Value → List Value → Seq → Frame
frame f locals operands code = record { function = f; locals = locals; operands = operands; code = code; labels = [] }

abbrev alone : Store → Frame → State
alone store f = Inside (record { store = store; frame = f; callers = []; owed = 0; later = [] })

abbrev called : Store → Frame → Frame → State
called store f caller = Inside (record { store = store; frame = f; callers = caller ∷ []; owed = 0; later = [] })

abbrev i32 : ℕ → Value
i32 n = value I32 n

small : (n : ℕ) → n < 2 ^ 32 → unsigned I32 (pos n) ≡ n
small n below = refl

module _ (i : Instance) (store : Store) (o : Origin) (g : ℕ) (few : g ≤ 2) (runner : Seq) where
  abbrev outer : Func
  outer = made o runner_type g runner

  -- ---- one call, which adds j

  module _ (p : Origin) (j h : ℕ) (low : h ≤ 2) (there : slice_get i.functions j ≡ Some (Declared (made p adder_type h (adder_tree j)))) (rest : Seq) where
    abbrev inner : Func
    inner = made p adder_type h (adder_tree j)

    -- after the call
    abbrev behind : Frame
    behind = frame outer [] [] rest

    fits : nat_lt 131072 (0 + (0 + 1 + 0) + (1 + 0 + 1 + h)) ≡ false
    fits = le-ltb 131072 (0 + (0 + 1 + 0) + (1 + 0 + 1 + h)) (omega (arith, low))

    entered : (v : ℕ) → enter store inner (i32 v ∷ []) (behind ∷ []) [] ≡ To (called store (frame inner (i32 v ∷ []) [] (adder_tree j)) behind)
    entered v = rw fits refl

    calls : (v : ℕ) → next i (alone store (frame outer [] (i32 v ∷ []) (Simple (Call j) rest))) ≡ To (called store (frame inner (i32 v ∷ []) [] (adder_tree j)) behind)
    calls v = rw there (entered v)

    adds : (v k : ℕ) → run i (suc (suc (suc (suc k)))) (called store (frame inner (i32 v ∷ []) [] (adder_tree j)) behind)
        ≡ run i k (alone store (frame outer [] (i32 ((v + unsigned I32 (pos j)) % modulus I32) ∷ []) rest))
    adds v k = refl

    one_call : (v k : ℕ) → v + j < 2 ^ 32 → run i (suc (suc (suc (suc (suc k))))) (alone store (frame outer [] (i32 v ∷ []) (Simple (Call j) rest)))
        ≡ run i k (alone store (frame outer [] (i32 (v + j) ∷ []) rest))
    one_call v k below =
        let one : unsigned I32 (pos j) ≡ j = small j (omega (arith, below)) in
        let both : (v + unsigned I32 (pos j)) % modulus I32 ≡ v + j = ap (λ x. (v + x) % modulus I32) one ∙ mod-eq_of_lt below in
        ap (λ s. on i s (run i (suc (suc (suc (suc k)))))) (calls v) ∙ adds v k ∙ ap (λ x. run i k (alone store (frame outer [] (i32 x ∷ []) rest))) both

  -- ---- all calls, and the end

  abbrev weight : (count more : ℕ) → ℕ
  weight zero more = suc more
  weight (suc c) more = suc (suc (suc (suc (suc (weight c more)))))

  weight_is : (count more : ℕ) → weight count more ≡ 5 * count + 1 + more
  weight_is zero more = omega arith
  weight_is (suc c) more = let e = weight_is c more in omega (arith, e)

  ends : (v k : ℕ) → run i (suc k) (alone store (frame outer [] (i32 v ∷ []) Nothing)) ≡ Returned store (i32 v ∷ [])
  ends v k = refl

  all_calls : (first count v more : ℕ) → ((j : ℕ) → j < first + count → (f : Func) × (slice_get i.functions j ≡ Some (Declared f)) × IsFunction adder_type (adder_tree j) f) → first + count ≤ 50000 → v ≤ 50000 * first
      → run i (weight count more) (alone store (frame outer [] (i32 v ∷ []) (calls_from first count))) ≡ Returned store (i32 (v + sum (range_with_len first count)) ∷ [])
  all_calls first zero v more adders short low =
      let e : v ≡ v + 0 = omega arith in
      ends v more ∙ ap (λ x. Returned store (i32 x ∷ [])) e
  all_calls first (suc c) v more adders short low =
      let (f, there, is) = adders first (omega arith) in
      let there_is : slice_get i.functions first ≡ Some (Declared (made f.origin adder_type f.greatest (adder_tree first))) = there ∙ ap (λ x. Some (Declared x)) (made_is adder_type (adder_tree first) f is) in
      let more_is : sum (range_with_len first (suc c)) ≡ first + sum (range_with_len (first + 1) c) = sum_by-cons (λ x. x) first (range_with_len (first + 1) c) in
      let e : v + first + sum (range_with_len (first + 1) c) ≡ v + sum (range_with_len first (suc c)) = omega (arith, more_is) in
      one_call f.origin first f.greatest is.greatest_is there_is (calls_from (first + 1) c) v (weight c more) (omega (arith, short, low))
      ∙ all_calls (first + 1) c (v + first) more (λ j below. adders j (omega (arith, below))) (omega (arith, short)) (omega (arith, short, low))
      ∙ ap (λ x. Returned store (i32 x ∷ [])) e

  begun : (n count : ℕ) → slice_get i.functions n ≡ Some (Declared outer) → runner ≡ runner_tree count → (k : ℕ)
      → run i (suc (suc k)) (Outside store (record { function = n; arguments = [] }) []) ≡ run i k (alone store (frame outer [] (i32 (unsigned I32 (pos 0)) ∷ []) (calls_from 0 count)))
  begun n count there is k = ap (λ s. on i s (run i (suc k))) first ∙ second
    where
      fits_outer : nat_lt 131072 (0 + (0 + 0 + 1 + g)) ≡ false
      fits_outer = le-ltb 131072 (0 + (0 + 0 + 1 + g)) (omega (arith, few))

      entered_outer : enter store outer [] [] [] ≡ To (alone store (frame outer [] [] runner))
      entered_outer = rw fits_outer refl

      first : next i (Outside store (record { function = n; arguments = [] }) []) ≡ To (alone store (frame outer [] [] runner))
      first = rw there entered_outer

      second : run i (suc k) (alone store (frame outer [] [] runner)) ≡ run i k (alone store (frame outer [] (i32 (unsigned I32 (pos 0)) ∷ []) (calls_from 0 count)))
      second = ap (λ t. run i (suc k) (alone store (frame outer [] [] t))) is

pub drill_returns : DrillsReturn
drill_returns n i store short drill more =
    let (f, there, is) = drill.runner in
    let g = f.greatest in
    let there_is : slice_get i.functions n ≡ Some (Declared (made f.origin runner_type g (runner_tree n))) = there ∙ ap (λ x. Some (Declared x)) (made_is runner_type (runner_tree n) f is) in
    let weight_is_all : 5 * n + 3 + more ≡ suc (suc (weight i store f.origin g is.greatest_is (runner_tree n) n more)) = let e = weight_is i store f.origin g is.greatest_is (runner_tree n) n more in omega (arith, e) in
    let nothing : 0 + sum (range_with_len 0 n) ≡ sum_below n = omega arith in
    let zero_is : unsigned I32 (pos 0) ≡ 0 = refl in
    ap (λ k. run i k (Outside store (record { function = n; arguments = [] }) [])) weight_is_all
    ∙ begun i store f.origin g is.greatest_is (runner_tree n) n n there_is refl (weight i store f.origin g is.greatest_is (runner_tree n) n more)
    ∙ ap (λ x. run i (weight i store f.origin g is.greatest_is (runner_tree n) n more) (alone store (frame (made f.origin runner_type g (runner_tree n)) [] (i32 x ∷ []) (calls_from 0 n)))) zero_is
    ∙ all_calls i store f.origin g is.greatest_is (runner_tree n) 0 n 0 more (λ j below. drill.adders j (omega (arith, below))) (omega (arith, short)) (omega arith)
    ∙ ap (λ x. Returned store (i32 x ∷ [])) nothing
