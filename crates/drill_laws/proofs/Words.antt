-- The instruction words of a drill's functions are counted.
use Rattle.std.proofs.Common.{◌≡◌, ℕ, zero, suc, ◌+◌, ◌*◌, ◌≤◌, pos, List, [], ◌∷◌, ◌++◌, length, None, Some, refl, subst, arith}
use Rattle.std.proofs.lemmas.List.{length-append}
use Rattle.rv_isa.specs.declared.operations.Op.TheVariants.{Jalr}
use Rattle.frame_layout.specs.Macros.{ra, x0}
use Rattle.wasm_defs.specs.declared.types.ValType.TheVariants.{I32}
use Rattle.wasm_defs.specs.declared.operation.BinaryOp.TheVariants.{Add}
use Rattle.wasm_defs.specs.declared.operation.Operation.TheVariants.{Binary}
use Rattle.wasm_defs.specs.declared.token.Plain.{Plain}
use Rattle.wasm_defs.specs.declared.token.Plain.TheVariants.{Call, Const, LocalGet, Numeric}
use Rattle.wasm_defs.specs.Places.{Place, after_rule}
use Rattle.wasm_defs.specs.Trees.{Nothing, Seq, Simple}
use Rattle.wasm_defs.specs.Typing.{Context, inside, rule_of}
use Rattle.frame_layout.specs.declared.layout.Layout.{Layout}
use Rattle.frame_layout.specs.Functions.{body_code, code, function_code}
use Rattle.frame_layout.specs.Templates.{EmitContext, Label, epilogue, prologue, result_words, declarations, words, zero_locals}
use Rattle.drill_laws.specs.Functions.{adder_tree, calls_from, runner_tree}

-- ---- around a body

zeroing : (l : Layout) (locals : ℕ) → length (zero_locals l locals) ≤ 15
zeroing l zero = omega arith
zeroing l (suc n) = omega arith

prologue_short : (l : Layout) → length (prologue l) ≤ 28
prologue_short l = let few = zeroing l l.locals in omega (arith, few)

results_counted : (l : Layout) (results index : ℕ) → length (result_words l results index) ≡ 6 * results
results_counted l zero index = refl
results_counted l (suc n) index = let rest = results_counted l n (index + 1) in omega (arith, rest)

epilogue_short : (l : Layout) (results : ℕ) → length (epilogue l results) ≤ 4 + 6 * results
epilogue_short l results =
    let few = results_counted l results 0 in
    let parts = length-append (result_words l results 0) (Jalr x0 ra 0 ∷ []) in
    omega (arith, few, parts)

-- ---- a body: so many instruction words wherever it is

module _ (w : EmitContext) (c : Context) (labels : List Label) where
  AreFew : ℕ → Seq → Type 0
  AreFew most tree = (place : Place) (here : ℕ) → length (code w c labels place here tree) ≤ most

  nothing_few : AreFew 0 Nothing
  unfolding AreFew
  nothing_few None here = omega arith
  nothing_few (Some h) here = omega arith

  then_few : (p : Plain) (rest : Seq) (few more : ℕ) → ((h here : ℕ) → length (words w (declarations c) labels h here p) ≤ few) → AreFew more rest → AreFew (few + more) (Simple p rest)
  unfolding AreFew
  then_few p rest few more one others None here = omega arith
  then_few p rest few more one others (Some h) here =
      let first = words w (declarations c) labels h here p in
      let behind = others (after_rule (rule_of c p) (Some h)) (here + length first) in
      let parts = length-append first (code w c labels (after_rule (rule_of c p) (Some h)) (here + length first) rest) in
      let most = one h here in
      omega (arith, behind, parts, most)

  adder_few : (i : ℕ) → AreFew (6 + (8 + (10 + 0))) (adder_tree i)
  adder_few i =
      then_few (LocalGet 0) (Simple (Const I32 (pos i)) (Simple (Numeric (Binary I32 Add)) Nothing)) 6 (8 + (10 + 0)) (λ h here. omega arith)
      (then_few (Const I32 (pos i)) (Simple (Numeric (Binary I32 Add)) Nothing) 8 (10 + 0) (λ h here. omega arith)
      (then_few (Numeric (Binary I32 Add)) Nothing 10 0 (λ h here. omega arith) nothing_few))

  calls_few : (first count : ℕ) → AreFew (14 * count) (calls_from first count)
  calls_few first zero = nothing_few
  calls_few first (suc k) =
      let e : 14 + 14 * k ≡ 14 * suc k = omega arith in
      subst (λ (m : ℕ). AreFew m (calls_from first (suc k))) e (then_few (Call first) (calls_from (first + 1) k) 14 (14 * k) (λ h here. omega arith) (calls_few (first + 1) k))

  runner_few : (n : ℕ) → AreFew (8 + 14 * n) (runner_tree n)
  runner_few n = then_few (Const I32 (pos 0)) (calls_from 0 n) 8 (14 * n) (λ h here. omega arith) (calls_few 0 n)

-- ---- a function

function_few : (w : EmitContext) (c : Context) (tree : Seq) (few : ℕ) → ((labels : List Label) → AreFew w (inside c c.results) labels few tree) → length (function_code w c tree) ≤ 32 + 6 * length c.results + few
unfolding AreFew
function_few w c tree few body =
    let all = length-append (prologue w.layout) (body_code w c tree ++ epilogue w.layout (length c.results)) in
    let last = length-append (body_code w c tree) (epilogue w.layout (length c.results)) in
    let front = prologue_short w.layout in
    let back = epilogue_short w.layout (length c.results) in
    let inner : length (body_code w c tree) ≤ few = body _ (Some 0) _ in
    omega (arith, all, last, front, back, inner)

pub adder_words : (w : EmitContext) (c : Context) (i : ℕ) → length c.results ≡ 1 → length (function_code w c (adder_tree i)) ≤ 62
adder_words w c i one = let few = function_few w c (adder_tree i) 24 (λ labels. adder_few w (inside c c.results) labels i) in omega (arith, few, one)

pub runner_words : (w : EmitContext) (c : Context) (n : ℕ) → length c.results ≡ 1 → length (function_code w c (runner_tree n)) ≤ 14 * n + 46
runner_words w c n one = let few = function_few w c (runner_tree n) (8 + 14 * n) (λ labels. runner_few w (inside c c.results) labels n) in omega (arith, few, one)
