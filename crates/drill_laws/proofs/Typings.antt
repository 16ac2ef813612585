-- The bodies of a drill are typed, and at most two operands are in each.
use Rattle.std.proofs.Common.{◌≡◌, ◌∙◌, ℕ, zero, suc, ◌+◌, ◌<◌, ◌≤◌, [], ◌∷◌, ◌++◌, Some, refl, ap, sym, subst, arith}
use Rattle.std.specs.Prelude.{max, replicate, slice_get}
use Rattle.wasm_defs.specs.declared.types.ValType.TheVariants.{I32}
use Rattle.wasm_defs.specs.declared.token.Plain.TheVariants.{Call}
use Rattle.wasm_defs.specs.Context.{body_context}
use Rattle.wasm_defs.specs.Places.{Place, after_rule, end_of, greatest, places, places_of}
use Rattle.wasm_defs.specs.Typing.{Context, IsBody, Moves, Typed, function_type, inside, rule_of}
use Rattle.drill_laws.specs.Functions.{adder_tree, adder_type, calls_from, runner_tree, runner_type}

-- what the items of a drill say of its bodies
abbrev pub drill_context : ℕ → Context
drill_context n = record {
  types = adder_type ∷ runner_type ∷ [];
  functions = replicate n 0 ++ 1 ∷ [];
  tables = 0;
  memories = 0;
  segments = 0;
  globals = [];
  locals = [];
  results = [];
  labels = [];
}

abbrev pub adder_context : ℕ → Context
adder_context n = body_context (drill_context n) adder_type []

abbrev pub runner_context : ℕ → Context
runner_context n = body_context (drill_context n) runner_type []

-- ---- of one that adds

pub adder_typed : (n i : ℕ) → IsBody (adder_context n) (adder_tree i)
adder_typed n i = (
  I32 ∷ [],
  record { taken = []; left = I32 ∷ []; below = []; before = refl; after = refl; allowed = (refl, refl) },
  (
    I32 ∷ I32 ∷ [],
    record { taken = []; left = I32 ∷ []; below = I32 ∷ []; before = refl; after = refl; allowed = (refl, refl) },
    (I32 ∷ [], record { taken = I32 ∷ I32 ∷ []; left = I32 ∷ []; below = []; before = refl; after = refl; allowed = (refl, refl) }, refl),
  ),
)

pub adder_low : (n i : ℕ) → greatest (places_of (adder_context n) (adder_tree i)) ≤ 2
adder_low n i = omega arith

-- ---- of the one that calls

first_ones : (n j : ℕ) → j < n → slice_get {X = ℕ} (replicate n 0 ++ 1 ∷ []) j ≡ Some 0
first_ones zero j below = absurd (omega (arith, below))
first_ones (suc n) zero below = refl
first_ones (suc n) (suc j) below = first_ones n j (omega (arith, below))

last_one : (n : ℕ) → slice_get {X = ℕ} (replicate n 0 ++ 1 ∷ []) n ≡ Some 1
last_one zero = refl
last_one (suc n) = last_one n

pub adders_have_types : (n j : ℕ) → j < n → function_type (drill_context n) j ≡ Some adder_type
adders_have_types n j below = rw (first_ones n j below) refl

pub runner_has_type : (n : ℕ) → function_type (drill_context n) n ≡ Some runner_type
runner_has_type n = rw (last_one n) refl

abbrev AreAdders : Context → (first count : ℕ) → Type 0
AreAdders c first count = (j : ℕ) → j < first + count → function_type c j ≡ Some adder_type

call_moves : (c : Context) (f : ℕ) → function_type c f ≡ Some adder_type → Moves (rule_of c (Call f)) (I32 ∷ []) (I32 ∷ [])
call_moves c f is = rw is (record { taken = I32 ∷ []; left = I32 ∷ []; below = []; before = refl; after = refl; allowed = (refl, refl) })

calls_typed : (c : Context) (first count : ℕ) → AreAdders c first count → Typed c (calls_from first count) (I32 ∷ []) (I32 ∷ [])
calls_typed c first zero are = refl
calls_typed c first (suc k) are = (I32 ∷ [], call_moves c first (are first (omega arith)), calls_typed c (first + 1) k (λ j below. are j (omega (arith, below))))

pub runner_typed : (n : ℕ) → IsBody (runner_context n) (runner_tree n)
runner_typed n = (
  I32 ∷ [],
  record { taken = []; left = I32 ∷ []; below = []; before = refl; after = refl; allowed = (refl, refl) },
  calls_typed (inside (runner_context n) (I32 ∷ [])) 0 n (λ j below. adders_have_types n j (omega (arith, below))),
)

-- one operand is before each call, and after it
stays : (c : Context) (f : ℕ) → function_type c f ≡ Some adder_type → after_rule (rule_of c (Call f)) (Some 1) ≡ Some 1
stays c f is = rw is refl

calls_end : (c : Context) (first count : ℕ) → AreAdders c first count → end_of c (calls_from first count) (Some 1) ≡ Some 1
calls_end c first zero are = refl
calls_end c first (suc k) are =
    ap (λ (p : Place). end_of c (calls_from (first + 1) k) p) (stays c first (are first (omega arith))) ∙ calls_end c (first + 1) k (λ j below. are j (omega (arith, below)))

one_more : (n : ℕ) → n ≤ 2 → max 1 n ≤ 2
one_more n h = omega (arith, h)

calls_low : (c : Context) (first count : ℕ) → AreAdders c first count → greatest (places c (calls_from first count) (Some 1) (Some 1 ∷ [])) ≤ 2
calls_low c first zero are = omega arith
calls_low c first (suc k) are =
    let rest = calls_low c (first + 1) k (λ j below. are j (omega (arith, below))) in
    subst (λ (p : Place). max 1 (greatest (places c (calls_from (first + 1) k) p (Some 1 ∷ []))) ≤ 2) (sym (stays c first (are first (omega arith)))) (one_more _ rest)

pub runner_low : (n : ℕ) → greatest (places_of (runner_context n) (runner_tree n)) ≤ 2
runner_low n =
    let c = inside (runner_context n) (I32 ∷ []) in
    let are : AreAdders c 0 n = λ j below. adders_have_types n j (omega (arith, below)) in
    let rest = calls_low c 0 n are in
    subst (λ (p : Place). max 0 (greatest (places c (calls_from 0 n) (Some 1) (p ∷ []))) ≤ 2) (sym (calls_end c 0 n are)) (omega (arith, rest))
