-- The bytes of a drill are its module.
use Rattle.std.proofs.Common.{◌≡◌, ◌∙◌, ℕ, zero, suc, ◌+◌, ◌*◌, ◌<◌, ◌≤◌, Bool, false, true, List, [], ◌∷◌, ◌++◌, length, Option, Some, refl, ap, sym, subst, arith}
use Rattle.std.proofs.lemmas.List.{append-nil}
use Rattle.std.specs.Prelude.{map, reverse, slice_get}
use Rattle.wasm_defs.specs.declared.item.Item.{Item}
use Rattle.wasm_defs.specs.declared.item.Item.TheVariants.{Function}
use Rattle.wasm_defs.specs.declared.token.Token.{Token}
use Rattle.wasm_defs.specs.declared.types.FuncType.{FuncType}
use Rattle.wasm_defs.specs.Bodies.{Group}
use Rattle.wasm_defs.specs.Codes.{Code}
use Rattle.wasm_defs.specs.Configurations.{Declared, Func}
use Rattle.wasm_defs.specs.Configurations.{Invocation, Step}
use Rattle.wasm_defs.specs.Configurations as configured
use Rattle.wasm_defs.specs.Reductions.{run}
use Rattle.wasm_defs.specs.ModuleRun.{first_state, run_of}
use Rattle.drill_laws.proofs.Steps.{drill_returns}
use Rattle.wasm_defs.specs.Context.{body_context, context_of, declared_types, import_count, type_of_function, type_or_empty}
use Rattle.wasm_defs.specs.Faults.{context_at, tokens_of}
use Rattle.wasm_defs.specs.Instances.{data_of, declared_from, elements_of, exports_of, function_of, imports_from, instance_of, is_linkable, start_of, store_of}
use Rattle.wasm_defs.specs.Outside.{Body}
use Rattle.wasm_defs.specs.Places.{greatest, places_of}
use Rattle.wasm_defs.specs.Trees.{Seq, Tree}
use Rattle.wasm_defs.specs.Typing.{Context, IsBody, function_type}
use Rattle.wasm_laws.specs.Behind.{UsesKeep}
use Rattle.frame_layout.specs.Templates.{EmitContext}
use Rattle.body_laws.specs.Spelled.{AreSpelled, IsSpelled, IsSpelledModule}
use Rattle.body_laws.proofs.SpeltCodes.{spelled_is_read}
use Rattle.body_laws.proofs.SpelledModules.{spelled_is_module}
use Rattle.module_gen.specs.Drill.{adder, drill_bytes}
use Rattle.module_gen.specs.Numbers.{unsigned}
use Rattle.drill_laws.specs.Functions.{HasDrill, IsFunction, adder_tree, adder_type, runner_tree, runner_type}
use Rattle.drill_laws.specs.Modules.{DrillsAreModules, DrillsRun}
use Rattle.drill_laws.specs.Words.{words_of}
use Rattle.drill_laws.proofs.Words.{adder_words, runner_words}
use Rattle.drill_laws.proofs.Codes.{Spell, adder_content, adder_nests, adder_spelled, adder_tokens, runner_content, runner_nests, runner_spelled, runner_tokens}
use Rattle.drill_laws.proofs.Drilled.{all_bodies, all_declared, behind_functions, bodies_from, body_at, code_inside, context_is, drill_items, drill_module, drill_sections, function_items, functions_inside, none_imported, passed, trees_from}
use Rattle.drill_laws.proofs.Rules.{are_sections}
use Rattle.drill_laws.proofs.Typings.{adder_low, adder_typed, adders_have_types, drill_context, runner_has_type, runner_low, runner_typed}

-- ---- a body, and the function that it is of

same_body : (c d : Context) (t u : FuncType) → c ≡ d → t ≡ u → body_context c t [] ≡ body_context d u []
same_body c d t u e h = rw (e, h) refl

module _ (n : ℕ) (most : n ≤ 50000) (items : List Item) (says : context_of items ≡ drill_context n) (none : import_count items ≡ 0) where
  type_is : (j : ℕ) (t : FuncType) → function_type (drill_context n) j ≡ Some t → type_of_function (context_of items) (import_count items + j) ≡ t
  type_is j t is =
      let at : import_count items + j ≡ j = omega (arith, none) in
      ap (λ (k : ℕ). type_of_function (context_of items) k) at ∙ ap (λ (c : Context). type_of_function c j) says ∙ ap type_or_empty is

  module _ (j : ℕ) (t : FuncType) (typed : function_type (drill_context n) j ≡ Some t) where
    context_here : body_context (context_of items) (type_of_function (context_of items) (import_count items + j)) [] ≡ body_context (drill_context n) t []
    context_here = same_body (context_of items) (drill_context n) (type_of_function (context_of items) (import_count items + j)) t says (type_is j t typed)

    made_spelled : (b : Body) (uncounted : false ≡ b.counted) (ts : List (ℕ × Token)) (tree : Seq) → Spell ts b.first b.bytes → Tree (tokens_of ts) tree → IsBody (body_context (drill_context n) t []) tree → IsSpelled items j b tree
    made_spelled b uncounted ts tree spelled nests is = record {
      groups = [];
      tokens = ts;
      spelled = subst (λ (counted : Bool). Code counted [] ts b.first b.bytes) uncounted spelled;
      few = omega arith;
      nests = nests;
      typed = subst (λ (c : Context). IsBody c tree) (sym context_here) is;
    }

    made_function : (b : Body) (uncounted : false ≡ b.counted) (ts : List (ℕ × Token)) (tree : Seq) → Spell ts b.first b.bytes → Tree (tokens_of ts) tree → greatest (places_of (body_context (drill_context n) t []) tree) ≤ 2
        → IsFunction t tree (function_of items j b tree)
    made_function b uncounted ts tree spelled nests low =
        let read = spelled_is_read b.counted b.first b.bytes [] ts tree nests (subst (λ (counted : Bool). Code counted [] ts b.first b.bytes) uncounted spelled) (omega arith) in
        let same : context_at items j b ≡ body_context (drill_context n) t [] =
        ap (λ (gs : List Group). body_context (context_of items) (type_of_function (context_of items) (import_count items + j)) gs) read.locals ∙ context_here in
        record {
          ty_is = type_is j t typed;
          locals_are = ap declared_types read.locals;
          greatest_is = subst (λ (c : Context). greatest (places_of c tree) ≤ 2) (sym same) low;
          body_is = refl;
        }

  -- ---- of one that adds, and of the one that calls

  adder_is : (at j : ℕ) → j < n → IsSpelled items j (body_at at (adder_content j)) (adder_tree j)
  adder_is at j below =
      let first = (body_at at (adder_content j)).first in
      made_spelled j adder_type (adders_have_types n j below) (body_at at (adder_content j)) refl (adder_tokens first j) (adder_tree j)
      (adder_spelled first j (omega (arith, below, most))) (adder_nests first j) (adder_typed n j)

  adder_function : (at j : ℕ) → j < n → IsFunction adder_type (adder_tree j) (function_of items j (body_at at (adder_content j)) (adder_tree j))
  adder_function at j below =
      let first = (body_at at (adder_content j)).first in
      made_function j adder_type (adders_have_types n j below) (body_at at (adder_content j)) refl (adder_tokens first j) (adder_tree j)
      (adder_spelled first j (omega (arith, below, most))) (adder_nests first j) (adder_low n j)

  runner_is : (at : ℕ) → IsSpelled items n (body_at at (runner_content n)) (runner_tree n)
  runner_is at =
      let first = (body_at at (runner_content n)).first in
      made_spelled n runner_type (runner_has_type n) (body_at at (runner_content n)) refl (runner_tokens first n) (runner_tree n)
      (runner_spelled first n (omega (arith, most))) (runner_nests first n) (runner_typed n)

  runner_function : (at : ℕ) → IsFunction runner_type (runner_tree n) (function_of items n (body_at at (runner_content n)) (runner_tree n))
  runner_function at =
      let first = (body_at at (runner_content n)).first in
      made_function n runner_type (runner_has_type n) (body_at at (runner_content n)) refl (runner_tokens first n) (runner_tree n)
      (runner_spelled first n (omega (arith, most))) (runner_nests first n) (runner_low n)

  -- ---- all of them

  all_spelled : (at first count k : ℕ) → k ≡ first → first + count ≡ n → AreSpelled items k (bodies_from at first count n) (trees_from first count n)
  all_spelled at first zero k same all =
      let last : n ≡ k = omega (arith, same, all) in
      (subst (λ (j : ℕ). IsSpelled items j (body_at at (runner_content n)) (runner_tree n)) last (runner_is at), tt)
  all_spelled at first (suc c) k same all = (
    subst (λ (j : ℕ). IsSpelled items j (body_at at (adder_content first)) (adder_tree first)) (sym same) (adder_is at first (omega (arith, all))),
    all_spelled (at + length (adder first)) (first + 1) c (suc k) (omega (arith, same)) (omega (arith, all)),
  )

  abbrev all_of : (at first count k : ℕ) → List configured.Function
  all_of at first count k = map Declared (declared_from items k (bodies_from at first count n) (trees_from first count n))

  adders_found : (at first count k : ℕ) → k ≡ first → first + count ≡ n → (j : ℕ) → j < count
      → (f : Func) × (slice_get (all_of at first count k) j ≡ Some (Declared f)) × IsFunction adder_type (adder_tree (first + j)) f
  adders_found at first zero k same all j below = absurd (omega (arith, below))
  adders_found at first (suc c) k same all zero below =
      let here : first ≡ first + 0 = omega arith in (
        function_of items k (body_at at (adder_content first)) (adder_tree first),
        refl,
        subst (λ (i : ℕ). IsFunction adder_type (adder_tree i) (function_of items k (body_at at (adder_content first)) (adder_tree first))) here
            (subst (λ (i : ℕ). IsFunction adder_type (adder_tree first) (function_of items i (body_at at (adder_content first)) (adder_tree first))) (sym same) (adder_function at first (omega (arith, all)))),
      )
  adders_found at first (suc c) k same all (suc j) below =
      let here : first + 1 + j ≡ first + suc j = omega arith in
      let (f, there, is) = adders_found (at + length (adder first)) (first + 1) c (suc k) (omega (arith, same)) (omega (arith, all)) j (omega (arith, below)) in
      (f, there, subst (λ (i : ℕ). IsFunction adder_type (adder_tree i) f) here is)

  runner_found : (at first count k : ℕ) → k ≡ first → first + count ≡ n → (f : Func) × (slice_get (all_of at first count k) count ≡ Some (Declared f)) × IsFunction runner_type (runner_tree n) f
  runner_found at first zero k same all =
      let last : n ≡ k = omega (arith, same, all) in (
        function_of items k (body_at at (runner_content n)) (runner_tree n),
        refl,
        subst (λ (j : ℕ). IsFunction runner_type (runner_tree n) (function_of items j (body_at at (runner_content n)) (runner_tree n))) last (runner_function at),
      )
  runner_found at first (suc c) k same all = runner_found (at + length (adder first)) (first + 1) c (suc k) (omega (arith, same)) (omega (arith, all))

  -- ---- their instruction words

  one_result : (j : ℕ) (t : FuncType) (b : Body) → function_type (drill_context n) j ≡ Some t → length (reverse t.results) ≡ 1 → length (context_at items j b).results ≡ 1
  one_result j t b typed one = ap (λ (f : FuncType). length (reverse f.results)) (type_is j t typed) ∙ one

  few_words : (around : ℕ → Body → Seq → EmitContext) (at first count k : ℕ) → k ≡ first → first + count ≡ n → words_of around items k (bodies_from at first count n) (trees_from first count n) ≤ 62 * count + (14 * n + 46)
  few_words around at first zero k same all =
      let b = body_at at (runner_content n) in
      let typed : function_type (drill_context n) k ≡ Some runner_type = let last : k ≡ n = omega (arith, same, all) in ap (function_type (drill_context n)) last ∙ runner_has_type n in
      let one = runner_words (around k b (runner_tree n)) (context_at items k b) n (one_result k runner_type b typed refl) in
      omega (arith, one)
  few_words around at first (suc c) k same all =
      let b = body_at at (adder_content first) in
      let typed = adders_have_types n k (omega (arith, same, all)) in
      let one = adder_words (around k b (adder_tree first)) (context_at items k b) first (one_result k adder_type b typed refl) in
      let rest = few_words around (at + length (adder first)) (first + 1) c (suc k) (omega (arith, same)) (omega (arith, all)) in
      omega (arith, one, rest)

-- ---- the module

starts_kept : (before : List Item) (at n : ℕ) (behind : List Item) → ((front : List Item) → UsesKeep front behind) → UsesKeep before (function_items at n ++ behind)
starts_kept before at zero behind keep = (tt, keep (before ++ Function (at, 1) ∷ []))
starts_kept before at (suc n) behind keep = (tt, starts_kept (before ++ Function (at, 0) ∷ []) (at + 1) n behind keep)

module _ (n : ℕ) where
  abbrev functions_at : ℕ
  functions_at = functions_inside n + length (unsigned (n + 1))

  abbrev bodies_at : ℕ
  bodies_at = code_inside n + length (unsigned (n + 1))

  pub has_drill : n ≤ 50000 → HasDrill n (instance_of (drill_module n))
  has_drill most =
      let nothing = passed (imports_from (context_of (drill_items n)) 0) (λ i xs. refl) functions_at n (behind_functions n) in
      let adders = adders_found n most (drill_items n) (context_is n) (none_imported n) bodies_at 0 n 0 refl (omega arith) in
      let runner = runner_found n most (drill_items n) (context_is n) (none_imported n) bodies_at 0 n 0 refl (omega arith) in
      let all = all_of n most (drill_items n) (context_is n) (none_imported n) bodies_at 0 n 0 in
      let same : (instance_of (drill_module n)).functions ≡ all = ap (λ (l : List configured.Function). l ++ all) nothing in
      record {
        adders = λ j below.
            let (f, there, is) = adders j below in
            let at : 0 + j ≡ j = omega arith in
            (f, ap (λ (l : List configured.Function). slice_get l j) same ∙ there, subst (λ (i : ℕ). IsFunction adder_type (adder_tree i) f) at is);
        runner = (runner.0, ap (λ (l : List configured.Function). slice_get l n) same ∙ runner.1, runner.2);
      }

  pub spelled : n ≤ 50000 → IsSpelledModule (drill_bytes n) (drill_module n) (drill_sections n)
  spelled most = record {
    is = are_sections n most;
    items = refl;
    bodies = sym (append-nil (all_bodies n));
    starts = (tt, (tt, starts_kept _ functions_at n (behind_functions n) (λ front. (tt, (tt, tt)))));
    spelled = all_spelled n most (drill_items n) (context_is n) (none_imported n) bodies_at 0 n 0 refl (omega arith);
  }

  pub linkable : is_linkable (drill_module n) ≡ true
  linkable =
      let elements = passed elements_of (λ i xs. refl) functions_at n (behind_functions n) in
      let no_data = passed data_of (λ i xs. refl) functions_at n (behind_functions n) in
      rw (elements, no_data) refl

pub drills_are_modules : DrillsAreModules
drills_are_modules n most = (
  drill_module n,
  spelled_is_module (drill_bytes n) (drill_module n) (drill_sections n) (spelled n most),
  record {
    declared = all_declared n;
    imported = none_imported n;
    functions = has_drill n most;
    exports = passed exports_of (λ i xs. refl) (functions_at n) n (behind_functions n);
    exported = ap (λ (c : Context). function_type c n) (context_is n) ∙ runner_has_type n;
    start = passed start_of (λ i xs. refl) (functions_at n) n (behind_functions n);
    linkable = linkable n;
    words = λ around. let few = few_words n most (drill_items n) (context_is n) (none_imported n) around (bodies_at n) 0 n 0 refl (omega arith) in omega (arith, few);
  },
)

pub drills_run : DrillsRun
drills_run n m replies most is more =
    let k = 5 * n + 3 + more in
    let call : Invocation = record { function = n; arguments = [] } in
    let i = instance_of m in
    let store = store_of m replies in
    ap (λ (o : Option ℕ). (run_of (run i k (first_state o store call))).end) is.start ∙ ap (λ (s : Step). (run_of s).end) (drill_returns n i store most is.functions more)
