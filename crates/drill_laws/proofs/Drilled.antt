-- The module of a drill, and its sections.
use Rattle.std.proofs.Common.{◌≡◌, ◌∙◌, ℕ, zero, suc, ◌+◌, false, List, [], ◌∷◌, ◌++◌, length, None, refl, ap, arith}
use Rattle.std.specs.List.{flat_map}
use Rattle.std.specs.Prelude.{replicate}
use Rattle.wasm_defs.specs.declared.item.Extern.TheVariants as extern
use Rattle.wasm_defs.specs.declared.item.Item.{Item}
use Rattle.wasm_defs.specs.declared.item.Item.TheVariants.{Code, Exported, Function, Signature}
use Rattle.wasm_defs.specs.Context.{context_of, data_count_of, declared_count, functions_of, globals_of, import_count, memories_of, tables_of, types_of}
use Rattle.wasm_defs.specs.Faults.{Module}
use Rattle.wasm_defs.specs.Items.{Bodies, Section, Vector}
use Rattle.wasm_defs.specs.Outside.{Body}
use Rattle.wasm_defs.specs.Trees.{Seq}
use Rattle.module_gen.specs.Drill.{adder, below, exports, functions, runner}
use Rattle.module_gen.specs.Numbers.{unsigned}
use Rattle.drill_laws.specs.Functions.{adder_tree, adder_type, runner_tree, runner_type}
use Rattle.drill_laws.proofs.Codes.{adder_content, runner_content}
use Rattle.drill_laws.proofs.Typings.{drill_context}

-- after the id and the size of a section of that content, and after the size of a body
abbrev pub inside_of : (at : ℕ) (content : List ℕ) → ℕ
inside_of at content = at + 1 + length (unsigned (length content))

abbrev pub body_at : (at : ℕ) (content : List ℕ) → Body
body_at at content = record { counted = false; size = at; first = at + length (unsigned (length content)); bytes = content }

-- ---- items

abbrev pub signatures : List Item
signatures = Signature 11 12 14 adder_type ∷ Signature 16 17 18 runner_type ∷ []

abbrev pub function_items : (at n : ℕ) → List Item
function_items at zero = Function (at, 1) ∷ []
function_items at (suc n) = Function (at, 0) ∷ function_items (at + 1) n

abbrev pub run_name : List ℕ
run_name = 0x72 ∷ 0x75 ∷ 0x6E ∷ []

abbrev pub export_items : (at n : ℕ) → List Item
export_items at n = Exported (at, run_name) (at + 4, extern.Function) (at + 4 + 1, n) ∷ []

-- ---- bodies: so many from the first on that add, and the one that calls n

abbrev pub bodies_from : (at first count n : ℕ) → List Body
bodies_from at first zero n = body_at at (runner_content n) ∷ []
bodies_from at first (suc k) n = body_at at (adder_content first) ∷ bodies_from (at + length (adder first)) (first + 1) k n

abbrev pub trees_from : (first count n : ℕ) → List Seq
trees_from first zero n = runner_tree n ∷ []
trees_from first (suc k) n = adder_tree first ∷ trees_from (first + 1) k n

-- ---- contents

abbrev pub functions_content : ℕ → List ℕ
functions_content n = unsigned (n + 1) ++ (replicate n 0x00 ++ 0x01 ∷ [])

abbrev pub exports_content : ℕ → List ℕ
exports_content n = 0x01 ∷ 0x03 ∷ 0x72 ∷ 0x75 ∷ 0x6E ∷ 0x00 ∷ unsigned n

abbrev pub bodies_content : ℕ → List ℕ
bodies_content n = flat_map adder (below n) ++ runner n

abbrev pub code_content : ℕ → List ℕ
code_content n = unsigned (n + 1) ++ bodies_content n

-- ---- sections

abbrev pub functions_at : ℕ
functions_at = 20

abbrev pub exports_at : ℕ → ℕ
exports_at n = functions_at + length (functions n)

abbrev pub code_at : ℕ → ℕ
code_at n = exports_at n + length (exports n)

abbrev pub types_section : Section
types_section = record { id = 8; size = 9; payload = Vector 1 10 signatures }

module _ (n : ℕ) where
  abbrev pub functions_inside : ℕ
  functions_inside = inside_of functions_at (functions_content n)

  abbrev pub exports_inside : ℕ
  exports_inside = inside_of (exports_at n) (exports_content n)

  abbrev pub code_inside : ℕ
  code_inside = inside_of (code_at n) (code_content n)

  abbrev pub all_functions : List Item
  all_functions = function_items (functions_inside + length (unsigned (n + 1))) n

  abbrev pub all_exports : List Item
  all_exports = export_items (exports_inside + 1) n

  abbrev pub all_bodies : List Body
  all_bodies = bodies_from (code_inside + length (unsigned (n + 1))) 0 n n

  abbrev pub functions_section : Section
  functions_section = record { id = functions_at; size = functions_at + 1; payload = Vector 3 functions_inside all_functions }

  abbrev pub exports_section : Section
  exports_section = record { id = exports_at n; size = exports_at n + 1; payload = Vector 7 exports_inside all_exports }

  abbrev pub code_section : Section
  code_section = record { id = code_at n; size = code_at n + 1; payload = Bodies code_inside (code_inside + length (code_content n)) all_bodies }

  abbrev pub drill_sections : List Section
  drill_sections = types_section ∷ functions_section ∷ exports_section ∷ code_section ∷ []

  abbrev pub behind_functions : List Item
  behind_functions = all_exports ++ (Code (code_inside, length all_bodies) (code_inside + length (code_content n)) ∷ [])

  abbrev pub drill_items : List Item
  drill_items = signatures ++ (all_functions ++ behind_functions)

  abbrev pub drill_module : Module
  drill_module = record { items = drill_items; bodies = all_bodies; trees = trees_from 0 n n }

-- ---- how many there are

pub functions_count : (at n : ℕ) → length (function_items at n) ≡ n + 1
functions_count at zero = refl
functions_count at (suc n) = let rest = functions_count (at + 1) n in omega (arith, rest)

pub bodies_count : (at first count n : ℕ) → length (bodies_from at first count n) ≡ count + 1
bodies_count at first zero n = refl
bodies_count at first (suc k) n = let rest = bodies_count (at + length (adder first)) (first + 1) k n in omega (arith, rest)

-- ---- what the items say

functions_say : (at n : ℕ) (behind : List Item) → functions_of (function_items at n ++ behind) ≡ replicate n 0 ++ (1 ∷ functions_of behind)
functions_say at zero behind = refl
functions_say at (suc n) behind = ap (λ (l : List ℕ). 0 ∷ l) (functions_say (at + 1) n behind)

pub declared_are : (at n : ℕ) (behind : List Item) → declared_count (function_items at n ++ behind) ≡ declared_count behind + (n + 1)
declared_are at zero behind = refl
declared_are at (suc n) behind = let rest = declared_are (at + 1) n behind in omega (arith, rest)

-- of any other sort
module _ {A : Type 0} (f : List Item → A) (passes : (i : ℕ × ℕ) (xs : List Item) → f (Function i ∷ xs) ≡ f xs) where
  pub passed : (at n : ℕ) (behind : List Item) → f (function_items at n ++ behind) ≡ f behind
  passed at zero behind = passes (at, 1) behind
  passed at (suc n) behind = passes (at, 0) (function_items (at + 1) n ++ behind) ∙ passed (at + 1) n behind

context_made : (all : List Item) (n : ℕ) → types_of all ≡ [] → functions_of all ≡ replicate n 0 ++ 1 ∷ [] → tables_of all ≡ [] → memories_of all ≡ [] → data_count_of all ≡ None → globals_of all ≡ []
    → context_of (signatures ++ all) ≡ drill_context n
context_made all n t f u m d g = rw (t, f, u, m, d, g) refl

pub context_is : (n : ℕ) → context_of (drill_items n) ≡ drill_context n
context_is n =
    let at = functions_inside n + length (unsigned (n + 1)) in
    let behind = behind_functions n in
    context_made (function_items at n ++ behind) n (passed types_of (λ i xs. refl) at n behind) (functions_say at n behind) (passed tables_of (λ i xs. refl) at n behind)
    (passed memories_of (λ i xs. refl) at n behind) (passed data_count_of (λ i xs. refl) at n behind) (passed globals_of (λ i xs. refl) at n behind)

pub none_imported : (n : ℕ) → import_count (drill_items n) ≡ 0
none_imported n = passed import_count (λ i xs. refl) (functions_inside n + length (unsigned (n + 1))) n (behind_functions n)

pub all_declared : (n : ℕ) → declared_count (drill_items n) ≡ n + 1
all_declared n = let all = declared_are (functions_inside n + length (unsigned (n + 1))) n (behind_functions n) in omega (arith, all)

pub none_counted : (n : ℕ) → data_count_of (drill_items n) ≡ None
none_counted n = passed data_count_of (λ i xs. refl) (functions_inside n + length (unsigned (n + 1))) n (behind_functions n)
