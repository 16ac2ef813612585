-- Each function's instruction words are in the text from its index on.
use Rattle.std.proofs.Common.{◌≡◌, ℕ, zero, suc, ◌+◌, ◌^◌, ◌<◌, ◌≤◌, List, [], ◌∷◌, ◌++◌, map, length, Option, Some, refl, sym, ◌∙◌, subst, arith}
use Rattle.std.specs.Prelude.{slice_get, slice_index}
use Rattle.std.proofs.lemmas.List.{append-nil, length-append, length-map}
use Rattle.rv_isa.specs.declared.operations.Op.{Op}
use Rattle.rv_isa.specs.Words.{word_of, decoded}
use Rattle.rv_isa.specs.Steps.{code_of}
use Rattle.rv_isa.specs.Runs.{HasAt, AllInRange}
use Rattle.rv_isa.proofs.RunLaws.{words_stand}
use Rattle.wasm_defs.specs.declared.item.Item.{Item}
use Rattle.wasm_defs.specs.Outside.{Body}
use Rattle.wasm_defs.specs.Trees.{Seq}
use Rattle.wasm_defs.specs.Context.{context_of}
use Rattle.wasm_defs.specs.Faults.{context_at, Module}
use Rattle.wasm_defs.specs.Instances.{function_of, declared_from}
use Rattle.frame_layout.specs.Templates.{exit_stub}
use Rattle.frame_layout.specs.Functions.{no_distance}
use Rattle.frame_layout.proofs.Standing.{has_first, has_rest as has_second}
use Rattle.simulation.proofs.Frames.Sitting.{has_at}
use Rattle.frame_layout.proofs.Sizes.{function_length}
use Rattle.simulation.proofs.MacroRanges.{both_in_range}
use Rattle.simulation.proofs.Ranges.{exit_in_range, function_in_range}
use Rattle.image_format.specs.declared.image.TrapPlace.{TrapPlace}
use Rattle.image_linker.specs.ImageOf.{around, distances, size_of, front_size, places_from, code_of_function, code_from, stubs_from, places_of_functions, text_of, traps_of_function, traps_from}
use Rattle.image_linker.specs.Judging.{sizes}
use Rattle.image_linker.proofs.CoveredModules.{IsCoveredBody, AreCoveredBodies, IsCoveredModule}
use Rattle.image_linker.proofs.Imported.{stubs_length, each_stub_in_range}
use Rattle.image_linker.proofs.Spread.{IsAmong, among_left, among_right}

-- ---- one function among those from an index on

-- the j-th of the bodies belongs to the declared function of this number
pub record Placed (code : List (Option Op)) (items : List Item) (places : List ℕ) (here k : ℕ) (bodies : List Body) (trees : List Seq) (j number : ℕ) : Type 0 where
  pub body : Body
  pub tree : Seq
  pub begin : ℕ
  pub behind : here ≤ begin
  pub place_is : slice_index (places_from items here k bodies trees) j ≡ begin
  pub has : HasAt code begin (code_of_function items places begin number body tree)
  pub declared : slice_get (declared_from items k bodies trees) j ≡ Some (function_of items number body tree)
  pub good : IsCoveredBody items number body tree
  pub traps : (q : TrapPlace) → IsAmong q (traps_of_function items begin number body tree) → IsAmong q (traps_from items here k bodies trees)

-- a function's words are as many, whatever the distances
pub function_size_is : (items : List Item) (places : List ℕ) (here k : ℕ) (b : Body) (tree : Seq) → length (code_of_function items places here k b tree) ≡ size_of items k b tree
function_size_is items places here k b tree =
    function_length (around items k b tree (distances places here)) no_distance (context_at items k b) tree
    ∙ sym (function_length (around items k b tree no_distance) no_distance (context_at items k b) tree)

module _ (code : List (Option Op)) (items : List Item) (places : List ℕ) where
  first_placed : (here k number : ℕ) (b : Body) (bodies : List Body) (tree : Seq) (trees : List Seq) → k + 0 ≡ number → IsCoveredBody items k b tree
      → HasAt code here (code_of_function items places here k b tree) → Placed code items places here k (b ∷ bodies) (tree ∷ trees) 0 number
  first_placed here k number b bodies tree trees e good has =
      let same : k ≡ number = omega (arith, e) in
      let at_k : Placed code items places here k (b ∷ bodies) (tree ∷ trees) 0 k = record { body = b; tree = tree; begin = here; behind = omega arith; place_is = refl; has = has; declared = refl; good = good; traps = λ q x. among_left q (traps_of_function items here k b tree) (traps_from items (here + size_of items k b tree) (suc k) bodies trees) x } in
      subst (λ (n : ℕ). Placed code items places here k (b ∷ bodies) (tree ∷ trees) 0 n) same at_k

  pub placed : (here k : ℕ) (bodies : List Body) (trees : List Seq) (j number : ℕ) → k + j ≡ number → AreCoveredBodies items k bodies trees → HasAt code here (code_from items places here k bodies trees) → j < length bodies
      → Placed code items places here k bodies trees j number
  placed here k [] trees j number e good has less = absurd (omega arith)
  placed here k (b ∷ bodies) [] j number e good has less = absurd good
  placed here k (b ∷ bodies) (tree ∷ trees) zero number e good has less =
      first_placed here k number b bodies tree trees e good.0 (has_first code here (code_of_function items places here k b tree) _ has)
  placed here k (b ∷ bodies) (tree ∷ trees) (suc j) number e good has less =
      let words = code_of_function items places here k b tree in
      let behind = code_from items places (here + size_of items k b tree) (suc k) bodies trees in
      let there : here + length words ≡ here + size_of items k b tree = omega (arith, function_size_is items places here k b tree) in
      let rest = placed (here + size_of items k b tree) (suc k) bodies trees j number (omega (arith, e)) good.1
      (has_at code (here + length words) (here + size_of items k b tree) behind there (has_second code here words behind has)) (omega arith) in
      record { body = rest.body; tree = rest.tree; begin = rest.begin; behind = omega (arith, rest.behind); place_is = rest.place_is; has = rest.has; declared = rest.declared; good = rest.good; traps = λ q x. among_right q (traps_of_function items here k b tree) (traps_from items (here + size_of items k b tree) (suc k) bodies trees) (rest.traps q x) }

code_in_range : (items : List Item) (places : List ℕ) (here k : ℕ) (bodies : List Body) (trees : List Seq) → AreCoveredBodies items k bodies trees → AllInRange (code_from items places here k bodies trees)
code_in_range items places here k [] [] good = tt
code_in_range items places here k [] (tree ∷ trees) good = absurd good
code_in_range items places here k (b ∷ bodies) [] good = absurd good
code_in_range items places here k (b ∷ bodies) (tree ∷ trees) good =
    both_in_range (code_of_function items places here k b tree) (code_from items places (here + size_of items k b tree) (suc k) bodies trees)
    (function_in_range (around items k b tree (distances places here)) (context_at items k b) tree good.0.covered)
    (code_in_range items places (here + size_of items k b tree) (suc k) bodies trees good.1)

-- ---- the text

pub code_is_short : (m : Module) → length (text_of m) ≤ 2 ^ 26 → length (code_of (map word_of (text_of m))) ≤ 2 ^ 26
code_is_short m short = omega (arith, length-map (map word_of (text_of m)) decoded, length-map (text_of m) word_of)

-- its number of words is the one that verdicts speak of
functions_length : (items : List Item) (places : List ℕ) (here k : ℕ) (bodies : List Body) (trees : List Seq) → AreCoveredBodies items k bodies trees → length (code_from items places here k bodies trees) ≡ sizes items k bodies trees
functions_length items places here k [] [] good = refl
functions_length items places here k [] (tree ∷ trees) good = absurd good
functions_length items places here k (b ∷ bodies) [] good = absurd good
functions_length items places here k (b ∷ bodies) (tree ∷ trees) good =
    let words = code_of_function items places here k b tree in
    let behind = code_from items places (here + size_of items k b tree) (suc k) bodies trees in
    let one = function_size_is items places here k b tree in
    length-append words behind ∙ omega (arith, one, functions_length items places (here + size_of items k b tree) (suc k) bodies trees good.1)

pub text_length : (m : Module) → IsCoveredModule m → length (text_of m) ≡ front_size m.items + sizes m.items 0 m.bodies m.trees
text_length m good =
    let stubs = stubs_from (context_of m.items) 0 m.items in
    let functions = code_from m.items (places_of_functions m) (front_size m.items) 0 m.bodies m.trees in
    let stubbed = stubs_length (context_of m.items) 0 m.items in
    let counted = functions_length m.items (places_of_functions m) (front_size m.items) 0 m.bodies m.trees good.bodies in
    length-append exit_stub (stubs ++ functions) ∙ omega (arith, length-append stubs functions, stubbed, counted)

module _ (m : Module) (good : IsCoveredModule m) where
  abbrev pub code : List (Option Op)
  code = code_of (map word_of (text_of m))

  abbrev functions : List Op
  functions = code_from m.items (places_of_functions m) (front_size m.items) 0 m.bodies m.trees

  abbrev stubs : List Op
  stubs = stubs_from (context_of m.items) 0 m.items

  stubs_in_range : AllInRange (stubs_from (context_of m.items) 0 m.items)
  stubs_in_range = each_stub_in_range (context_of m.items) 0 m.items

  pub text_in_range : AllInRange (text_of m)
  text_in_range =
      both_in_range exit_stub (stubs ++ functions) exit_in_range (both_in_range stubs functions stubs_in_range (code_in_range m.items (places_of_functions m) (front_size m.items) 0 m.bodies m.trees good.bodies))

  whole : HasAt (code_of (map word_of (text_of m))) 0 (text_of m)
  whole = subst (λ (text : List ℕ). HasAt (code_of text) 0 (text_of m)) (append-nil (map word_of (text_of m))) (words_stand [] (text_of m) [] text_in_range)

  pub exit_stands : HasAt (code_of (map word_of (text_of m))) 0 exit_stub
  exit_stands = has_first (code_of (map word_of (text_of m))) 0 exit_stub (stubs ++ functions) whole

  pub stubs_stand : HasAt (code_of (map word_of (text_of m))) (length exit_stub) (stubs_from (context_of m.items) 0 m.items)
  stubs_stand = has_first (code_of (map word_of (text_of m))) (length exit_stub) stubs functions (has_second code 0 exit_stub (stubs ++ functions) whole)

  functions_stand : HasAt (code_of (map word_of (text_of m))) (front_size m.items) functions
  functions_stand =
      let last = has_second code (length exit_stub) stubs functions (has_second code 0 exit_stub (stubs ++ functions) whole) in
      has_at code (length exit_stub + length stubs) (front_size m.items) functions (omega (arith, stubs_length (context_of m.items) 0 m.items)) last

  pub function_stands : (f : ℕ) → f < length m.bodies → Placed (code_of (map word_of (text_of m))) m.items (places_of_functions m) (front_size m.items) 0 m.bodies m.trees f f
  function_stands f less =
      placed code m.items (places_of_functions m) (front_size m.items) 0 m.bodies m.trees f f (omega arith) good.bodies functions_stand less
