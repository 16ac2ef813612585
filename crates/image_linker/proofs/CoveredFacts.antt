-- The modules that verdicts accept are of covered instructions.
use Rattle.std.proofs.Common.{◌≡◌, ℕ, zero, suc, ◌+◌, ◌^◌, ◌<◌, ◌≤◌, Option, List, [], ◌∷◌, length, None, Some, refl, sym, ap, subst, arith}
use Rattle.wasm_defs.specs.declared.item.Item.{Item}
use Rattle.wasm_defs.specs.declared.item.Item.TheVariants as item
use Rattle.wasm_defs.specs.declared.types.ValType.TheVariants.{I32, I64}
use Rattle.wasm_defs.specs.declared.token.Plain.{Plain}
use Rattle.wasm_defs.specs.declared.token.Plain.TheVariants.{Load, Store, Const}
use Rattle.wasm_defs.specs.Context.{type_or_empty, type_of_function, context_of, import_count, declared_count, data_count_of, types_of, functions_of}
use Rattle.wasm_defs.specs.Entries.{or_zero}
use Rattle.wasm_defs.specs.Outside.{Body, module_read}
use Rattle.wasm_defs.specs.Trees.{Sort, Part, Seq, Nothing, Simple, Block, Loop, If, Else}
use Rattle.wasm_defs.specs.Faults.{tokens_of, read_of, context_at, IsValidCode, Module, IsModule}
use Rattle.wasm_defs.specs.Instances.{rows_of, elements_of, data_of, segments_of, instance_of, exports_of, named, start_of}
use Rattle.wasm_laws.specs.Behind.{AreValidIn}
use Rattle.wasm_defs.specs.SmallTypes.{TypeIsSmall, TypesAreSmall}
use Rattle.wasm_laws.specs.Kept.{BodyIsSmall, BodiesAreSmall, SpacesAreSmall, ConstantsFit, AreThere, TakesNothing}
use Rattle.wasm_laws.specs.Sections.{AreBytes}
use Rattle.wasm_laws.specs.Immediates.{IsInRange, TreeIsInRange}
use Rattle.wasm_laws.proofs.Behind.{bodies_are_valid}
use Rattle.wasm_laws.proofs.Bytes.{each_byte, HaveBytes, bodies_have_bytes}
use Rattle.wasm_laws.proofs.Constants.{constants_fit}
use Rattle.wasm_laws.proofs.Counts.{bodies_match}
use Rattle.wasm_laws.proofs.Counted.{entries_in, entries_are_few}
use Rattle.wasm_defs.specs.Limits.{max_entries, max_module}
use Rattle.wasm_laws.proofs.Exports.{types_are_small, function_is_small, exports_are_there, named_is_there}
use Rattle.wasm_laws.proofs.Counting.{tokens_are_few}
use Rattle.wasm_laws.proofs.Locals.{bodies_are_small}
use Rattle.wasm_laws.proofs.Ranges.{constant_fits, long_constant_fits, tree_is_in_range}
use Rattle.wasm_laws.proofs.Spaces.{spaces_are_small}
use Rattle.wasm_laws.proofs.Starts.{start_is_right}
use Rattle.wasm_laws.proofs.ImportTypes.{imports_return_one}
use Rattle.simulation.specs.Covered.{IsCoveredStep, IsCovered}
use Rattle.wasm_defs.specs.Places.{or_empty}
use Rattle.wasm_defs.specs.Typing.{Types, Context, inside, option_signature, function_type}
use Rattle.std.specs.Prelude.{slice_get}
use Rattle.std.proofs.lemmas.List.{length-reverse}
use Rattle.std.proofs.lemmas.Option.{slice_get_within}
use Rattle.wasm_defs.specs.declared.types.FuncType.{FuncType}
use Rattle.wasm_defs.specs.declared.token.BlockType.{BlockType}
use Rattle.wasm_defs.specs.declared.token.BlockType.TheVariants.{Empty, Value, Index}
use Rattle.wasm_defs.specs.declared.token.Token.{Token}
use Rattle.wasm_defs.specs.declared.token.Token.TheVariants as token
use Rattle.wasm_defs.proofs.ItemLaws.{functions_of-counts}
use Rattle.simulation.proofs.Frames.Lows.{max_lift, TakesFew, IsFew, FewIn, body_low, tokens_spelled}
use Rattle.image_linker.specs.ImageOf.{segments_at_first}
use Rattle.image_linker.proofs.CoveredModules.{IsCoveredBody, AreCoveredBodies, AreCounted, IsCoveredModule}
use Rattle.wasm_laws.proofs.ShortOffsets.{offsets_are_short}
use Rattle.wasm_laws.proofs.Described.{whole_ending}
use Rattle.image_linker.proofs.Imported.{ImportsFirst, imports_come_first}
use Rattle.image_linker.proofs.NamedRows.{joined_first}
use Rattle.image_linker.proofs.SegmentFacts.{AreHeld, segments_are_held, segments_are_counted, first_bytes}
use Rattle.image_linker.proofs.TableRows.{types_are_few}
use Rattle.image_linker.proofs.ElementFacts.{elements_are_below, row_below}

-- ---- bodies

covered_step : (p : Plain) → IsInRange p → IsCoveredStep p
covered_step (Load o m) range = range.1
covered_step (Store o m) range = range.1
covered_step (Const I32 n) range = constant_fits n range
covered_step (Const I64 n) range = long_constant_fits n range
covered_step p range = tt

type_at : (ts : List FuncType) → TypesAreSmall ts → (i : ℕ) (t : FuncType) → slice_get ts i ≡ Some t → TypeIsSmall t
type_at [] small i t e = absurd cc
type_at (u ∷ ts) small zero t e = let same : u ≡ t = cc in subst TypeIsSmall same small.0
type_at (u ∷ ts) small (suc i) t e = type_at ts small.1 i t e

small_at : (ts : List FuncType) → TypesAreSmall ts → (i : ℕ) (t : FuncType) → slice_get ts i ≡ Some t → length t.results ≤ max_lift
small_at ts small i t e = let k = type_at ts small i t e in omega (arith, k.results)

few_functions : (c : Context) → TypesAreSmall c.types → (f : ℕ) (t : FuncType) → function_type c f ≡ Some t → length t.results ≤ max_lift
few_functions c small f t e = by (slice_get c.functions f) refl
  where
    by : (o : Option ℕ) → slice_get c.functions f ≡ o → length t.results ≤ max_lift
    by None is = let h : None ≡ Some t = rw is at e in absurd cc
    by (Some i) is = let h : slice_get c.types i ≡ Some t = rw is at e in small_at c.types small i t h

few_in : (c : Context) → TypesAreSmall c.types → c.labels ≡ [] → length c.results ≤ max_lift → FewIn (inside c c.results)
few_in c small none one = record { labels = labels; functions = few_functions c small; types = small_at c.types small }
  where
    none_there : (ls : List Types) (l : ℕ) (ts : Types) → ls ≡ [] → slice_get ls l ≡ Some ts → length ts ≤ max_lift
    none_there [] l ts e is = absurd cc
    none_there (x ∷ xs) l ts e is = absurd cc

    labels : (l : ℕ) (ts : Types) → slice_get (c.results ∷ c.labels) l ≡ Some ts → length ts ≤ max_lift
    labels zero ts is = let same : c.results ≡ ts = cc in subst (λ (us : Types). length us ≤ max_lift) same one
    labels (suc l) ts is = none_there c.labels l ts none is

few_of : (o : Option FuncType) → ((t : FuncType) → o ≡ Some t → TypeIsSmall t) → (length (or_empty (option_signature o)).params ≤ max_lift) × (length (or_empty (option_signature o)).results ≤ max_lift)
few_of None small = (omega arith, omega arith)
few_of (Some t) small =
    let k = small t refl in
    (omega (arith, k.params, length-reverse t.params), omega (arith, k.results, length-reverse t.results))

takes_few : (c : Context) → TypesAreSmall c.types → (type : BlockType) → TakesFew c type
takes_few c types Empty = (omega arith, omega arith)
takes_few c types (Value t) = (omega arith, omega arith)
takes_few c types (Index x) = few_of (slice_get c.types x) (type_at c.types types x)

covered_tree : {sort : Sort} (c : Context) → TypesAreSmall c.types → (tree : Part sort) → TreeIsInRange tree → IsCovered tree × IsFew c tree
covered_tree c types Nothing range = (tt, tt)
covered_tree c types (Simple p rest) range =
    let step = covered_step p range.0 in
    let more = covered_tree c types rest range.1 in
    ((step, more.0), (step, more.1))
covered_tree c types (Block type body rest) range =
    let first = covered_tree c types body range.1 in
    let more = covered_tree c types rest range.2 in
    ((first.0, more.0), (takes_few c types type, first.1, more.1))
covered_tree c types (Loop type body rest) range =
    let first = covered_tree c types body range.1 in
    let more = covered_tree c types rest range.2 in
    ((first.0, more.0), (takes_few c types type, first.1, more.1))
covered_tree c types (If type body other rest) range =
    let first = covered_tree c types body range.1 in
    let second = covered_tree c types other range.2 in
    let more = covered_tree c types rest range.3 in
    ((first.0, second.0, more.0), (takes_few c types type, first.1, second.1, more.1))
covered_tree c types (Else other) range = covered_tree c types other range

tokens_length : (ts : List (ℕ × Token)) → length (tokens_of ts) ≡ length ts
tokens_length [] = refl
tokens_length (t ∷ ts) = ap suc (tokens_length ts)

module _ (items : List Item) (types : TypesAreSmall (context_of items).types) where
  covered_body : (k : ℕ) (b : Body) (tree : Seq) → AreBytes b.bytes → BodyIsSmall b → IsValidCode (context_at items k b) (read_of b).code tree → IsCoveredBody items k b tree
  covered_body k b tree bytes small valid =
      let c = context_at items k b in
      let tokens = (read_of b).code.tokens in
      let range = tree_is_in_range b.counted b.first b.bytes tree (each_byte b.bytes bytes) valid.tree_is in
      let ty = function_is_small (context_of items) (import_count items + k) types in
      let tree_is = covered_tree c types tree range in
      let low = body_low c c tree refl (few_in c types refl (omega (arith, ty.results, length-reverse (type_of_function (context_of items) (import_count items + k)).results))) tree_is.1 in
      let count = ap length valid.tree_is in
      let spelt = tokens_spelled tree (token.End ∷ []) in
      let whole = tokens_length tokens in
      let few = tokens_are_few b.counted b.first b.bytes in
      let locals = small.locals in
      record {
        covered = tree_is.0;
        typed = valid.typed;
        few_params = ty.params;
        fits = omega (arith, ty.params, small.most, low, count, spelt, whole, few);
      }

  covered_bodies : (k : ℕ) (bodies : List Body) (trees : List Seq) → HaveBytes bodies → BodiesAreSmall bodies → AreValidIn items k bodies trees → AreCoveredBodies items k bodies trees
  covered_bodies k [] [] bytes small valid = tt
  covered_bodies k [] (tree ∷ trees) bytes small valid = absurd valid
  covered_bodies k (b ∷ bodies) [] bytes small valid = absurd valid
  covered_bodies k (b ∷ bodies) (tree ∷ trees) bytes small valid =
      (covered_body k b tree bytes.0 small.0 valid.0, covered_bodies (suc k) bodies trees bytes.1 small.1 valid.1)

-- ---- modules

functions_are_few : (items : List Item) → length (functions_of items) ≤ entries_in 2 items + entries_in 3 items
functions_are_few [] = omega arith
functions_are_few (item.Imported from what kind type_index ∷ items) = omega (arith, functions_are_few items)
functions_are_few (item.Function type_index ∷ items) = omega (arith, functions_are_few items)
functions_are_few (x ∷ items) = functions_are_few items

module _ (bytes : List ℕ) (m : Module) (fits : AreBytes bytes) (is : IsModule bytes m) where
  -- as many declared functions as bodies
  functions_match : length (functions_of m.items) ≡ import_count m.items + length m.bodies
  functions_match =
      let whole = whole_ending (length bytes) (module_read bytes).ending is.whole in
      let matched = bodies_match bytes whole.0 whole.1 in
      omega (arith, functions_of-counts m.items, matched, ap declared_count is.items, ap length is.bodies)

  exported : (name : List ℕ) (f : ℕ) → named name (exports_of m.items) ≡ Some f → f < length (functions_of m.items)
  exported name f e =
      let there : AreThere (context_of m.items) (length (functions_of m.items)) (exports_of m.items) =
      subst (λ (items : List Item). AreThere (context_of items) (length (functions_of items)) (exports_of items)) (sym is.items) (exports_are_there bytes) in
      (named_is_there (context_of m.items) (length (functions_of m.items)) name (exports_of m.items) f there e).function

  -- a function that has a type is there
  typed_is_there : (f : ℕ) (t : FuncType) → function_type (context_of m.items) f ≡ Some t → f < length (functions_of m.items)
  typed_is_there f t e = by_index (slice_get (functions_of m.items) f) refl
    where
      by_index : (o : Option ℕ) → slice_get (functions_of m.items) f ≡ o → f < length (functions_of m.items)
      by_index None found = let wrong : None ≡ Some t = rw found at e in absurd cc
      by_index (Some index) found = slice_get_within (functions_of m.items) f index found

  started : (f : ℕ) → start_of m.items ≡ Some f → (f < length (functions_of m.items)) × TakesNothing (type_of_function (context_of m.items) f)
  started f e =
      let right = start_is_right bytes m f is e in (
        typed_is_there f right.0 right.1,
        subst TakesNothing (sym (ap type_or_empty right.1)) right.2,
      )

  small_types : TypesAreSmall (context_of m.items).types
  small_types = subst (λ (items : List Item). TypesAreSmall (context_of items).types) (sym is.items) (types_are_small bytes)

  in_rows : (a f : ℕ) → slice_get (instance_of m).table a ≡ Some (Some f) → f < length (functions_of m.items)
  in_rows a f e = row_below (length (functions_of m.items)) (rows_of m.items) a f (elements_of m.items) (elements_are_below bytes m fits is) e

  few_types : length (types_of m.items) ≤ max_entries
  few_types =
      let listed : entries_in 1 m.items ≤ max_entries = subst (λ (items : List Item). entries_in 1 items ≤ max_entries) (sym is.items) (entries_are_few 1 (λ ten. absurd cc) bytes) in
      omega (arith, types_are_few m.items)

  count_fits : import_count m.items + length m.bodies < 2 ^ 32
  count_fits =
      let two : entries_in 2 m.items ≤ max_entries = subst (λ (items : List Item). entries_in 2 items ≤ max_entries) (sym is.items) (entries_are_few 2 (λ ten. absurd cc) bytes) in
      let three : entries_in 3 m.items ≤ max_entries = subst (λ (items : List Item). entries_in 3 items ≤ max_entries) (sym is.items) (entries_are_few 3 (λ ten. absurd cc) bytes) in
      omega (arith, functions_match, functions_are_few m.items, two, three)

  abbrev count : ℕ
  count = or_zero (data_count_of m.items)

  held : AreHeld (data_of m.items) (segments_of m.items) max_module
  held = segments_are_held bytes m fits is

  few_segments : count ≤ max_entries
  few_segments =
      let small = subst SpacesAreSmall (sym is.items) (spaces_are_small bytes) in
      small.segments

  named_are_counted : AreCounted count (segments_at_first m)
  named_are_counted =
      let segments = segments_of m.items in
      record { all = segments_are_counted bytes m fits is; few = few_segments; held = omega (arith, joined_first count segments, held.few); bytes = first_bytes count segments held.others }

  pub module_is_covered : IsCoveredModule m
  module_is_covered = record {
    spaces = subst SpacesAreSmall (sym is.items) (spaces_are_small bytes);
    constants = subst ConstantsFit (sym is.items) (constants_fit bytes fits);
    segments = held;
    counted = named_are_counted;
    bodies =
        covered_bodies m.items small_types 0 m.bodies m.trees
        (subst HaveBytes (sym is.bodies) (bodies_have_bytes bytes fits)) (subst BodiesAreSmall (sym is.bodies) (bodies_are_small bytes)) (bodies_are_valid bytes m is);
    imports_first = subst ImportsFirst (sym is.items) (imports_come_first bytes);
    functions = functions_match;
    few_types = few_types;
    rows = in_rows;
    exports = exported;
    start = started;
    types = small_types;
    returns = imports_return_one bytes m is;
    short_imports = (offsets_are_short bytes m fits is).0;
    short_bodies = (offsets_are_short bytes m fits is).1;
    few_functions = count_fits;
  }
