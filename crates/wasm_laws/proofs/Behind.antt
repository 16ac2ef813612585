-- After a body are data segments alone, so that the items before it say all that bodies may name.
use Rattle.std.proofs.Common.{◌≡◌, ℕ, suc, ◌+◌, ◌≤◌, List, [], ◌∷◌, ◌++◌, length, max, Option, refl, ap, subst, sym, ◌∙◌, append_assoc, arith, None, append-nil}
use Rattle.std.specs.Option.{option_or}
use Rattle.wasm_defs.specs.declared.context.GlobalType.{GlobalType}
use Rattle.wasm_defs.specs.declared.item.Item.{Item}
use Rattle.wasm_defs.specs.declared.item.Item.TheVariants.{Passive, Segment}
use Rattle.wasm_defs.specs.declared.item.Limits.{Limits}
use Rattle.wasm_defs.specs.declared.types.FuncType.{FuncType}
use Rattle.wasm_defs.specs.Context.{types_of, functions_of, import_count, declared_count, tables_of, memories_of, globals_of, data_count_of, context_of, body_context, type_of_function}
use Rattle.wasm_defs.specs.Entries.{or_zero}
use Rattle.wasm_defs.specs.Faults.{items_of, bodies_of, read_of, context_at, IsValidCode, AreValid, Module, IsModule}
use Rattle.wasm_defs.specs.Outside.{Body, Part, Section, Listed, Coded, module_read}
use Rattle.wasm_defs.specs.Trees.{Seq}
use Rattle.wasm_defs.specs.Typing.{Context}
use Rattle.wasm_defs.proofs.ItemLaws.{types_of-append, functions_of-append, tables_of-append, memories_of-append, globals_of-append, import_count-append, declared_count-append, data_count_of-append, option_or-none}
use Rattle.wasm_laws.specs.Behind.{AreSegments, SayTheSame, StandBehind, UsesKeep, AreValidIn}
use Rattle.wasm_laws.proofs.Sorted.{AreSorted, parts_are_sorted}

-- ---- segments add nothing

abbrev AddNothing : List Item → Type 0
AddNothing ys =
    (types_of ys ≡ []) × (functions_of ys ≡ []) × (import_count ys ≡ 0) × (declared_count ys ≡ 0) × (tables_of ys ≡ []) × (memories_of ys ≡ []) × (globals_of ys ≡ []) × (data_count_of ys ≡ None)

add_nothing : (ys : List Item) → AreSegments ys → AddNothing ys
add_nothing [] h = (refl, refl, refl, refl, refl, refl, refl, refl)
add_nothing (Passive form bytes ∷ ys) h = add_nothing ys h
add_nothing (Segment form memory place bytes ∷ ys) h = add_nothing ys h
add_nothing (_ ∷ ys) h = absurd h

none_more : {A : Type 0} (all xs ys : List A) → all ≡ xs ++ ys → ys ≡ [] → all ≡ xs
none_more all xs ys e none = e ∙ ap (λ l. xs ++ l) none ∙ append-nil xs

-- a context of these lists, and of so many data segments
abbrev made_of : List FuncType → List ℕ → List Limits → List Limits → Option ℕ → List GlobalType → Context
made_of types functions tables memories data_count globals = record {
  types = types;
  functions = functions;
  tables = length tables;
  memories = length memories;
  segments = or_zero data_count;
  globals = globals;
  locals = [];
  results = [];
  labels = [];
}

segments_say_nothing : (xs ys : List Item) → AreSegments ys → SayTheSame (xs ++ ys) xs
segments_say_nothing xs ys h =
    let n = add_nothing ys h in
    let types = none_more _ (types_of xs) _ (types_of-append xs ys) n.0 in
    let functions = none_more _ (functions_of xs) _ (functions_of-append xs ys) n.1 in
    let tables = none_more _ (tables_of xs) _ (tables_of-append xs ys) n.4 in
    let memories = none_more _ (memories_of xs) _ (memories_of-append xs ys) n.5 in
    let globals = none_more _ (globals_of xs) _ (globals_of-append xs ys) n.6 in
    let counted = data_count_of-append xs ys ∙ ap (option_or (data_count_of xs)) n.7 ∙ option_or-none (data_count_of xs) in
    let context : made_of (types_of (xs ++ ys)) (functions_of (xs ++ ys)) (tables_of (xs ++ ys)) (memories_of (xs ++ ys)) (data_count_of (xs ++ ys)) (globals_of (xs ++ ys))
    ≡ made_of (types_of xs) (functions_of xs) (tables_of xs) (memories_of xs) (data_count_of xs) (globals_of xs) = rw (types, functions, tables, memories, globals, counted) refl in
    record { context = context; imports = omega (arith, import_count-append xs ys, n.2); declared = omega (arith, declared_count-append xs ys, n.3); tables = tables; memories = memories; data_count = counted }

-- ---- after a body

items_around : (front : List Part) (b : Body) (back : List Part) → items_of (front ++ Coded b ∷ back) ≡ items_of front ++ items_of back
items_around [] b back = refl
items_around (Section at id ∷ front) b back = items_around front b back
items_around (Listed x ∷ front) b back = ap (λ (l : List Item). x ∷ l) (items_around front b back)
items_around (Coded a ∷ front) b back = items_around front b back

sorted_behind : (before id : ℕ) (front : List Part) (b : Body) (back : List Part) → AreSorted before id (front ++ Coded b ∷ back) → AreSorted 11 11 back
sorted_behind before id [] b back h = h.2
sorted_behind before id (Section at next ∷ front) b back h = sorted_behind (max before id) next front b back h
sorted_behind before id (Listed x ∷ front) b back h = sorted_behind before id front b back h.2
sorted_behind before id (Coded a ∷ front) b back h = sorted_behind 11 11 front b back h.2

-- no section but that of data segments comes after the code section
late_are_segments : (before id : ℕ) (parts : List Part) → 11 ≤ before → AreSorted before id parts → AreSegments (items_of parts)
late_are_segments before id [] le h = tt
late_are_segments before id (Section at next ∷ parts) le h = late_are_segments (max before id) next parts (omega arith) h
late_are_segments before id (Listed (Passive form bytes) ∷ parts) le h = late_are_segments before id parts le h.2
late_are_segments before id (Listed (Segment form memory place bytes) ∷ parts) le h = late_are_segments before id parts le h.2
late_are_segments before id (Listed x ∷ parts) le h = absurd (omega (arith, h.0, h.1))
late_are_segments before id (Coded b ∷ parts) le h = late_are_segments 11 11 parts (omega arith) h.2

pub segments_behind : (bytes : List ℕ) (front : List Part) (b : Body) (back : List Part) → (module_read bytes).parts ≡ front ++ Coded b ∷ back → AreSegments (items_of back)
segments_behind bytes front b back e = late_are_segments 11 11 back (omega arith) (sorted_behind 0 0 front b back (subst (AreSorted 0 0) e (parts_are_sorted bytes)))

pub bodies_stand_behind : (bytes : List ℕ) (front : List Part) (b : Body) (back : List Part) → (module_read bytes).parts ≡ front ++ Coded b ∷ back → StandBehind (module_read bytes).parts front back
bodies_stand_behind bytes front b back e =
    let segments = segments_behind bytes front b back e in
    let items : items_of (module_read bytes).parts ≡ items_of front ++ items_of back = ap items_of e ∙ items_around front b back in
    record { segments = segments; same = subst (λ (l : List Item). SayTheSame l (items_of front)) (sym items) (segments_say_nothing (items_of front) (items_of back) segments) }

-- ---- valid bodies

pub same_context : (all first : List Item) (k : ℕ) (b : Body) → SayTheSame all first → context_at first k b ≡ context_at all k b
same_context all first k b h = made_at (context_of all) (context_of first) (import_count all) (import_count first) h.context h.imports
  where
    made_at : (c d : Context) (m n : ℕ) → c ≡ d → m ≡ n → body_context d (type_of_function d (n + k)) (read_of b).groups ≡ body_context c (type_of_function c (m + k)) (read_of b).groups
    made_at c d m n e f = rw (e, f) refl

pub items_with : (front : List Part) (x : Part) → items_of (front ++ x ∷ []) ≡ items_of front ++ items_of (x ∷ [])
items_with [] x = refl
items_with (Section at id ∷ front) x = items_with front x
items_with (Listed y ∷ front) x = ap (λ (l : List Item). y ∷ l) (items_with front x)
items_with (Coded a ∷ front) x = items_with front x

no_items_more : (xs : List Item) → xs ++ [] ≡ xs
no_items_more [] = refl
no_items_more (x ∷ xs) = ap (λ (l : List Item). x ∷ l) (no_items_more xs)

-- the items before a body say the same as all
valid_in_all : (bytes : List ℕ) (front : List Part) (items : List Item) (k : ℕ) (parts : List Part) (trees : List Seq) → (module_read bytes).parts ≡ front ++ parts → items_of front ≡ items → AreValid items k parts trees → AreValidIn (items_of (module_read bytes).parts) k (bodies_of parts) trees
valid_in_all bytes front items k [] [] e same h = tt
valid_in_all bytes front items k [] (tree ∷ trees) e same h = absurd h
valid_in_all bytes front items k (Section at id ∷ parts) trees e same h =
    valid_in_all bytes (front ++ Section at id ∷ []) items k parts trees (e ∙ sym (append_assoc front (Section at id ∷ []) parts)) (items_with front (Section at id) ∙ no_items_more (items_of front) ∙ same) h
valid_in_all bytes front items k (Listed x ∷ parts) trees e same h =
    valid_in_all bytes (front ++ Listed x ∷ []) (items ++ x ∷ []) k parts trees (e ∙ sym (append_assoc front (Listed x ∷ []) parts)) (items_with front (Listed x) ∙ ap (λ (l : List Item). l ++ x ∷ []) same) h.1
valid_in_all bytes front items k (Coded b ∷ parts) [] e same h = absurd h
valid_in_all bytes front items k (Coded b ∷ parts) (tree ∷ trees) e same h =
    let all = items_of (module_read bytes).parts in
    let stands = bodies_stand_behind bytes front b parts e in
    let here : context_at items k b ≡ context_at all k b = ap (λ (l : List Item). context_at l k b) (sym same) ∙ same_context all (items_of front) k b stands.same in (
      subst (λ (c : Context). IsValidCode c (read_of b).code tree) here h.0,
      valid_in_all bytes (front ++ Coded b ∷ []) items (suc k) parts trees (e ∙ sym (append_assoc front (Coded b ∷ []) parts)) (items_with front (Coded b) ∙ no_items_more (items_of front) ∙ same) h.1,
    )

pub uses_keep : (items : List Item) (k : ℕ) (parts : List Part) (trees : List Seq) → AreValid items k parts trees → UsesKeep items (items_of parts)
uses_keep items k [] trees v = tt
uses_keep items k (Section at id ∷ parts) trees v = uses_keep items k parts trees v
uses_keep items k (Listed x ∷ parts) trees v = (v.0, uses_keep (items ++ x ∷ []) k parts trees v.1)
uses_keep items k (Coded b ∷ parts) [] v = absurd v
uses_keep items k (Coded b ∷ parts) (tree ∷ trees) v = uses_keep items (suc k) parts trees v.1

pub bodies_are_valid : (bytes : List ℕ) (m : Module) → IsModule bytes m → AreValidIn m.items 0 m.bodies m.trees
bodies_are_valid bytes m is =
    rw (is.items, is.bodies) (valid_in_all bytes [] [] 0 (module_read bytes).parts m.trees refl refl is.valid)
