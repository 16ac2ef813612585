-- The function of each body has a type: all type indices of functions are below the number of types before them.
use Rattle.std.proofs.Common.{◌≡◌, ℕ, zero, suc, ◌+◌, ◌<◌, Bool, true, false, cond, List, [], ◌∷◌, ◌++◌, length, get_or, refl, subst, ap, ◌∙◌, arith, length-append, inl, inr}
use Rattle.std.specs.Prelude.{slice_get, IsSome, All}
use Rattle.std.proofs.lemmas.Bool.{cases_lt, lt-ltb, le-ltb}
use Rattle.std.proofs.lemmas.Option.{slice_get-get_or}
use Rattle.std.proofs.lemmas.List.Elements.{All-nil, All-cons, All-append, All-weaker, All-get_or}
use Rattle.wasm_defs.specs.declared.fault.Kind.{Kind}
use Rattle.wasm_defs.specs.declared.item.Item.{Item}
use Rattle.wasm_defs.specs.declared.item.Item.TheVariants.{Signature, Imported, Function}
use Rattle.wasm_defs.specs.declared.types.FuncType.{FuncType}
use Rattle.wasm_defs.specs.Fields.{Cursor, Reader, ◌>>=◌, done, refused, u32}
use Rattle.wasm_defs.specs.Entries.{Seen, note, index, signature, imported, function, table, memory, global, exported, start, element, code, data_count, passive, segment}
use Rattle.wasm_defs.specs.Outside.{Part, Section, Listed, Coded, entered, module_read}
use Rattle.wasm_defs.specs.Context.{types_of, functions_of, import_count, declared_count, context_of}
use Rattle.wasm_defs.specs.Faults.{items_of}
use Rattle.wasm_defs.specs.Typing.{Context, function_type}
use Rattle.wasm_defs.proofs.ItemLaws.{types_of-append, functions_of-append, declared_count-append, functions_of-counts}
use Rattle.wasm_laws.specs.Counts.{AreDeclared}
use Rattle.wasm_laws.specs.Typed.{AreTyped}
use Rattle.wasm_laws.proofs.Steady.{IfGot, always}
use Rattle.wasm_laws.proofs.Sorts.{Yields}
use Rattle.wasm_laws.proofs.Parts.{then_got}
use Rattle.wasm_laws.proofs.Headers.{entered_as}
use Rattle.wasm_laws.proofs.Noted.{OfEntries, of_module}
use Rattle.wasm_laws.proofs.Counts.{bodies_are_declared}

-- ---- indices of types

-- a function has a type among so many
abbrev pub IsIndexed : ℕ → Item → Type 0
IsIndexed types (Imported from what kind type_index) = type_index.1 < types
IsIndexed types (Function type_index) = type_index.1 < types
IsIndexed types _ = Unit {0}

-- so of each item, where so many types are before the items
abbrev pub AreIndexed : ℕ → List Item → Type 0
AreIndexed types [] = Unit {0}
AreIndexed types (x ∷ xs) = IsIndexed types x × AreIndexed (types + length (types_of (x ∷ []))) xs

note_types : (s : Seen) (x : Item) → (note s x).types ≡ s.types + length (types_of (x ∷ []))
note_types s (Signature form params results ty) = omega arith
note_types s _ = omega arith

-- ---- readers

pub index_below : (most : ℕ) (c : Cursor) → IfGot (λ i d. i.1 < most) (index most c)
unfolding index
index_below most c =
    then_got (λ i d. Unit {0}) (λ i d. i.1 < most) (u32 c) _ (always (u32 c))
    (λ i d t.
    elim (cases_lt i.1 most) [
      | inl lt ↦ rw (lt-ltb i.1 most lt) lt
      | inr ge ↦ rw (le-ltb i.1 most ge) tt
    ])

index_yields : (P : Item → Type 0) (most : ℕ) (f : ℕ × ℕ → Reader Item) → ((i : ℕ × ℕ) → i.1 < most → Yields P (f i)) → Yields P (index most >>= f)
index_yields P most f h = record { got = λ c. then_got (λ i d. i.1 < most) (λ x d. P x) (index most c) f (index_below most c) (λ i d lt. (h i lt).got d) }

bind_yields : {A : Type 0} (P : Item → Type 0) (p : Reader A) (f : A → Reader Item) → ((a : A) → Yields P (f a)) → Yields P (p >>= f)
bind_yields P p f h = record { got = λ c. then_got (λ a d. Unit {0}) (λ x d. P x) (p c) f (always (p c)) (λ a d t. (h a).got d) }

done_yields : (P : Item → Type 0) (x : Item) → P x → Yields P (done x)
done_yields P x h = record { got = λ c. h }

refused_yields : (P : Item → Type 0) (kind : Kind) (at : ℕ) → Yields P (refused kind at)
refused_yields P kind at = record { got = λ c. tt }

either_yields : (P : Item → Type 0) (b : Bool) (p q : Reader Item) → Yields P p → Yields P q → Yields P (cond b p q)
either_yields P true p q hp hq = hp
either_yields P false p q hp hq = hq

ruleset yielding = (bind_yields, done_yields, refused_yields, either_yields)

abbrev Indexes : (Seen → Reader Item) → Type 0
Indexes entry = (seen : Seen) → Yields (IsIndexed seen.types) (entry seen)

all_indexes : OfEntries Indexes
unfolding signature imported function table memory global exported start element code data_count segment passive
all_indexes = record {
  signatures = λ seen. search yielding depth 40;
  imports = λ seen. search (index_yields, yielding) depth 40;
  functions = λ seen. search (index_yields, yielding) depth 40;
  tables = λ seen. search yielding depth 40;
  memories = λ seen. search yielding depth 40;
  globals = λ seen. search yielding depth 40;
  exports = λ seen. search yielding depth 40;
  starts = λ seen. search yielding depth 40;
  elements = λ seen. search yielding depth 40;
  codes = λ seen. search yielding depth 40;
  data_counts = λ seen. search yielding depth 40;
  segments = λ seen. search yielding depth 40;
}

-- ---- modules

entered_types : (seen : Seen) (id : ℕ) → (entered seen id).types ≡ seen.types
entered_types seen id =
    elim (entered_as seen id) [
      | inl none ↦ rw none.1 refl
      | inr some ↦ rw some.1 refl
    ]

one_more : (seen : Seen) (x : Item) (xs : List Item) → IsIndexed seen.types x → AreIndexed (note seen x).types xs → AreIndexed seen.types (x ∷ xs)
one_more seen x xs p h = (p, subst (λ (n : ℕ). AreIndexed n xs) (note_types seen x) h)

pub items_are_indexed : (bytes : List ℕ) → AreIndexed 0 (items_of (module_read bytes).parts)
items_are_indexed bytes = of_module (λ s. s.types) IsIndexed AreIndexed (λ types. tt) one_more entered_types all_indexes bytes

-- ---- items that are added one by one

types_count : (xs ys : List Item) → length (types_of (xs ++ ys)) ≡ length (types_of xs) + length (types_of ys)
types_count xs ys = ap length (types_of-append xs ys) ∙ length-append (types_of xs) (types_of ys)

-- each function has its type among so many
pub record AreBelow (types : ℕ) (functions : List ℕ) : Type 0 where
  pub each : All (λ i. i < types) functions

pub own_below : (types : ℕ) (x : Item) → IsIndexed types x → AreBelow types (functions_of (x ∷ []))
own_below types (Imported from what kind type_index) h = record { each = All-cons (λ i. i < types) type_index.1 [] h (All-nil (λ i. i < types)) }
own_below types (Function type_index) h = record { each = All-cons (λ i. i < types) type_index.1 [] h (All-nil (λ i. i < types)) }
own_below types _ h = record { each = All-nil (λ i. i < types) }

pub all_below : (types more : ℕ) (fs gs : List ℕ) → AreBelow types fs → AreBelow types gs → AreBelow (types + more) (fs ++ gs)
all_below types more fs gs p q = record {
  each = All-weaker (λ i. i < types) (λ i. i < types + more) (λ i h. omega arith) (fs ++ gs) (All-append (λ i. i < types) fs gs p.each q.each);
}

-- ---- looking up

is_found : (types : List FuncType) (i : ℕ) → i < length types → IsSome (slice_get types i)
is_found [] i h = absurd (omega arith)
is_found (t ∷ types) zero h = refl
is_found (t ∷ types) (suc i) h = is_found types i (omega arith)

pub function_has_type : (c : Context) (f : ℕ) → f < length c.functions → AreBelow (length c.types) c.functions → IsSome (function_type c f)
function_has_type c f there typed =
    let within = All-get_or (λ i. i < length c.types) c.functions f 0 there typed.each in
    rw (slice_get-get_or c.functions f 0 there) (is_found c.types (get_or c.functions f 0) within)

-- ---- bodies

bodies_typed : (items : List Item) (bodies : ℕ) (parts : List Part) → AreBelow (length (types_of items)) (functions_of items) → AreDeclared (declared_count items) bodies parts → AreIndexed (length (types_of items)) (items_of parts) → AreTyped items bodies parts
bodies_typed items bodies [] below declared indexed = tt
bodies_typed items bodies (Section at id ∷ parts) below declared indexed = bodies_typed items bodies parts below declared indexed
bodies_typed items bodies (Listed x ∷ parts) below declared indexed =
    bodies_typed (items ++ x ∷ []) bodies parts
    (rw (types_count items (x ∷ []), functions_of-append items (x ∷ [])) (all_below (length (types_of items)) (length (types_of (x ∷ []))) (functions_of items) (functions_of (x ∷ [])) below (own_below (length (types_of items)) x indexed.0)))
    (rw (declared_count-append items (x ∷ [])) declared)
    (rw (types_count items (x ∷ [])) indexed.1)
bodies_typed items bodies (Coded b ∷ parts) below declared indexed =
    (function_has_type (context_of items) (import_count items + bodies) (omega (arith, functions_of-counts items, declared.0.before)) below, bodies_typed items (suc bodies) parts below declared.1 indexed)

pub functions_have_types : (bytes : List ℕ) → AreTyped [] 0 (module_read bytes).parts
functions_have_types bytes =
    bodies_typed [] 0 (module_read bytes).parts (record { each = All-nil (λ i. i < 0) }) (bodies_are_declared bytes) (items_are_indexed bytes)
