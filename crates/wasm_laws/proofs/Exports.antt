-- Types are small, and exported functions and their types are there.
use Rattle.std.proofs.Common.{◌≡◌, ℕ, zero, suc, ◌+◌, ◌≤◌, ◌<◌, List, [], ◌∷◌, ◌++◌, length, Option, None, Some, refl, subst, arith, inl, inr}
use Rattle.std.specs.Prelude.{slice_get}
use Rattle.std.specs.Str.{bytes_eq}
use Rattle.std.proofs.lemmas.Bool.{cases_Bool}
use Rattle.std.proofs.lemmas.List.Elements.{All-nil, All-append, All-weaker}
use Rattle.wasm_defs.specs.declared.item.Extern.TheVariants as extern
use Rattle.wasm_defs.specs.declared.item.Item.{Item}
use Rattle.wasm_defs.specs.declared.item.Item.TheVariants.{Signature, Imported, Function, Exported}
use Rattle.wasm_defs.specs.declared.types.FuncType.{FuncType}
use Rattle.wasm_defs.specs.Context.{types_of, functions_of, context_of, type_or_empty, type_of_function}
use Rattle.wasm_defs.specs.Faults.{items_of}
use Rattle.wasm_defs.specs.Instances.{exports_of, named}
use Rattle.wasm_defs.specs.Outside.{module_read}
use Rattle.wasm_defs.specs.Typing.{Context}
use Rattle.wasm_defs.specs.SmallTypes.{TypeIsSmall, TypesAreSmall}
use Rattle.wasm_laws.specs.Kept.{IsThere, AreThere}
use Rattle.wasm_laws.proofs.Typed.{AreIndexed, AreBelow, own_below, function_has_type, items_are_indexed}
use Rattle.wasm_laws.proofs.Kept.{AreKept, items_are_kept}

-- ---- types

kept_are_small : (functions : ℕ) (items : List Item) → AreKept functions items → TypesAreSmall (types_of items)
kept_are_small functions [] h = tt
kept_are_small functions (Signature form params results ty ∷ xs) h = (h.0, kept_are_small (functions + 0) xs h.1)
kept_are_small functions (x ∷ xs) h = kept_are_small (functions + length (functions_of (x ∷ []))) xs h.1

pub types_are_small : (bytes : List ℕ) → TypesAreSmall (types_of (items_of (module_read bytes).parts))
types_are_small bytes = kept_are_small 0 (items_of (module_read bytes).parts) (items_are_kept bytes)

found_is_small : (types : List FuncType) (i : ℕ) → TypesAreSmall types → TypeIsSmall (type_or_empty (slice_get types i))
found_is_small [] i h = record { params = omega arith; results = omega arith }
found_is_small (f ∷ types) zero h = h.0
found_is_small (f ∷ types) (suc i) h = found_is_small types i h.1

-- so is the type of any function, where one that isn't there has no parameters and no result
pub function_is_small : (c : Context) (i : ℕ) → TypesAreSmall c.types → TypeIsSmall (type_of_function c i)
function_is_small c i h = of_index (slice_get c.functions i)
  where
    -- the type that the function names
    looked_up : Option ℕ → Option FuncType
    looked_up None = None
    looked_up (Some t) = slice_get c.types t

    of_index : (o : Option ℕ) → TypeIsSmall (type_or_empty (looked_up o))
    of_index None = record { params = omega arith; results = omega arith }
    of_index (Some t) = found_is_small c.types t h

-- ---- functions

types_cons : (x : Item) (xs : List Item) → length (types_of (x ∷ xs)) ≡ length (types_of (x ∷ [])) + length (types_of xs)
types_cons (Signature form params results ty) xs = omega arith
types_cons _ xs = omega arith

functions_cons : (x : Item) (xs : List Item) → length (functions_of (x ∷ xs)) ≡ length (functions_of (x ∷ [])) + length (functions_of xs)
functions_cons (Imported from what kind i) xs = omega arith
functions_cons (Function i) xs = omega arith
functions_cons _ xs = omega arith

functions_first : (x : Item) (xs : List Item) → functions_of (x ∷ xs) ≡ functions_of (x ∷ []) ++ functions_of xs
functions_first (Imported from what kind i) xs = refl
functions_first (Function i) xs = refl
functions_first _ xs = refl

below_more : (n m : ℕ) (functions : List ℕ) → n ≤ m → AreBelow n functions → AreBelow m functions
below_more n m functions le h = record { each = All-weaker (λ i. i < n) (λ i. i < m) (λ i lt. omega arith) functions h.each }

-- the types of all functions are there
indexed_are_below : (types : ℕ) (items : List Item) → AreIndexed types items → AreBelow (types + length (types_of items)) (functions_of items)
indexed_are_below types [] h = record { each = All-nil (λ i. i < types + 0) }
indexed_are_below types (x ∷ xs) h =
    let one = length (types_of (x ∷ [])) in
    let all = types + length (types_of (x ∷ xs)) in
    let count = types_cons x xs in
    let first = below_more types all (functions_of (x ∷ [])) (omega arith) (own_below types x h.0) in
    let others = below_more (types + one + length (types_of xs)) all (functions_of xs) (omega arith) (indexed_are_below (types + one) xs h.1) in
    rw (functions_first x xs) (below_append all (functions_of (x ∷ [])) (functions_of xs) first others)
  where
    below_append : (n : ℕ) (fs gs : List ℕ) → AreBelow n fs → AreBelow n gs → AreBelow n (fs ++ gs)
    below_append n fs gs p q = record { each = All-append (λ i. i < n) fs gs p.each q.each }

pub functions_are_typed : (bytes : List ℕ) → let c = context_of (items_of (module_read bytes).parts) in AreBelow (length c.types) c.functions
functions_are_typed bytes =
    let items = items_of (module_read bytes).parts in
    below_more (0 + length (types_of items)) (length (types_of items)) (functions_of items) (omega arith) (indexed_are_below 0 items (items_are_indexed bytes))

-- ---- exports

module _ (c : Context) (typed : AreBelow (length c.types) c.functions) where
  kept_are_there : (functions : ℕ) (items : List Item) → AreKept functions items → functions + length (functions_of items) ≤ length c.functions → AreThere c (length c.functions) (exports_of items)
  kept_are_there functions [] h le = tt
  kept_are_there functions (Exported name (at, extern.Function) index ∷ xs) h le =
      let lt : index.1 < length c.functions = omega (arith, h.0) in
      (record { function = lt; typed = function_has_type c index.1 lt typed }, kept_are_there (functions + 0) xs h.1 (omega arith))
  kept_are_there functions (x ∷ xs) h le = kept_are_there (functions + length (functions_of (x ∷ []))) xs h.1 (omega (arith, functions_cons x xs))

pub exports_are_there : (bytes : List ℕ) → let items = items_of (module_read bytes).parts in AreThere (context_of items) (length (functions_of items)) (exports_of items)
exports_are_there bytes =
    let items = items_of (module_read bytes).parts in
    kept_are_there (context_of items) (functions_are_typed bytes) 0 items (items_are_kept bytes) (omega arith)

-- the function of an exported name
pub named_is_there : (c : Context) (functions : ℕ) (name : List ℕ) (exports : List (List ℕ × ℕ)) (index : ℕ) → AreThere c functions exports → named name exports ≡ Some index → IsThere c functions index
named_is_there c functions name [] index h e = absurd cc
named_is_there c functions name (x ∷ exports) index h e =
    elim (cases_Bool (bytes_eq name x.0)) [
      | inl same ↦ let is : Some x.1 ≡ Some index = rw same at e in let found : x.1 ≡ index = cc in subst (λ (i : ℕ). IsThere c functions i) found h.0
      | inr other ↦ named_is_there c functions name exports index h.1 (rw other at e)
    ]
