-- Imported functions: they come first among the functions, and their stubs follow the exit stub, in order.
use Rattle.std.proofs.Common.{◌≡◌, ℕ, zero, suc, ◌+◌, ◌*◌, ◌<◌, ◌≤◌, ◌⊎◌, inl, inr, ⊎_elim, List, [], ◌∷◌, ◌++◌, length, max, Option, None, Some, refl, sym, ap, ◌∙◌, subst, arith}
use Rattle.std.specs.Prelude.{slice_get, slice_index}
use Rattle.std.proofs.lemmas.List.{length-append}
use Rattle.rv_isa.specs.declared.operations.Op.{Op}
use Rattle.rv_isa.specs.Runs.{HasAt, AllInRange}
use Rattle.wasm_defs.specs.declared.item.Item.{Item}
use Rattle.wasm_defs.specs.declared.item.Item.TheVariants.{Imported, Function}
use Rattle.wasm_defs.specs.declared.types.FuncType.{FuncType}
use Rattle.wasm_defs.specs.Configurations as run
use Rattle.wasm_defs.specs.Configurations.{type_of}
use Rattle.wasm_defs.specs.Context.{functions_of, import_count, type_or_empty}
use Rattle.wasm_defs.specs.Faults.{items_of}
use Rattle.wasm_defs.specs.Instances.{imports_from}
use Rattle.wasm_defs.specs.Outside.{Part, Section, Listed, Coded, module_read}
use Rattle.wasm_defs.specs.Typing.{Context}
use Rattle.wasm_defs.specs.SmallTypes.{TypeIsSmall, TypesAreSmall}
use Rattle.wasm_laws.specs.Kept.{ImportsReturnOne}
use Rattle.wasm_laws.proofs.Sorted.{AreSorted, parts_are_sorted}
use Rattle.frame_layout.specs.Templates.{import_stub}
use Rattle.frame_layout.proofs.Standing.{has_first, has_rest}
use Rattle.simulation.proofs.MacroRanges.{both_in_range}
use Rattle.simulation.proofs.Ranges.{stub_in_range}
use Rattle.image_format.specs.declared.image.Import.{Import}
use Rattle.frame_layout.specs.Traps.{room_trap, site_at}
use Rattle.image_format.specs.declared.image.TrapPlace.{TrapPlace}
use Rattle.image_linker.specs.ImageOf.{stub_size, stubs_from, stub_places, imports_of, place_at, stub_traps}
use Rattle.image_linker.proofs.Spread.{IsAmong}

-- ---- one list after another

pub get_left : {A : Type 0} (xs ys : List A) (i : ℕ) → i < length xs → slice_get (xs ++ ys) i ≡ slice_get xs i
get_left [] ys i less = absurd (omega arith)
get_left (x ∷ xs) ys zero less = refl
get_left (x ∷ xs) ys (suc i) less = get_left xs ys i (omega arith)

pub get_right : {A : Type 0} (xs ys : List A) (i k : ℕ) → i ≡ length xs + k → slice_get (xs ++ ys) i ≡ slice_get ys k
get_right [] ys i k e = let same : i ≡ k = omega (arith, e) in ap (slice_get ys) same
get_right (x ∷ xs) ys zero k e = absurd (omega (arith, e))
get_right (x ∷ xs) ys (suc i) k e = get_right xs ys i k (omega (arith, e))

pub index_right : (xs ys : List ℕ) (i k : ℕ) → i ≡ length xs + k → slice_index (xs ++ ys) i ≡ slice_index ys k
index_right [] ys i k e = let same : i ≡ k = omega (arith, e) in ap (slice_index ys) same
index_right (x ∷ xs) ys zero k e = absurd (omega (arith, e))
index_right (x ∷ xs) ys (suc i) k e = index_right xs ys i k (omega (arith, e))

-- ---- how many

pub imports_length : (c : Context) (number : ℕ) (items : List Item) → length (imports_from c number items) ≡ import_count items
imports_length c number [] = refl
imports_length c number (Imported from what kind type_index ∷ items) = omega (arith, imports_length c (suc number) items)
imports_length c number (x ∷ items) = imports_length c number items

pub stubs_length : (c : Context) (number : ℕ) (items : List Item) → length (stubs_from c number items) ≡ stub_size * import_count items
stubs_length c number [] = refl
stubs_length c number (Imported from what kind type_index ∷ items) =
    length-append (import_stub (length (type_or_empty (slice_get c.types type_index.1)).params) number) (stubs_from c (suc number) items)
    ∙ omega (arith, stubs_length c (suc number) items)
stubs_length c number (x ∷ items) = stubs_length c number items

pub places_length : (here n : ℕ) → length (stub_places here n) ≡ n
places_length here zero = refl
places_length here (suc n) = ap suc (places_length (here + stub_size) n)

-- ---- where

pub stub_place : (here n i p : ℕ) (ys : List ℕ) → i < n → p ≡ here + stub_size * i → slice_index (stub_places here n ++ ys) i ≡ p
stub_place here zero i p ys less e = absurd (omega arith)
stub_place here (suc n) zero p ys less e = omega (arith, e)
stub_place here (suc n) (suc i) p ys less e = stub_place (here + stub_size) n i p ys (omega arith) (omega (arith, e))

-- the i-th imported function, which has a number: its stub is at an index of the text, the image has an import of its type, and
-- among these trap sites is that of its stub
pub record IsStub (code : List (Option Op)) (c : Context) (items : List Item) (traps : List TrapPlace) (i place number : ℕ) (h : run.Function) : Type 0 where
  pub ty : FuncType
  pub from : ℕ
  pub is : h ≡ run.Imported number ty from
  pub among : IsAmong (place_at place number (site_at 0 from room_trap)) traps
  pub has : HasAt code place (import_stub (length ty.params) number)
  pub small : TypeIsSmall ty
  pub one_result : length ty.results ≤ 1
  pub import : Import
  pub found : slice_get (imports_of c items) i ≡ Some import
  pub signature : import.signature ≡ ty

pub small_at : (types : List FuncType) (i : ℕ) → TypesAreSmall types → TypeIsSmall (type_or_empty (slice_get types i))
small_at [] i h = record { params = omega arith; results = omega arith }
small_at (t ∷ types) zero h = h.0
small_at (t ∷ types) (suc i) h = small_at types i h.1

module _ (code : List (Option Op)) (c : Context) (types : TypesAreSmall c.types) where
  pub stub_stands : (items : List Item) (here first i place number : ℕ) (h : run.Function) → ImportsReturnOne c.types items → place ≡ here + stub_size * i → number ≡ first + i → HasAt code here (stubs_from c first items)
      → slice_get (imports_from c first items) i ≡ Some h → IsStub code c items (stub_traps here first items) i place number h
  stub_stands [] here first i place number h one p n has e = absurd cc
  stub_stands (Imported from what kind type_index ∷ items) here first zero place number h one p n has e =
      let ty = type_or_empty (slice_get c.types type_index.1) in
      let same : run.Imported first ty from.0 ≡ h = cc in
      let number_is : first ≡ number = omega (arith, n) in
      let place_is : here ≡ place = omega (arith, p) in
      let stub = has_first code here (import_stub (length ty.params) first) (stubs_from c (suc first) items) has in
      record {
        ty = ty;
        from = from.0;
        is = sym same ∙ ap (λ (k : ℕ). run.Imported k ty from.0) number_is;
        among = inl (ap (λ (q : ℕ). place_at q number (site_at 0 from.0 room_trap)) (sym place_is) ∙ ap (λ (k : ℕ). place_at here k (site_at 0 from.0 room_trap)) (sym number_is));
        has = subst (λ (q : ℕ). HasAt code q (import_stub (length ty.params) number)) place_is (subst (λ (k : ℕ). HasAt code here (import_stub (length ty.params) k)) number_is stub);
        small = small_at c.types type_index.1 types;
        one_result = one.0;
        import = record { «module» = from.1; name = what.1; signature = ty };
        found = refl;
        signature = refl;
      }
  stub_stands (Imported from what kind type_index ∷ items) here first (suc i) place number h one p n has e =
      let ty = type_or_empty (slice_get c.types type_index.1) in
      let stub = import_stub (length ty.params) first in
      let x = stub_stands items (here + length stub) (suc first) i place number h one.1 (omega (arith, p)) (omega (arith, n)) (has_rest code here stub (stubs_from c (suc first) items) has) e in
      record { ty = x.ty; from = x.from; is = x.is; among = inr x.among; has = x.has; small = x.small; one_result = x.one_result; import = x.import; found = x.found; signature = x.signature }
  stub_stands (x ∷ items) here first i place number h one p n has e =
      let y = stub_stands items here first i place number h one p n has e in
      record { ty = y.ty; from = y.from; is = y.is; among = y.among; has = y.has; small = y.small; one_result = y.one_result; import = y.import; found = y.found; signature = y.signature }

-- the fields of their words fit
pub each_stub_in_range : (c : Context) (number : ℕ) (items : List Item) → AllInRange (stubs_from c number items)
each_stub_in_range c number [] = tt
each_stub_in_range c number (Imported from what kind type_index ∷ items) =
    let params = length (type_or_empty (slice_get c.types type_index.1)).params in
    both_in_range (import_stub params number) (stubs_from c (suc number) items) (stub_in_range params number) (each_stub_in_range c (suc number) items)
each_stub_in_range c number (x ∷ items) = each_stub_in_range c number items

-- ---- before all declared ones

abbrev pub ImportsFirst : List Item → Type 0
ImportsFirst [] = Unit {0}
ImportsFirst (Function type_index ∷ items) = import_count items ≡ 0
ImportsFirst (x ∷ items) = ImportsFirst items

-- no import comes after the import section
late_without_imports : (before id : ℕ) (parts : List Part) → (3 ≤ before) ⊎ (3 ≤ id) → AreSorted before id parts → import_count (items_of parts) ≡ 0
late_without_imports before id [] late h = refl
late_without_imports before id (Section at next ∷ parts) late h = late_without_imports (max before id) next parts (inl (⊎_elim (λ e. omega (arith, e)) (λ e. omega (arith, e)) late)) h
late_without_imports before id (Listed (Imported from what kind type_index) ∷ parts) late h = absurd (⊎_elim (λ e. omega (arith, e, h.0, h.1)) (λ e. omega (arith, e, h.0, h.1)) late)
late_without_imports before id (Listed x ∷ parts) late h = late_without_imports before id parts late h.2
late_without_imports before id (Coded b ∷ parts) late h = late_without_imports 11 11 parts (inl (omega arith)) h.2

sorted_imports_first : (before id : ℕ) (parts : List Part) → AreSorted before id parts → ImportsFirst (items_of parts)
sorted_imports_first before id [] h = tt
sorted_imports_first before id (Section at next ∷ parts) h = sorted_imports_first (max before id) next parts h
sorted_imports_first before id (Listed (Function type_index) ∷ parts) h = late_without_imports before id parts (inr (omega (arith, h.0))) h.2
sorted_imports_first before id (Listed x ∷ parts) h = sorted_imports_first before id parts h.2
sorted_imports_first before id (Coded b ∷ parts) h = sorted_imports_first 11 11 parts h.2

pub imports_come_first : (bytes : List ℕ) → ImportsFirst (items_of (module_read bytes).parts)
imports_come_first bytes = sorted_imports_first 0 0 (module_read bytes).parts (parts_are_sorted bytes)

-- the type that a function has by its index
abbrev pub type_by : Context → Option ℕ → FuncType
type_by c None = record { params = []; results = [] }
type_by c (Some index) = type_or_empty (slice_get c.types index)

-- so an imported function has the type of its index
pub imports_typed : (c : Context) (number : ℕ) (items : List Item) (i : ℕ) (h : run.Function) → ImportsFirst items → slice_get (imports_from c number items) i ≡ Some h → type_of h ≡ type_by c (slice_get (functions_of items) i)
imports_typed c number [] i h first e = absurd cc
imports_typed c number (Imported from what kind type_index ∷ items) zero h first e =
    let same : run.Imported number (type_or_empty (slice_get c.types type_index.1)) from.0 ≡ h = cc in ap type_of (sym same)
imports_typed c number (Imported from what kind type_index ∷ items) (suc i) h first e = imports_typed c (suc number) items i h first e
imports_typed c number (Function type_index ∷ items) i h first e =
    let none : length (imports_from c number items) ≡ 0 = imports_length c number items ∙ first in absurd (nothing_there (imports_from c number items) none e)
  where
    nothing_there : (l : List run.Function) → length l ≡ 0 → slice_get l i ≡ Some h → ⊥
    nothing_there [] none e = absurd cc
    nothing_there (x ∷ l) none e = absurd (omega (arith, none))
imports_typed c number (x ∷ items) i h first e = imports_typed c number items i h first e
