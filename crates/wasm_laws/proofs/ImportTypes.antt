-- The type of an import has one result at most.
use Rattle.std.proofs.Common.{◌≡◌, ℕ, ◌≤◌, true, List, [], ◌∷◌, ◌++◌, length, Option, None, Some, refl, sym, subst, append_assoc}
use Rattle.std.specs.Prelude.{slice_get}
use Rattle.std.proofs.lemmas.Bool.{leb-true}
use Rattle.wasm_defs.specs.declared.item.Item.{Item}
use Rattle.wasm_defs.specs.declared.item.Item.TheVariants.{Imported}
use Rattle.wasm_defs.specs.declared.types.FuncType.{FuncType}
use Rattle.wasm_defs.specs.Context.{types_of, type_or_empty}
use Rattle.wasm_defs.specs.Outside.{module_read}
use Rattle.wasm_defs.specs.Faults.{is_import_type, Module, IsModule}
use Rattle.wasm_defs.proofs.ItemLaws.{types_of-append}
use Rattle.wasm_laws.specs.Behind.{UsesKeep}
use Rattle.wasm_laws.specs.Kept.{ImportsReturnOne}
use Rattle.wasm_laws.proofs.Behind.{uses_keep}
use Rattle.wasm_laws.proofs.Starts.{found_more}

abbrev ReturnsOne : FuncType → Type 0
ReturnsOne t = length t.results ≤ 1

-- a type that serves is there
returns_one : (o : Option FuncType) → is_import_type o ≡ true → (t : FuncType) × (o ≡ Some t) × ReturnsOne t
returns_one None e = absurd cc
returns_one (Some t) e = (t, refl, leb-true (length t.results) 1 e)

-- and stays there with more types after it
found_type : (types more : List FuncType) (i : ℕ) → is_import_type (slice_get types i) ≡ true → ReturnsOne (type_or_empty (slice_get (types ++ more) i))
found_type types more i e =
    let x = returns_one (slice_get types i) e in
    subst (λ (o : Option FuncType). ReturnsOne (type_or_empty o)) (sym (found_more types more i x.0 x.1)) x.2

import_returns_one : (before xs : List Item) (i : ℕ) → is_import_type (slice_get (types_of before) i) ≡ true → ReturnsOne (type_or_empty (slice_get (types_of (before ++ xs)) i))
import_returns_one before xs i e =
    subst (λ (types : List FuncType). ReturnsOne (type_or_empty (slice_get types i))) (sym (types_of-append before xs)) (found_type (types_of before) (types_of xs) i e)

all_return_one : (before xs : List Item) → UsesKeep before xs → ImportsReturnOne (types_of (before ++ xs)) xs
all_return_one before [] keep = tt
all_return_one before (Imported from what kind i ∷ xs) keep = (
  import_returns_one before (Imported from what kind i ∷ xs) i.1 keep.0,
  behind before (Imported from what kind i) xs (all_return_one (before ++ Imported from what kind i ∷ []) xs keep.1),
)
  where
    behind : (before : List Item) (x : Item) (xs : List Item) → ImportsReturnOne (types_of ((before ++ x ∷ []) ++ xs)) xs → ImportsReturnOne (types_of (before ++ x ∷ xs)) xs
    behind before x xs h = subst (λ (l : List Item). ImportsReturnOne (types_of l) xs) (append_assoc before (x ∷ []) xs) h
all_return_one before (x ∷ xs) keep = subst (λ (l : List Item). ImportsReturnOne (types_of l) xs) (append_assoc before (x ∷ []) xs) (all_return_one (before ++ x ∷ []) xs keep.1)

pub imports_return_one : (bytes : List ℕ) (m : Module) → IsModule bytes m → ImportsReturnOne (types_of m.items) m.items
imports_return_one bytes m is = all_return_one [] m.items (subst (UsesKeep []) (sym is.items) (uses_keep [] 0 (module_read bytes).parts m.trees is.valid))
