-- The entries of a module's items, and what they are to its run.
use Rattle.std.proofs.Common.{◌≡◌, ℕ, suc, List, [], ◌∷◌, map, length, Option, Some, refl, ap, arith}
use Rattle.wasm_defs.specs.declared.item.Extern.TheVariants as extern
use Rattle.wasm_defs.specs.declared.item.Item.{Item}
use Rattle.wasm_defs.specs.declared.item.Item.TheVariants.{Imported, Global, Exported, Element, Passive, Segment}
use Rattle.wasm_defs.specs.Typing.{Context}
use Rattle.wasm_defs.specs.Context.{import_count, globals_of, type_or_empty}
use Rattle.wasm_defs.specs.Instances.{imports_from, exports_of, elements_of, data_of, segments_of, values_of, i32_value}
use Rattle.wasm_defs.specs.Values.{unsigned}
use Rattle.wasm_defs.specs.Configurations as run
use Rattle.std.specs.Prelude.{slice_get}
use Rattle.index_spaces.specs.Entries.{imports_of, all_exports_of, element_rows_of, data_rows_of, initials_of, imported_functions, function_exports, written_rows, written_segments, segments_at_first, initial_values}

pub imports_are_counted : (items : List Item) → length (imports_of items) ≡ import_count items
imports_are_counted [] = refl
imports_are_counted (Imported from what kind type_index ∷ xs) = omega (arith, imports_are_counted xs)
imports_are_counted (_ ∷ xs) = imports_are_counted xs

pub imports_are_functions : (items : List Item) (c : Context) (number : ℕ) → imported_functions c number (imports_of items) ≡ imports_from c number items
imports_are_functions [] c number = refl
imports_are_functions (Imported from what kind type_index ∷ xs) c number =
    ap (λ (l : List run.Function). run.Imported number (type_or_empty (slice_get c.types type_index.1)) from.0 ∷ l) (imports_are_functions xs c (suc number))
imports_are_functions (_ ∷ xs) c number = imports_are_functions xs c number

pub exports_are_of_items : (items : List Item) → function_exports (all_exports_of items) ≡ exports_of items
exports_are_of_items [] = refl
exports_are_of_items (Exported name (at, extern.Function) index ∷ xs) = ap (λ (l : List (List ℕ × ℕ)). (name.1, index.1) ∷ l) (exports_are_of_items xs)
exports_are_of_items (Exported name (at, extern.Table) index ∷ xs) = exports_are_of_items xs
exports_are_of_items (Exported name (at, extern.Memory) index ∷ xs) = exports_are_of_items xs
exports_are_of_items (Exported name (at, extern.Global) index ∷ xs) = exports_are_of_items xs
exports_are_of_items (_ ∷ xs) = exports_are_of_items xs

pub elements_are_of_items : (items : List Item) → written_rows (element_rows_of items) ≡ elements_of items
elements_are_of_items [] = refl
elements_are_of_items (Element table place functions ∷ xs) =
    ap (λ (l : List (ℕ × List (Option ℕ))). (i32_value place, map Some functions.1) ∷ l) (elements_are_of_items xs)
elements_are_of_items (_ ∷ xs) = elements_are_of_items xs

pub segments_are_of_items : (items : List Item) → written_segments (data_rows_of items) ≡ data_of items
segments_are_of_items [] = refl
segments_are_of_items (Segment form memory place bytes ∷ xs) = ap (λ (l : List (ℕ × List ℕ)). (i32_value place, bytes.1) ∷ l) (segments_are_of_items xs)
segments_are_of_items (_ ∷ xs) = segments_are_of_items xs

pub bytes_are_of_items : (items : List Item) → segments_at_first (data_rows_of items) ≡ segments_of items
bytes_are_of_items [] = refl
bytes_are_of_items (Passive form bytes ∷ xs) = ap (λ (l : List (List ℕ)). bytes.1 ∷ l) (bytes_are_of_items xs)
bytes_are_of_items (Segment form memory place bytes ∷ xs) = ap (λ (l : List (List ℕ)). [] ∷ l) (bytes_are_of_items xs)
bytes_are_of_items (_ ∷ xs) = bytes_are_of_items xs

pub values_are_of_items : (items : List Item) → initial_values (globals_of items) (initials_of items) ≡ values_of items
values_are_of_items [] = refl
values_are_of_items (Global ty mutable init ∷ xs) = ap (λ l. record { ty = ty.1; number = unsigned ty.1 init.value.1 } ∷ l) (values_are_of_items xs)
values_are_of_items (_ ∷ xs) = values_are_of_items xs
