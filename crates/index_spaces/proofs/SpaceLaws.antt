-- Items that are added to a module, one by one.
use Rattle.std.proofs.Common.{◌≡◌, List, [], ◌∷◌, ◌++◌, None, Some, refl, ap, append-nil, add-zero}
use Rattle.std.proofs.Common.{length-append}
use Rattle.std.specs.Option.{option_or}
use Rattle.wasm_defs.specs.declared.item.Item.{Item}
use Rattle.wasm_defs.specs.declared.item.Item.TheVariants.{Signature, Imported, Function, Table, Memory, Global, Exported, Start, Element, Code, DataCount, Passive, Segment}
use Rattle.wasm_defs.specs.Instances.{start_of, i32_value}
use Rattle.wasm_defs.proofs.ItemLaws.{types_of-append, functions_of-append, import_count-append, declared_count-append, tables_of-append, memories_of-append, globals_of-append, data_count_of-append, option_or-none}
use Rattle.index_spaces.specs.Entries.{imports_of, all_exports_of, element_rows_of, data_rows_of, initials_of}
use Rattle.index_spaces.specs.Spaces.{spaces_of, with_item}

imports_of-append : (xs ys : List Item) → imports_of (xs ++ ys) ≡ imports_of xs ++ imports_of ys
imports_of-append [] ys = refl
imports_of-append (Imported from what kind type_index ∷ xs) ys = ap (λ l. record { offset = from.0; «module» = from.1; name = what.1; type_index = type_index.1 } ∷ l) (imports_of-append xs ys)
imports_of-append (_ ∷ xs) ys = imports_of-append xs ys

all_exports_of-append : (xs ys : List Item) → all_exports_of (xs ++ ys) ≡ all_exports_of xs ++ all_exports_of ys
all_exports_of-append [] ys = refl
all_exports_of-append (Exported name kind index ∷ xs) ys = ap (λ l. record { name = name.1; kind = kind.1; index = index.1 } ∷ l) (all_exports_of-append xs ys)
all_exports_of-append (_ ∷ xs) ys = all_exports_of-append xs ys

element_rows_of-append : (xs ys : List Item) → element_rows_of (xs ++ ys) ≡ element_rows_of xs ++ element_rows_of ys
element_rows_of-append [] ys = refl
element_rows_of-append (Element table place functions ∷ xs) ys = ap (λ l. record { place = i32_value place; functions = functions.1 } ∷ l) (element_rows_of-append xs ys)
element_rows_of-append (_ ∷ xs) ys = element_rows_of-append xs ys

data_rows_of-append : (xs ys : List Item) → data_rows_of (xs ++ ys) ≡ data_rows_of xs ++ data_rows_of ys
data_rows_of-append [] ys = refl
data_rows_of-append (Passive form bytes ∷ xs) ys = ap (λ l. record { place = None; bytes = bytes.1 } ∷ l) (data_rows_of-append xs ys)
data_rows_of-append (Segment form memory place bytes ∷ xs) ys = ap (λ l. record { place = Some (i32_value place); bytes = bytes.1 } ∷ l) (data_rows_of-append xs ys)
data_rows_of-append (_ ∷ xs) ys = data_rows_of-append xs ys

initials_of-append : (xs ys : List Item) → initials_of (xs ++ ys) ≡ initials_of xs ++ initials_of ys
initials_of-append [] ys = refl
initials_of-append (Global ty mutable init ∷ xs) ys = ap (λ l. init.value.1 ∷ l) (initials_of-append xs ys)
initials_of-append (_ ∷ xs) ys = initials_of-append xs ys

start_of-append : (xs ys : List Item) → start_of (xs ++ ys) ≡ option_or (start_of xs) (start_of ys)
start_of-append [] ys = refl
start_of-append (Start index ∷ xs) ys = refl
start_of-append (_ ∷ xs) ys = start_of-append xs ys

-- one more declaration of a sort follows the others, and all other sorts stay
ruleset appends = (types_of-append, functions_of-append, tables_of-append, memories_of-append, globals_of-append, import_count-append, declared_count-append, imports_of-append, all_exports_of-append, element_rows_of-append, data_rows_of-append, initials_of-append, data_count_of-append, start_of-append, option_or-none, append-nil, add-zero, length-append)

pub spaces_of-append : (items : List Item) (x : Item) → spaces_of (items ++ x ∷ []) ≡ with_item (spaces_of items) x
spaces_of-append items (Signature form params results ty) = simp appends
spaces_of-append items (Imported from what kind type_index) = simp appends
spaces_of-append items (Function type_index) = simp appends
spaces_of-append items (Table element limits) = simp appends
spaces_of-append items (Memory limits) = simp appends
spaces_of-append items (Global ty mutable init) = simp appends
spaces_of-append items (Exported name kind index) = simp appends
spaces_of-append items (Start index) = simp appends
spaces_of-append items (Element table place functions) = simp appends
spaces_of-append items (Code count end) = simp appends
spaces_of-append items (DataCount count) = simp appends
spaces_of-append items (Passive form bytes) = simp appends
spaces_of-append items (Segment form memory place bytes) = simp appends
