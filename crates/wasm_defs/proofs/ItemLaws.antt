-- What a list of items declares, with others appended.
use Rattle.std.proofs.Common.{◌≡◌, ℕ, ◌+◌, List, [], ◌∷◌, ◌++◌, length, Option, None, Some, refl, ap, arith}
use Rattle.std.specs.Option.{option_or}
use Rattle.wasm_defs.specs.declared.item.Item.{Item}
use Rattle.wasm_defs.specs.declared.item.Item.TheVariants.{Signature, Imported, Function, Table, Memory, Global, DataCount}
use Rattle.wasm_defs.specs.Context.{types_of, functions_of, import_count, declared_count, tables_of, memories_of, globals_of, data_count_of}

pub types_of-append : (xs ys : List Item) → types_of (xs ++ ys) ≡ types_of xs ++ types_of ys
types_of-append [] ys = refl
types_of-append (Signature form params results ty ∷ xs) ys = ap (λ l. ty ∷ l) (types_of-append xs ys)
types_of-append (_ ∷ xs) ys = types_of-append xs ys

pub functions_of-append : (xs ys : List Item) → functions_of (xs ++ ys) ≡ functions_of xs ++ functions_of ys
functions_of-append [] ys = refl
functions_of-append (Imported from what kind type_index ∷ xs) ys = ap (λ l. type_index.1 ∷ l) (functions_of-append xs ys)
functions_of-append (Function type_index ∷ xs) ys = ap (λ l. type_index.1 ∷ l) (functions_of-append xs ys)
functions_of-append (_ ∷ xs) ys = functions_of-append xs ys

pub import_count-append : (xs ys : List Item) → import_count (xs ++ ys) ≡ import_count xs + import_count ys
import_count-append [] ys = omega arith
import_count-append (Imported from what kind type_index ∷ xs) ys = omega (arith, import_count-append xs ys)
import_count-append (_ ∷ xs) ys = import_count-append xs ys

pub tables_of-append : (xs ys : List Item) → tables_of (xs ++ ys) ≡ tables_of xs ++ tables_of ys
tables_of-append [] ys = refl
tables_of-append (Table element limits ∷ xs) ys = ap (λ l. limits ∷ l) (tables_of-append xs ys)
tables_of-append (_ ∷ xs) ys = tables_of-append xs ys

pub memories_of-append : (xs ys : List Item) → memories_of (xs ++ ys) ≡ memories_of xs ++ memories_of ys
memories_of-append [] ys = refl
memories_of-append (Memory limits ∷ xs) ys = ap (λ l. limits ∷ l) (memories_of-append xs ys)
memories_of-append (_ ∷ xs) ys = memories_of-append xs ys

pub globals_of-append : (xs ys : List Item) → globals_of (xs ++ ys) ≡ globals_of xs ++ globals_of ys
globals_of-append [] ys = refl
globals_of-append (Global ty mutable init ∷ xs) ys = ap (λ l. record { ty = ty.1; mutable = mutable.1 } ∷ l) (globals_of-append xs ys)
globals_of-append (_ ∷ xs) ys = globals_of-append xs ys

pub declared_count-append : (xs ys : List Item) → declared_count (xs ++ ys) ≡ declared_count xs + declared_count ys
declared_count-append [] ys = omega arith
declared_count-append (Function type_index ∷ xs) ys = omega (arith, declared_count-append xs ys)
declared_count-append (_ ∷ xs) ys = declared_count-append xs ys

pub data_count_of-append : (xs ys : List Item) → data_count_of (xs ++ ys) ≡ option_or (data_count_of xs) (data_count_of ys)
data_count_of-append [] ys = refl
data_count_of-append (DataCount count ∷ xs) ys = refl
data_count_of-append (_ ∷ xs) ys = data_count_of-append xs ys

pub option_or-none : (o : Option ℕ) → option_or o None ≡ o
option_or-none None = refl
option_or-none (Some index) = refl

-- the functions are the imported and the declared ones
pub functions_of-counts : (xs : List Item) → length (functions_of xs) ≡ import_count xs + declared_count xs
functions_of-counts [] = omega arith
functions_of-counts (Imported from what kind type_index ∷ xs) = omega (arith, functions_of-counts xs)
functions_of-counts (Function type_index ∷ xs) = omega (arith, functions_of-counts xs)
functions_of-counts (_ ∷ xs) = functions_of-counts xs
