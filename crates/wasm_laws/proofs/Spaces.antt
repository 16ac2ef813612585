-- Tables, memories and globals keep to their limits.
use Rattle.std.proofs.Common.{◌≡◌, ℕ, ◌+◌, ◌≤◌, List, [], ◌∷◌, length, Option, None, Some, refl, arith}
use Rattle.wasm_defs.specs.declared.item.Item.{Item}
use Rattle.wasm_defs.specs.declared.item.Item.TheVariants.{Table, Memory, Global, DataCount}
use Rattle.wasm_defs.specs.Context.{functions_of, data_count_of}
use Rattle.wasm_defs.specs.Entries.{or_zero}
use Rattle.wasm_defs.specs.Faults.{items_of}
use Rattle.wasm_defs.specs.Instances.{rows_of, pages_of, cap_of, values_of, capped}
use Rattle.wasm_defs.specs.Limits.{max_entries, max_table, max_pages}
use Rattle.wasm_defs.specs.Outside.{module_read}
use Rattle.wasm_laws.specs.Kept.{SpacesAreSmall}
use Rattle.wasm_laws.proofs.Kept.{AreKept, items_are_kept}
use Rattle.wasm_laws.proofs.Counted.{entries_in, entries_are_few}

kept_rows : (functions : ℕ) (items : List Item) → AreKept functions items → rows_of items ≤ max_table
kept_rows functions [] h = omega arith
kept_rows functions (Table element limits ∷ xs) h = h.0.low
kept_rows functions (x ∷ xs) h = kept_rows (functions + length (functions_of (x ∷ []))) xs h.1

below_cap : (low : ℕ) (most : Option (ℕ × ℕ)) → low ≤ max_pages → ((max : ℕ × ℕ) → most ≡ Some max → low ≤ max.1) → low ≤ capped most
below_cap low None le ordered = le
below_cap low (Some most) le ordered = omega (arith, le, ordered most refl)

kept_pages : (functions : ℕ) (items : List Item) → AreKept functions items → pages_of items ≤ cap_of items
kept_pages functions [] h = omega arith
kept_pages functions (Memory limits ∷ xs) h = below_cap limits.min.1 limits.max h.0.low h.0.ordered
kept_pages functions (x ∷ xs) h = kept_pages (functions + length (functions_of (x ∷ []))) xs h.1

cap_below : (most : Option (ℕ × ℕ)) → capped most ≤ max_pages
cap_below None = omega arith
cap_below (Some most) = omega arith

cap_is_small : (items : List Item) → cap_of items ≤ max_pages
cap_is_small [] = omega arith
cap_is_small (Memory limits ∷ xs) = cap_below limits.max
cap_is_small (x ∷ xs) = cap_is_small xs

values_counted : (items : List Item) → length (values_of items) ≡ entries_in 6 items
values_counted [] = refl
values_counted (Global ty mutable init ∷ xs) = omega (arith, values_counted xs)
values_counted (x ∷ xs) = values_counted xs

kept_segments : (functions : ℕ) (items : List Item) → AreKept functions items → or_zero (data_count_of items) ≤ max_entries
kept_segments functions [] h = omega arith
kept_segments functions (DataCount count ∷ xs) h = h.0
kept_segments functions (x ∷ xs) h = kept_segments (functions + length (functions_of (x ∷ []))) xs h.1

pub spaces_are_small : (bytes : List ℕ) → SpacesAreSmall (items_of (module_read bytes).parts)
spaces_are_small bytes =
    let items = items_of (module_read bytes).parts in
    let kept = items_are_kept bytes in
    record {
      rows = kept_rows 0 items kept;
      pages = kept_pages 0 items kept;
      cap = cap_is_small items;
      globals = omega (arith, values_counted items, entries_are_few 6 (λ ten. absurd cc) bytes);
      segments = kept_segments 0 items kept;
    }
