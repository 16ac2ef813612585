-- Types, tables and memories keep to their limits, and the functions that exports name are there.
use Rattle.std.proofs.Common.{◌≡◌, ℕ, zero, suc, ◌+◌, ◌≤◌, ◌<◌, eqb, ltb, ◌||◌, List, [], ◌∷◌, length, is_some, Some, refl, subst, ap, arith, inl, inr}
use Rattle.std.specs.FinMap as map
use Rattle.std.proofs.lemmas.Bool.{cases_Bool, cases_lt, lt-ltb, le-ltb, ltb-false, or_parts}
use Rattle.wasm_defs.specs.declared.item.Extern.{Extern}
use Rattle.wasm_defs.specs.declared.item.Extern.TheVariants as extern
use Rattle.wasm_defs.specs.declared.item.Item.{Item}
use Rattle.wasm_defs.specs.declared.item.Item.TheVariants.{Signature, Imported, Function, Table, Memory, Exported, DataCount}
use Rattle.wasm_defs.specs.declared.item.Limits.{Limits}
use Rattle.wasm_defs.specs.Fields.{Cursor, Reader, repeated, byte, u32, count, vector, name}
use Rattle.wasm_defs.specs.Entries.{Seen, note, space, index, listed_type, limits, signature, imported, function, table, memory, global, extern_kind, exported, start, element, code, data_count, passive, segment}
use Rattle.wasm_defs.specs.Limits.{max_params, max_results, max_entries, max_table, max_pages, top_rows, top_pages}
use Rattle.wasm_defs.specs.Outside.{entered, module_read}
use Rattle.wasm_defs.specs.Context.{functions_of}
use Rattle.wasm_defs.specs.Faults.{items_of}
use Rattle.wasm_defs.specs.SmallTypes.{TypeIsSmall}
use Rattle.wasm_laws.proofs.Steady.{IfGot, always}
use Rattle.wasm_laws.proofs.Sorts.{Yields, yielding}
use Rattle.wasm_laws.proofs.Parts.{then_got}
use Rattle.wasm_laws.proofs.Headers.{entered_as}
use Rattle.wasm_laws.proofs.Noted.{OfEntries, of_module}
use Rattle.wasm_laws.proofs.Typed.{index_below}

-- ---- items that keep

-- an index of that kind, among so many functions
abbrev pub IsAmong : ℕ → Extern → ℕ → Type 0
IsAmong functions extern.Function i = i < functions
IsAmong functions _ i = Unit {0}

-- a minimum of so many at most, which is no more than a maximum of these
pub record IsMinimum (most : ℕ) (limits : Limits) : Type 0 where
  pub low : limits.min.1 ≤ most
  pub ordered : (max : ℕ × ℕ) → limits.max ≡ Some max → limits.min.1 ≤ max.1

-- types, tables, memories and the data count keep to their limits, and an export's function is one of so many
abbrev pub IsKept : ℕ → Item → Type 0
IsKept functions (Signature form params outs ty) = TypeIsSmall ty
IsKept functions (Table element limits) = IsMinimum max_table limits
IsKept functions (Memory limits) = IsMinimum max_pages limits
IsKept functions (Exported label kind index) = IsAmong functions kind.1 index.1
IsKept functions (DataCount count) = count.1 ≤ max_entries
IsKept functions _ = Unit {0}

-- so of each item, where so many functions are before the items
abbrev pub AreKept : ℕ → List Item → Type 0
AreKept functions [] = Unit {0}
AreKept functions (x ∷ xs) = IsKept functions x × AreKept (functions + length (functions_of (x ∷ []))) xs

note_functions : (s : Seen) (x : Item) → (note s x).functions ≡ s.functions + length (functions_of (x ∷ []))
note_functions s (Imported from what kind type_index) = omega arith
note_functions s (Function type_index) = omega arith
note_functions s _ = omega arith

-- ---- readers

abbrev Keeps : (Seen → Reader Item) → Type 0
Keeps entry = (seen : Seen) → Yields (IsKept seen.functions) (entry seen)

repeated_length : {A : Type 0} (n : ℕ) (p : Reader A) (c : Cursor) → IfGot (λ xs d. length xs ≡ n) (repeated n p c)
repeated_length zero p c = refl
repeated_length (suc n) p c =
    then_got (λ x d. Unit {0}) (λ xs d. length xs ≡ suc n) (p c) _ (always (p c))
    (λ x d t. then_got (λ xs e. length xs ≡ n) (λ xs e. length xs ≡ suc n) (repeated n p d) _ (repeated_length n p d) (λ xs e h. ap suc h))

vector_length : {A : Type 0} (most : ℕ) (counted : Reader (ℕ × ℕ)) (p : Reader A) (c : Cursor) → IfGot (λ n d. n.1 ≤ most) (counted c) → IfGot (λ xs d. length xs.1 ≤ most) (vector counted p c)
unfolding vector
vector_length most counted p c h =
    then_got (λ n d. n.1 ≤ most) (λ xs d. length xs.1 ≤ most) (counted c) _ h
    (λ n d le. then_got (λ xs e. length xs ≡ n.1) (λ xs e. length xs.1 ≤ most) (repeated n.1 p d) _ (repeated_length n.1 p d) (λ xs e len. omega arith))

pub count_up_to : (most : ℕ) (c : Cursor) → IfGot (λ n d. n.1 ≤ most) (count most c)
unfolding count
count_up_to most c =
    then_got (λ n d. Unit {0}) (λ n d. n.1 ≤ most) (u32 c) _ (always (u32 c))
    (λ n d t.
    elim (cases_lt most n.1) [
      | inl over ↦ rw (lt-ltb most n.1 over) tt
      | inr fits ↦ rw (le-ltb most n.1 fits) fits
    ])

signature_kept : (seen : Seen) (c : Cursor) → IfGot (λ x d. IsKept seen.functions x) (signature seen c)
unfolding signature
signature_kept seen c =
    then_got (λ form d. Unit {0}) (λ x d. IsKept seen.functions x) (byte c) _ (always (byte c))
    (λ form d t.
    elim (cases_Bool (eqb form.1 0x60)) [
      | inr other ↦ rw other tt
      | inl right ↦ rw right (then_got (λ ps e. length ps.1 ≤ max_params) (λ x d. IsKept seen.functions x) (vector (count max_params) listed_type d) _ (vector_length max_params (count max_params) listed_type d (count_up_to max_params d))
          (λ ps e few.
          then_got (λ rs f. length rs.1 ≤ max_results) (λ x d. IsKept seen.functions x) (vector (count max_results) listed_type e) _ (vector_length max_results (count max_results) listed_type e (count_up_to max_results e))
          (λ rs f some. record { params = few; results = some })))
    ])

signature_keeps : Keeps signature
signature_keeps seen = record { got = signature_kept seen }

is_among : (s : Seen) (kind : Extern) (i : ℕ) → i < space s kind → IsAmong s.functions kind i
is_among s extern.Function i h = h
is_among s _ i h = tt

exported_keeps : Keeps exported
unfolding exported
exported_keeps seen = record {
  got = λ c.
      then_got (λ label d. Unit {0}) (λ x d. IsKept seen.functions x) (name c) _ (always (name c))
      (λ label d t.
      elim (cases_Bool (is_some (map.get seen.names label.1))) [
        | inl again ↦ rw again tt
        | inr new ↦ rw new (then_got (λ kind e. Unit {0}) (λ x e. IsKept seen.functions x) (extern_kind d) _ (always (extern_kind d))
            (λ kind e t.
            then_got (λ i f. i.1 < space seen kind.1) (λ x f. IsKept seen.functions x) (index (space seen kind.1) e) _ (index_below (space seen kind.1) e)
            (λ i f lt. is_among seen kind.1 i.1 lt)))
      ]);
}

limits_kept : (most top : ℕ) (c : Cursor) → IfGot (λ l d. IsMinimum most l) (limits most top c)
unfolding limits
limits_kept most top c =
    then_got (λ flag d. Unit {0}) (λ l d. IsMinimum most l) (byte c) _ (always (byte c))
    (λ flag d t.
    elim (cases_Bool (ltb 1 flag.1)) [
      | inl bad ↦ rw bad tt
      | inr right ↦ rw right (then_got (λ n e. Unit {0}) (λ l d. IsMinimum most l) (u32 d) _ (always (u32 d))
          (λ least e t.
          elim (cases_lt most least.1) [
            | inl over ↦ rw (lt-ltb most least.1 over) tt
            | inr fits ↦ rw (le-ltb most least.1 fits) (elim (cases_Bool (eqb flag.1 0)) [
              | inl open_ended ↦ rw open_ended (record { low = fits; ordered = λ max is. absurd cc })
              | inr bounded ↦ rw bounded (then_got (λ n e. Unit {0}) (λ l d. IsMinimum most l) (u32 e) _ (always (u32 e))
                  (λ greatest f t.
                  elim (cases_Bool (ltb top greatest.1 || ltb greatest.1 least.1)) [
                    | inl wrong ↦ rw wrong tt
                    | inr ordered ↦
                        let le = ltb-false greatest.1 least.1 (or_parts (ltb top greatest.1) (ltb greatest.1 least.1) ordered).1 in
                        rw ordered (record { low = fits; ordered = λ max is. least_below least.1 greatest max is le })
                  ]))
            ])
          ]))
    ])
  where
    least_below : (n : ℕ) (greatest max : ℕ × ℕ) → Some greatest ≡ Some max → n ≤ greatest.1 → n ≤ max.1
    least_below n greatest max is le = let same : greatest ≡ max = cc in omega (arith, le, ap (λ (p : ℕ × ℕ). p.1) same)

table_keeps : Keeps table
unfolding table
table_keeps seen = record {
  got = λ c.
      then_got (λ element d. Unit {0}) (λ x d. IsKept seen.functions x) (byte c) _ (always (byte c))
      (λ element d t.
      elim (cases_Bool (eqb element.1 0x70)) [
        | inr other ↦ rw other tt
        | inl right ↦ rw right (then_got (λ l e. IsMinimum max_table l) (λ x d. IsKept seen.functions x) (limits max_table top_rows d) _ (limits_kept max_table top_rows d) (λ l e h. h))
      ]);
}

memory_keeps : Keeps memory
unfolding memory
memory_keeps seen = record {
  got = λ c. then_got (λ l d. IsMinimum max_pages l) (λ x d. IsKept seen.functions x) (limits max_pages top_pages c) _ (limits_kept max_pages top_pages c) (λ l d h. h);
}

data_count_keeps : Keeps data_count
unfolding data_count
data_count_keeps seen = record {
  got = λ c. then_got (λ n d. n.1 ≤ max_entries) (λ x d. IsKept seen.functions x) (count max_entries c) _ (count_up_to max_entries c) (λ n d le. le);
}

-- ---- modules

entered_functions : (seen : Seen) (id : ℕ) → (entered seen id).functions ≡ seen.functions
entered_functions seen id =
    elim (entered_as seen id) [
      | inl none ↦ rw none.1 refl
      | inr some ↦ rw some.1 refl
    ]

all_keep : OfEntries Keeps
unfolding imported function global start element code segment passive
all_keep = record {
  signatures = signature_keeps;
  imports = λ seen. search yielding depth 40;
  functions = λ seen. search yielding depth 40;
  tables = table_keeps;
  memories = memory_keeps;
  globals = λ seen. search yielding depth 40;
  exports = exported_keeps;
  starts = λ seen. search yielding depth 40;
  elements = λ seen. search yielding depth 40;
  codes = λ seen. search yielding depth 40;
  data_counts = data_count_keeps;
  segments = λ seen. search yielding depth 40;
}

one_more : (seen : Seen) (x : Item) (xs : List Item) → IsKept seen.functions x → AreKept (note seen x).functions xs → AreKept seen.functions (x ∷ xs)
one_more seen x xs p h = (p, subst (λ (n : ℕ). AreKept n xs) (note_functions seen x) h)

pub items_are_kept : (bytes : List ℕ) → AreKept 0 (items_of (module_read bytes).parts)
items_are_kept bytes = of_module (λ s. s.functions) IsKept AreKept (λ functions. tt) one_more entered_functions all_keep bytes
