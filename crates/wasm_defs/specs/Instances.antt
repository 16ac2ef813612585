-- A module's instance and its first store (WebAssembly Core 1.0, 4.5.3 and 4.5.4): every offset and every global is constant, so
-- both are determined by the module.
use Rattle.std.specs.Prelude.{ℕ, suc, ◌+◌, ◌*◌, ◌&&◌, Bool, true, List, [], ◌∷◌, ◌++◌, map, take, drop, length, replicate, min, Option, None, Some, nat_le, slice_get, if◌then◌else◌}
use Rattle.std.specs.Str.{bytes_eq}
use Rattle.wasm_defs.specs.Entries.{or_zero}
use Rattle.wasm_defs.specs.declared.types.ValType.TheVariants.{I32}
use Rattle.wasm_defs.specs.declared.item.Item.{Item}
use Rattle.wasm_defs.specs.declared.item.Item.TheVariants.{Imported, Global, Exported, Start, Element, Passive, Segment}
use Rattle.wasm_defs.specs.declared.item.Extern.TheVariants as extern
use Rattle.wasm_defs.specs.declared.item.Limits.{Limits}
use Rattle.wasm_defs.specs.declared.item.Constant.{Constant}
use Rattle.wasm_defs.specs.Limits.{max_pages}
use Rattle.wasm_defs.specs.Outside.{Body}
use Rattle.wasm_defs.specs.Trees.{Seq}
use Rattle.wasm_defs.specs.Typing.{Context}
use Rattle.wasm_defs.specs.Places.{places_of, greatest}
use Rattle.wasm_defs.specs.Context.{context_of, data_count_of, import_count, tables_of, memories_of, declared_types, type_of_function, type_or_empty}
use Rattle.wasm_defs.specs.Faults.{read_of, offsets_of, context_at, Module}
use Rattle.wasm_defs.specs.Values.{Value, unsigned}
use Rattle.wasm_defs.specs.Memory.{page}
use Rattle.wasm_defs.specs.Host.{Reply}
use Rattle.wasm_defs.specs.Configurations as run

-- ---- functions

-- where the k-th declared function is
abbrev pub origin_of : List Item → ℕ → Body → run.Origin
origin_of items k b = record {
  index = import_count items + k;
  first = b.first;
  offsets = offsets_of (read_of b).code.tokens;
}

-- the imported functions, after so many
abbrev pub imports_from : Context → ℕ → List Item → List run.Function
imports_from c number [] = []
imports_from c number (Imported from what kind type_index ∷ xs) =
    run.Imported number (type_or_empty (slice_get c.types type_index.1)) from.0 ∷ imports_from c (suc number) xs
imports_from c number (_ ∷ xs) = imports_from c number xs

-- the k-th declared function
abbrev pub function_of : List Item → ℕ → Body → Seq → run.Func
function_of items k b tree = record {
  origin = origin_of items k b;
  ty = type_of_function (context_of items) (import_count items + k);
  locals = declared_types (read_of b).groups;
  greatest = greatest (places_of (context_at items k b) tree);
  body = tree;
}

abbrev pub declared_from : List Item → ℕ → List Body → List Seq → List run.Func
declared_from items k (b ∷ bodies) (tree ∷ trees) = function_of items k b tree ∷ declared_from items (suc k) bodies trees
declared_from items k bodies trees = []

abbrev pub declared_functions : Module → List run.Func
declared_functions m = declared_from m.items 0 m.bodies m.trees

abbrev pub functions_of : Module → List run.Function
functions_of m = imports_from (context_of m.items) 0 m.items ++ map run.Declared (declared_functions m)

-- ---- segments

-- elements that are written over others from an index on
abbrev pub Written : Type 0 → Type 0
Written A = ℕ × List A

abbrev pub over : {A : Type 0} → List A → Written A → List A
over old w = take w.0 old ++ (w.1 ++ drop (w.0 + length w.1) old)

abbrev pub all_over : {A : Type 0} → List A → List (Written A) → List A
all_over old [] = old
all_over old (w ∷ ws) = all_over (over old w) ws

-- there is room for all of them
abbrev pub all_fit : {A : Type 0} → ℕ → List (Written A) → Bool
all_fit size [] = true
all_fit size (w ∷ ws) = nat_le (w.0 + length w.1) size && all_fit size ws

-- the value of a constant expression of type i32 (4.5.4)
abbrev pub i32_value : Constant → ℕ
i32_value c = unsigned I32 c.value.1

abbrev pub elements_of : List Item → List (Written (Option ℕ))
elements_of [] = []
elements_of (Element table place functions ∷ xs) = (i32_value place, map Some functions.1) ∷ elements_of xs
elements_of (_ ∷ xs) = elements_of xs

abbrev pub data_of : List Item → List (Written ℕ)
data_of [] = []
data_of (Segment form memory place bytes ∷ xs) = (i32_value place, bytes.1) ∷ data_of xs
data_of (_ ∷ xs) = data_of xs

-- the bytes of each segment, which is dropped where it was active (Core 2.0, 4.5.4)
abbrev pub segments_of : List Item → List (List ℕ)
segments_of [] = []
segments_of (Passive form bytes ∷ xs) = bytes.1 ∷ segments_of xs
segments_of (Segment form memory place bytes ∷ xs) = [] ∷ segments_of xs
segments_of (_ ∷ xs) = segments_of xs

-- ---- the table, the memory and the globals

abbrev pub first_minimum : List Limits → ℕ
first_minimum [] = 0
first_minimum (limits ∷ others) = limits.min.1

-- rows of the table
abbrev pub rows_of : List Item → ℕ
rows_of items = first_minimum (tables_of items)

-- pages of the memory, at first
abbrev pub pages_of : List Item → ℕ
pages_of items = first_minimum (memories_of items)

abbrev pub capped : Option (ℕ × ℕ) → ℕ
capped None = max_pages
capped (Some most) = min most.1 max_pages

-- and at most: the declared maximum, or the limit of this implementation
abbrev pub first_cap : List Limits → ℕ
first_cap [] = 0
first_cap (limits ∷ others) = capped limits.max

abbrev pub cap_of : List Item → ℕ
cap_of items = first_cap (memories_of items)

abbrev pub values_of : List Item → List Value
values_of [] = []
values_of (Global ty mutable init ∷ xs) = record { ty = ty.1; number = unsigned ty.1 init.value.1 } ∷ values_of xs
values_of (_ ∷ xs) = values_of xs

-- every segment fits: else the module can't be instantiated
abbrev pub is_linkable : Module → Bool
is_linkable m = all_fit (rows_of m.items) (elements_of m.items) && all_fit (page * pages_of m.items) (data_of m.items)

abbrev pub instance_of : Module → run.Instance
instance_of m = record {
  context = context_of m.items;
  functions = functions_of m;
  table = all_over (replicate (rows_of m.items) None) (elements_of m.items);
  cap = cap_of m.items;
}

-- the store, where the host has these replies
abbrev pub store_of : Module → List Reply → run.Store
store_of m replies = record {
  memory = all_over (replicate (page * pages_of m.items) 0) (data_of m.items);
  globals = values_of m.items;
  segments = take (or_zero (data_count_of m.items)) (segments_of m.items);
  calls = [];
  replies = replies;
}

-- ---- the start function, and exports

abbrev pub start_of : List Item → Option ℕ
start_of [] = None
start_of (Start index ∷ xs) = Some index.1
start_of (_ ∷ xs) = start_of xs

-- the exported functions: names and indices
abbrev pub exports_of : List Item → List (List ℕ × ℕ)
exports_of [] = []
exports_of (Exported name (at, extern.Function) index ∷ xs) = (name.1, index.1) ∷ exports_of xs
exports_of (_ ∷ xs) = exports_of xs

-- the function of that name
abbrev pub named : List ℕ → List (List ℕ × ℕ) → Option ℕ
named name [] = None
named name (e ∷ es) = if bytes_eq name e.0 then Some e.1 else named name es
