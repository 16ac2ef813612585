-- The index spaces of a module (WebAssembly Core 1.0, 2.5.1 and 3.1), item by item, and what it imports, exports and begins with.
use Rattle.std.specs.Prelude.{ℕ, ℤ, ◌+◌, List, [], ◌∷◌, ◌++◌, length, Option, None, Some}
use Rattle.std.specs.Option.{option_or}
use Rattle.wasm_defs.specs.declared.context.GlobalType.{GlobalType}
use Rattle.wasm_defs.specs.declared.item.Item.{Item}
use Rattle.wasm_defs.specs.declared.item.Item.TheVariants.{Signature, Imported, Function, Table, Memory, Global, Exported, Start, Element, DataCount, Passive, Segment}
use Rattle.wasm_defs.specs.declared.item.Limits.{Limits}
use Rattle.wasm_defs.specs.declared.types.FuncType.{FuncType}
use Rattle.wasm_defs.specs.Context.{types_of, functions_of, import_count, declared_count, tables_of, memories_of, globals_of, data_count_of}
use Rattle.wasm_defs.specs.Entries.{or_zero}
use Rattle.wasm_defs.specs.Instances.{start_of, i32_value}
use Rattle.wasm_defs.specs.Typing.{Context}
use Rattle.index_spaces.specs.declared.entries.Import.{Import}
use Rattle.index_spaces.specs.declared.entries.Export.{Export}
use Rattle.index_spaces.specs.declared.entries.ElementRow.{ElementRow}
use Rattle.index_spaces.specs.declared.entries.DataRow.{DataRow}
use Rattle.index_spaces.specs.Entries.{imports_of, all_exports_of, element_rows_of, data_rows_of, initials_of}

-- the types; the functions by the indices of their types, the imported ones first; tables, memories and globals, and the numbers
-- of the globals' constants; how many functions are imported, and how many declared; imports, exports, element segments and data
-- segments; the data count and the index of the start function, where there is one
pub record Spaces : Type 0 where
  pub types : List FuncType
  pub functions : List ℕ
  pub tables : List Limits
  pub memories : List Limits
  pub globals : List GlobalType
  pub initials : List ℤ
  pub imported : ℕ
  pub declared : ℕ
  pub imports : List Import
  pub exports : List Export
  pub elements : List ElementRow
  pub segments : List DataRow
  pub data_count : Option ℕ
  pub start : Option ℕ

-- what every body of the module may name
abbrev pub context_in : Spaces → Context
context_in s = record {
  types = s.types;
  functions = s.functions;
  tables = length s.tables;
  memories = length s.memories;
  segments = or_zero s.data_count;
  globals = s.globals;
  locals = [];
  results = [];
  labels = [];
}

-- the index spaces of these items: the context in them is `context_of items`
abbrev pub spaces_of : List Item → Spaces
spaces_of items = record {
  types = types_of items;
  functions = functions_of items;
  tables = tables_of items;
  memories = memories_of items;
  globals = globals_of items;
  initials = initials_of items;
  imported = import_count items;
  declared = declared_count items;
  imports = imports_of items;
  exports = all_exports_of items;
  elements = element_rows_of items;
  segments = data_rows_of items;
  data_count = data_count_of items;
  start = start_of items;
}

-- ---- one more of a sort

abbrev pub with_type : Spaces → FuncType → Spaces
with_type s ty = record s { types = s.types ++ ty ∷ [] }

abbrev pub with_import : Spaces → Import → Spaces
with_import s i = record s { functions = s.functions ++ i.type_index ∷ []; imported = s.imported + 1; imports = s.imports ++ i ∷ [] }

abbrev pub with_function : Spaces → ℕ → Spaces
with_function s type_index = record s { functions = s.functions ++ type_index ∷ []; declared = s.declared + 1 }

-- many of them
abbrev pub with_functions : Spaces → List ℕ → Spaces
with_functions s type_indices = record s { functions = s.functions ++ type_indices; declared = s.declared + length type_indices }

abbrev pub with_table : Spaces → Limits → Spaces
with_table s limits = record s { tables = s.tables ++ limits ∷ [] }

abbrev pub with_memory : Spaces → Limits → Spaces
with_memory s limits = record s { memories = s.memories ++ limits ∷ [] }

abbrev pub with_global : Spaces → GlobalType → ℤ → Spaces
with_global s ty initial = record s { globals = s.globals ++ ty ∷ []; initials = s.initials ++ initial ∷ [] }

abbrev pub with_export : Spaces → Export → Spaces
with_export s e = record s { exports = s.exports ++ e ∷ [] }

abbrev pub with_elements : Spaces → ElementRow → Spaces
with_elements s row = record s { elements = s.elements ++ row ∷ [] }

abbrev pub with_segment : Spaces → DataRow → Spaces
with_segment s row = record s { segments = s.segments ++ row ∷ [] }

-- a module has one data count; of several the first stays
abbrev pub with_data_count : Spaces → ℕ → Spaces
with_data_count s count = record s { data_count = option_or s.data_count (Some count) }

-- a module has one start function; of several the first stays
abbrev pub with_start : Spaces → ℕ → Spaces
with_start s index = record s { start = option_or s.start (Some index) }

-- one more item
abbrev pub with_item : Spaces → Item → Spaces
with_item s (Signature form params results ty) = with_type s ty
with_item s (Imported from what kind type_index) = with_import s (record { offset = from.0; «module» = from.1; name = what.1; type_index = type_index.1 })
with_item s (Function type_index) = with_function s type_index.1
with_item s (Table element limits) = with_table s limits
with_item s (Memory limits) = with_memory s limits
with_item s (Global ty mutable init) = with_global s (record { ty = ty.1; mutable = mutable.1 }) init.value.1
with_item s (Exported name kind index) = with_export s (record { name = name.1; kind = kind.1; index = index.1 })
with_item s (Start index) = with_start s index.1
with_item s (Element table place functions) = with_elements s (record { place = i32_value place; functions = functions.1 })
with_item s (DataCount count) = with_data_count s count.1
with_item s (Passive form bytes) = with_segment s (record { place = None; bytes = bytes.1 })
with_item s (Segment form memory place bytes) = with_segment s (record { place = Some (i32_value place); bytes = bytes.1 })
with_item s _ = s
