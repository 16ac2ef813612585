-- What the entries of a module are to its run: the definitions of `Entries` next to those of a module's instance.
use Rattle.std.specs.Prelude.{◌≡◌, ℕ, List, length}
use Rattle.wasm_defs.specs.declared.item.Item.{Item}
use Rattle.wasm_defs.specs.Typing.{Context}
use Rattle.wasm_defs.specs.Context.{import_count, globals_of}
use Rattle.wasm_defs.specs.Instances.{imports_from, exports_of, elements_of, data_of, segments_of, values_of}
use Rattle.index_spaces.specs.Entries.{imports_of, all_exports_of, element_rows_of, data_rows_of, initials_of, imported_functions, function_exports, written_rows, written_segments, segments_at_first, initial_values}

-- as many as the functions that are imported, which they are in the same order
abbrev pub ImportsAreFunctions : Type 0
ImportsAreFunctions = (items : List Item) → (length (imports_of items) ≡ import_count items)
    × ((c : Context) (number : ℕ) → imported_functions c number (imports_of items) ≡ imports_from c number items)

abbrev pub ExportsAreOfItems : Type 0
ExportsAreOfItems = (items : List Item) → function_exports (all_exports_of items) ≡ exports_of items

abbrev pub ElementsAreOfItems : Type 0
ElementsAreOfItems = (items : List Item) → written_rows (element_rows_of items) ≡ elements_of items

abbrev pub SegmentsAreOfItems : Type 0
SegmentsAreOfItems = (items : List Item) → (written_segments (data_rows_of items) ≡ data_of items) × (segments_at_first (data_rows_of items) ≡ segments_of items)

abbrev pub ValuesAreOfItems : Type 0
ValuesAreOfItems = (items : List Item) → initial_values (globals_of items) (initials_of items) ≡ values_of items
