-- What a module imports, exports and writes into its table and its memory, and the numbers of its globals' constants: each list the
-- items of that sort in order (WebAssembly Core 1.0, 2.5).
use Rattle.std.specs.Prelude.{ℕ, suc, ℤ, Bool, true, false, List, [], ◌∷◌, map, filter, Option, None, Some, slice_get}
use Rattle.wasm_defs.specs.declared.context.GlobalType.{GlobalType}
use Rattle.wasm_defs.specs.declared.item.Extern.{Extern}
use Rattle.wasm_defs.specs.declared.item.Extern.TheVariants as extern
use Rattle.wasm_defs.specs.declared.item.Item.{Item}
use Rattle.wasm_defs.specs.declared.item.Item.TheVariants.{Imported, Global, Exported, Element, Passive, Segment}
use Rattle.wasm_defs.specs.Typing.{Context}
use Rattle.wasm_defs.specs.Context.{type_or_empty}
use Rattle.wasm_defs.specs.Values.{Value, unsigned}
use Rattle.wasm_defs.specs.Instances.{Written, i32_value}
use Rattle.wasm_defs.specs.Configurations as run
use Rattle.index_spaces.specs.declared.entries.Import.{Import}
use Rattle.index_spaces.specs.declared.entries.Export.{Export}
use Rattle.index_spaces.specs.declared.entries.ElementRow.{ElementRow}
use Rattle.index_spaces.specs.declared.entries.DataRow.{DataRow}

abbrev pub imports_of : List Item → List Import
imports_of [] = []
imports_of (Imported from what kind type_index ∷ xs) = record { offset = from.0; «module» = from.1; name = what.1; type_index = type_index.1 } ∷ imports_of xs
imports_of (_ ∷ xs) = imports_of xs

-- the exports of every sort
abbrev pub all_exports_of : List Item → List Export
all_exports_of [] = []
all_exports_of (Exported name kind index ∷ xs) = record { name = name.1; kind = kind.1; index = index.1 } ∷ all_exports_of xs
all_exports_of (_ ∷ xs) = all_exports_of xs

abbrev pub element_rows_of : List Item → List ElementRow
element_rows_of [] = []
element_rows_of (Element table place functions ∷ xs) = record { place = i32_value place; functions = functions.1 } ∷ element_rows_of xs
element_rows_of (_ ∷ xs) = element_rows_of xs

abbrev pub data_rows_of : List Item → List DataRow
data_rows_of [] = []
data_rows_of (Passive form bytes ∷ xs) = record { place = None; bytes = bytes.1 } ∷ data_rows_of xs
data_rows_of (Segment form memory place bytes ∷ xs) = record { place = Some (i32_value place); bytes = bytes.1 } ∷ data_rows_of xs
data_rows_of (_ ∷ xs) = data_rows_of xs

-- the numbers of the globals' constants, as signed ones
abbrev pub initials_of : List Item → List ℤ
initials_of [] = []
initials_of (Global ty mutable init ∷ xs) = init.value.1 ∷ initials_of xs
initials_of (_ ∷ xs) = initials_of xs

-- ---- what these lists are to a run (4.5.3 and 4.5.4)

-- the imported functions, after so many
abbrev pub imported_functions : Context → ℕ → List Import → List run.Function
imported_functions c number [] = []
imported_functions c number (i ∷ imports) =
    run.Imported number (type_or_empty (slice_get c.types i.type_index)) i.offset ∷ imported_functions c (suc number) imports

abbrev pub is_function : Extern → Bool
is_function extern.Function = true
is_function _ = false

-- the exported functions: names and indices
abbrev pub function_exports : List Export → List (List ℕ × ℕ)
function_exports exports = map (λ e. (e.name, e.index)) (filter (λ e. is_function e.kind) exports)

abbrev pub written_rows : List ElementRow → List (Written (Option ℕ))
written_rows rows = map (λ r. (r.place, map Some r.functions)) rows

abbrev pub written_before : Option ℕ → List ℕ → List (Written ℕ) → List (Written ℕ)
written_before None bytes others = others
written_before (Some place) bytes others = (place, bytes) ∷ others

-- what active segments write
abbrev pub written_segments : List DataRow → List (Written ℕ)
written_segments [] = []
written_segments (r ∷ rows) = written_before r.place r.bytes (written_segments rows)

-- the bytes of each segment when a run begins: an active one is dropped then
abbrev pub bytes_at_first : Option ℕ → List ℕ → List ℕ
bytes_at_first None bytes = bytes
bytes_at_first (Some place) bytes = []

abbrev pub segments_at_first : List DataRow → List (List ℕ)
segments_at_first rows = map (λ r. bytes_at_first r.place r.bytes) rows

-- the values of globals of these types, by the numbers of their constants
abbrev pub initial_values : List GlobalType → List ℤ → List Value
initial_values (g ∷ globals) (n ∷ numbers) = record { ty = g.ty; number = unsigned g.ty n } ∷ initial_values globals numbers
initial_values globals numbers = []
