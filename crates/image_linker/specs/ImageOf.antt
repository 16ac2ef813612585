-- The image of a module.
use Rattle.std.specs.Prelude.{ℕ, zero, suc, ◌+◌, ◌*◌, Bool, true, false, not, List, [], ◌∷◌, ◌++◌, map, length, replicate, Option, None, Some, slice_get, slice_index}
use Rattle.rv_isa.specs.declared.compiled.TrapSite.{TrapSite}
use Rattle.rv_isa.specs.declared.operations.Op.{Op}
use Rattle.rv_isa.specs.Words.{word_of}
use Rattle.rv_isa.specs.declared.stepping.Region.TheVariants.{Passive}
use Rattle.rv_isa.specs.Steps.{text_base, region_base}
use Rattle.wasm_defs.specs.declared.item.Item.{Item}
use Rattle.wasm_defs.specs.declared.item.Item.TheVariants.{Imported}
use Rattle.wasm_defs.specs.Outside.{Body}
use Rattle.wasm_defs.specs.Trees.{Seq}
use Rattle.wasm_defs.specs.Typing.{Context}
use Rattle.wasm_defs.specs.Context.{context_of, import_count, type_or_empty, type_of_function, declared_types, first_like, like}
use Rattle.wasm_defs.specs.Faults.{read_of, context_at, Module}
use Rattle.wasm_defs.specs.Values.{words_of}
use Rattle.wasm_defs.specs.Places.{places_of, greatest}
use Rattle.wasm_defs.specs.Instances.{rows_of, pages_of, cap_of, values_of, data_of, is_linkable, instance_of, store_of, start_of, exports_of, origin_of}
use Rattle.frame_layout.specs.declared.layout.Layout.{Layout}
use Rattle.frame_layout.specs.Macros.{distance}
use Rattle.frame_layout.specs.Templates.{EmitContext, import_stub, exit_stub}
use Rattle.frame_layout.specs.Traps.{room_trap, site_at}
use Rattle.frame_layout.specs.Functions.{no_distance, function_code, sites_of}
use Rattle.image_format.specs.declared.version.Version.{Version}
use Rattle.image_format.specs.declared.version.Version.TheVariants.{Two, Three}
use Rattle.image_format.specs.Contents.{Image}
use Rattle.image_format.specs.declared.image.Row.{Row}
use Rattle.image_format.specs.declared.image.Segment.{Segment}
use Rattle.image_format.specs.declared.image.Import.{Import}
use Rattle.image_format.specs.declared.image.Export.{Export}
use Rattle.image_format.specs.declared.image.TrapPlace.{TrapPlace}

-- ---- the text: the exit stub, the import stubs, and the functions in the order of their indices

abbrev pub layout_of : List Item → ℕ → Body → Seq → Layout
layout_of items k b tree = record {
  params = length (type_of_function (context_of items) (import_count items + k)).params;
  locals = length (declared_types (read_of b).groups);
  greatest = greatest (places_of (context_at items k b) tree);
}

-- what the words of the k-th declared function depend on; distances to other functions are given
abbrev pub around : List Item → ℕ → Body → Seq → (ℕ → ℕ → ℕ) → EmitContext
around items k b tree distance_to = record {
  layout = layout_of items k b tree;
  rows = rows_of items;
  like = like (context_of items).types;
  distance_to = distance_to;
}

-- its number of words depends on no distance
abbrev pub size_of : List Item → ℕ → Body → Seq → ℕ
size_of items k b tree = length (function_code (around items k b tree no_distance) (context_at items k b) tree)

abbrev pub stub_size : ℕ
stub_size = length (import_stub 0 0)

-- the stubs of the imports, after so many
abbrev pub stubs_from : Context → ℕ → List Item → List Op
stubs_from c number [] = []
stubs_from c number (Imported from what kind type_index ∷ xs) =
    import_stub (length (type_or_empty (slice_get c.types type_index.1)).params) number ++ stubs_from c (suc number) xs
stubs_from c number (_ ∷ xs) = stubs_from c number xs

-- how many words are before the declared functions, where so many are imported: the exit stub, and a stub for each import
abbrev pub front_of : (imported : ℕ) → ℕ
front_of imported = length exit_stub + stub_size * imported

abbrev pub front_size : List Item → ℕ
front_size items = front_of (import_count items)

-- the indices of the first words of the stubs and of the functions
abbrev pub stub_places : (here count : ℕ) → List ℕ
stub_places here zero = []
stub_places here (suc n) = here ∷ stub_places (here + stub_size) n

abbrev pub places_from : List Item → (here k : ℕ) → List Body → List Seq → List ℕ
places_from items here k (b ∷ bodies) (tree ∷ trees) = here ∷ places_from items (here + size_of items k b tree) (suc k) bodies trees
places_from items here k bodies trees = []

abbrev pub places_of_functions : Module → List ℕ
places_of_functions m =
    stub_places (length exit_stub) (import_count m.items) ++ places_from m.items (front_size m.items) 0 m.bodies m.trees

-- from an index of a function that begins at another, to the functions at theirs
abbrev pub distances : List ℕ → (begins here function : ℕ) → ℕ
distances places begins here function = distance (begins + here) (slice_index places function)

-- the k-th function's words, where it begins at an index of the text
abbrev pub code_of_function : List Item → List ℕ → (here k : ℕ) → Body → Seq → List Op
code_of_function items places here k b tree =
    function_code (around items k b tree (distances places here)) (context_at items k b) tree

abbrev pub code_from : List Item → List ℕ → (here k : ℕ) → List Body → List Seq → List Op
code_from items places here k (b ∷ bodies) (tree ∷ trees) =
    code_of_function items places here k b tree ++ code_from items places (here + size_of items k b tree) (suc k) bodies trees
code_from items places here k bodies trees = []

abbrev pub text_of : Module → List Op
text_of m =
    exit_stub ++ (stubs_from (context_of m.items) 0 m.items
    ++ code_from m.items (places_of_functions m) (front_size m.items) 0 m.bodies m.trees)

-- ---- where the text's traps come from

-- one of the function with this index, whose first word is at an index of the text
abbrev pub place_at : (here function : ℕ) → TrapSite → TrapPlace
place_at here function s = record { offset = 4 * (here + s.place); function = function; module_offset = s.offset }

-- those of the stubs of imports, after so many: where the stack has no room, from the import as a whole
abbrev pub stub_traps : (here number : ℕ) → List Item → List TrapPlace
stub_traps here number [] = []
stub_traps here number (Imported from what kind type_index ∷ xs) = place_at here number (site_at 0 from.0 room_trap) ∷ stub_traps (here + stub_size) (suc number) xs
stub_traps here number (_ ∷ xs) = stub_traps here number xs

-- those of the k-th declared function
abbrev pub traps_of_function : List Item → (here k : ℕ) → Body → Seq → List TrapPlace
traps_of_function items here k b tree =
    map (place_at here (import_count items + k)) (sites_of (around items k b tree no_distance) (origin_of items k b) (context_at items k b) tree)

abbrev pub traps_from : List Item → (here k : ℕ) → List Body → List Seq → List TrapPlace
traps_from items here k (b ∷ bodies) (tree ∷ trees) =
    traps_of_function items here k b tree ++ traps_from items (here + size_of items k b tree) (suc k) bodies trees
traps_from items here k bodies trees = []

abbrev pub places_of_traps : Module → List TrapPlace
places_of_traps m = stub_traps (length exit_stub) 0 m.items ++ traps_from m.items (front_size m.items) 0 m.bodies m.trees

-- ---- what else an image has

-- the offset of a function's first byte in the text
abbrev pub offset_of : Module → ℕ → ℕ
offset_of m f = 4 * slice_index (places_of_functions m) f

abbrev pub row_of : Module → Option ℕ → Row
row_of m None = record { code = 0; like = 0 }
row_of m (Some f) =
    record { code = text_base + offset_of m f; like = first_like (context_of m.items).types (type_of_function (context_of m.items) f) }

abbrev pub segment_of : ℕ × List ℕ → Segment
segment_of s = record { place = s.0; bytes = s.1 }

abbrev pub imports_of : Context → List Item → List Import
imports_of c [] = []
imports_of c (Imported from what kind type_index ∷ xs) =
    record { «module» = from.1; name = what.1; signature = type_or_empty (slice_get c.types type_index.1) } ∷ imports_of c xs
imports_of c (_ ∷ xs) = imports_of c xs

abbrev pub export_of : Module → List ℕ × ℕ → Export
export_of m e = record { name = e.0; signature = type_of_function (context_of m.items) e.1; offset = offset_of m e.1 }

abbrev pub start_offset : Module → Option ℕ → ℕ
start_offset m None = 0
start_offset m (Some f) = offset_of m f

-- a module that can't be instantiated has an image without functions in its table, and without segments
abbrev pub table_of : Module → Bool → List Row
table_of m true = map (row_of m) (instance_of m).table
table_of m false = replicate (rows_of m.items) (row_of m None)

abbrev pub placed_segments : Module → Bool → List Segment
placed_segments m true = map segment_of (data_of m.items)
placed_segments m false = []

-- ---- data segments that bodies may name

-- the bytes of each when a run begins: none where it is active
abbrev pub segments_at_first : Module → List (List ℕ)
segments_at_first m = (store_of m []).segments

-- Two words for each: its length, and the address of its bytes in the region of passive bytes, of which so many are before.
abbrev pub segment_words : (before : ℕ) → List (List ℕ) → List ℕ
segment_words before [] = []
segment_words before (s ∷ ss) = length s ∷ (region_base Passive + before) ∷ segment_words (before + length s) ss

-- the bytes of all
abbrev pub joined : List (List ℕ) → List ℕ
joined [] = []
joined (s ∷ ss) = s ++ joined ss

-- the version of an image, by how many there are
abbrev pub version_for : (segments : ℕ) → Version
version_for zero = Two
version_for (suc n) = Three

abbrev pub image_of : Module → Image
image_of m = record {
  version = version_for (context_of m.items).segments;
  text = map word_of (text_of m);
  globals = words_of (values_of m.items) ++ segment_words 0 (segments_at_first m);
  table = table_of m (is_linkable m);
  pages = pages_of m.items;
  cap = cap_of m.items;
  segments = placed_segments m (is_linkable m);
  imports = imports_of (context_of m.items) m.items;
  exports = map (export_of m) (exports_of m.items);
  start = start_offset m (start_of m.items);
  unlinkable = not (is_linkable m);
  places = places_of_traps m;
  passive = joined (segments_at_first m);
}
