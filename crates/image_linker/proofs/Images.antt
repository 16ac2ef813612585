-- What is linked of a whole module's codes is its image.
use Rattle.std.proofs.Common.{◌≡◌, ℕ, ◌+◌, ◌*◌, ◌<◌, Bool, true, false, List, ◌++◌, map, take, length, Option, None, Some, refl, sym, ap, ◌∙◌, append_assoc, arith}
use Rattle.std.specs.Prelude.{◌&&◌, IsSome, not, slice_index}
use Rattle.std.proofs.lemmas.List.{map-append, take-map}
use Rattle.rv_isa.specs.Words.{word_of}
use Rattle.rv_isa.specs.declared.compiled.Code.{Code}
use Rattle.wasm_defs.specs.Typing.{function_type}
use Rattle.wasm_defs.specs.Context.{context_of, import_count, globals_of}
use Rattle.wasm_defs.specs.Faults.{Module}
use Rattle.wasm_defs.specs.Instances.{Written, is_linkable, exports_of, rows_of, pages_of, cap_of, values_of, start_of, elements_of, all_fit}
use Rattle.wasm_defs.specs.Memory.{page}
use Rattle.wasm_defs.specs.Values.{Value, words_of as value_words}
use Rattle.frame_layout.specs.Templates.{exit_stub}
use Rattle.image_format.specs.declared.version.Version.{Version}
use Rattle.image_format.specs.Contents.{Image}
use Rattle.image_format.specs.declared.image.Row.{Row}
use Rattle.image_format.specs.declared.image.Segment.{Segment}
use Rattle.image_format.specs.declared.image.Import.{Import}
use Rattle.image_format.specs.declared.image.Export.{Export}
use Rattle.image_format.specs.declared.image.TrapPlace.{TrapPlace}
use Rattle.index_spaces.specs.declared.entries.DataRow.{DataRow}
use Rattle.index_spaces.specs.Entries.{imports_of, function_exports, all_exports_of, data_rows_of, initials_of, initial_values, written_segments, bytes_at_first}
use Rattle.index_spaces.specs.Spaces.{spaces_of}
use Rattle.index_spaces.proofs.EntriesOfItems.{imports_are_counted, exports_are_of_items, elements_are_of_items, segments_are_of_items, bytes_are_of_items, values_are_of_items}
use Rattle.image_linker.specs.ImageOf.{front_of, image_of, text_of, stubs_from, code_from, places_of_functions, stub_places, front_size, export_of, table_of, segment_of, placed_segments, segments_at_first, segment_words, joined, version_for, start_offset, stub_traps, places_of_traps}
use Rattle.image_linker.specs.Codes.{AreCodesOf}
use Rattle.image_linker.specs.Linking.{words_from, stub_words, starts_behind, starts_of, front_words, linked_rows, has_room, linked_segments, named_segments, linked, linked_import, linked_export, linked_start, import_traps, code_traps, linked_traps}
use Rattle.image_linker.proofs.ElementFacts.{AreBelow}
use Rattle.image_linker.proofs.LinkedRows.{rows_linked}
use Rattle.image_linker.proofs.Linked.{words_linked, places_linked, traps_linked, stubs_linked, stub_traps_linked, imports_linked}

-- ---- the image, field by field

abbrev image_by : Version → List ℕ → List ℕ → List Row → ℕ → ℕ → List Segment → List Import → List Export → ℕ → Bool → List TrapPlace → List ℕ → Image
image_by version text globals table pages cap segments imports exports start unlinkable traps passive =
    record { version = version; text = text; globals = globals; table = table; pages = pages; cap = cap; segments = segments; imports = imports; exports = exports; start = start; unlinkable = unlinkable; places = traps; passive = passive }

module _ (m : Module) (codes : List Code) (below : AreBelow (length (context_of m.items).functions) (elements_of m.items))
    (typed : (f : ℕ) → f < length (context_of m.items).functions → IsSome (function_type (context_of m.items) f)) (coded : AreCodesOf m.items 0 m.bodies m.trees codes) where
  -- as many imports as imported functions
  counted : length (imports_of m.items) ≡ import_count m.items
  counted = imports_are_counted m.items

  places_are : starts_of (spaces_of m.items) codes ≡ places_of_functions m
  places_are =
      ap (λ (n : ℕ). starts_behind n codes) counted
      ∙ ap (λ (l : List ℕ). stub_places (length exit_stub) (import_count m.items) ++ l) (sym (places_linked m.items (front_size m.items) 0 m.bodies m.trees codes coded))

  text_is : front_words (spaces_of m.items) ++ words_from (starts_of (spaces_of m.items) codes) (front_of (length (imports_of m.items))) codes ≡ map word_of (text_of m)
  text_is =
      let functions = code_from m.items (places_of_functions m) (front_size m.items) 0 m.bodies m.trees in
      let stubs = stubs_from (context_of m.items) 0 m.items in
      let words : words_from (starts_of (spaces_of m.items) codes) (front_of (length (imports_of m.items))) codes ≡ map word_of functions =
      ap (λ (l : List ℕ). words_from l (front_of (length (imports_of m.items))) codes) places_are
      ∙ ap (λ (n : ℕ). words_from (places_of_functions m) (front_of n) codes) counted
      ∙ sym (words_linked m.items (places_of_functions m) (front_size m.items) 0 m.bodies m.trees codes coded) in
      append_assoc (map word_of exit_stub) (stub_words (context_of m.items).types 0 (imports_of m.items)) (words_from (starts_of (spaces_of m.items) codes) (front_of (length (imports_of m.items))) codes)
      ∙ ap (λ (l : List ℕ). map word_of exit_stub ++ (stub_words (context_of m.items).types 0 (imports_of m.items) ++ l)) words
      ∙ ap (λ (l : List ℕ). map word_of exit_stub ++ (l ++ map word_of functions)) (stubs_linked (context_of m.items) 0 m.items)
      ∙ ap (λ (l : List ℕ). map word_of exit_stub ++ l) (sym (map-append word_of stubs functions))
      ∙ sym (map-append word_of exit_stub (stubs ++ functions))

  exports_are : map (linked_export (spaces_of m.items) (starts_of (spaces_of m.items) codes)) (function_exports (all_exports_of m.items)) ≡ map (export_of m) (exports_of m.items)
  exports_are =
      ap (λ (l : List (List ℕ × ℕ)). map (linked_export (spaces_of m.items) (starts_of (spaces_of m.items) codes)) l) (exports_are_of_items m.items)
      ∙ ap (λ (l : List ℕ). map (linked_export (spaces_of m.items) l) (exports_of m.items)) places_are

  rows_are : (b : Bool) → linked_rows (spaces_of m.items) (starts_of (spaces_of m.items) codes) b ≡ table_of m b
  rows_are b = rows_linked m (starts_of (spaces_of m.items) codes) places_are typed below b

  -- the table and the memory have room for all segments where the module can be instantiated
  room_is : has_room (spaces_of m.items) ≡ is_linkable m
  room_is =
      ap (λ (es : List (Written (Option ℕ))). all_fit (rows_of m.items) es && all_fit (page * pages_of m.items) (written_segments (data_rows_of m.items))) (elements_are_of_items m.items)
      ∙ ap (λ (ws : List (Written ℕ)). all_fit (rows_of m.items) (elements_of m.items) && all_fit (page * pages_of m.items) ws) (segments_are_of_items m.items)

  segments_are : (b : Bool) → linked_segments b (data_rows_of m.items) ≡ placed_segments m b
  segments_are true = ap (λ (l : List (Written ℕ)). map segment_of l) (segments_are_of_items m.items)
  segments_are false = refl

  -- the data segments that instructions may name
  named_are : named_segments (spaces_of m.items) ≡ segments_at_first m
  named_are =
      let count = (context_of m.items).segments in
      let own = λ (r : DataRow). bytes_at_first r.place r.bytes in
      sym (take-map own count (data_rows_of m.items)) ∙ ap (λ (ss : List (List ℕ)). take count ss) (bytes_are_of_items m.items)

  abbrev L : Bool
  L = is_linkable m

  abbrev V : Version
  V = version_for (context_of m.items).segments

  abbrev values : List ℕ
  values = value_words (values_of m.items)

  abbrev named : List (List ℕ)
  named = named_segments (spaces_of m.items)

  abbrev globals : List ℕ
  globals = values ++ segment_words 0 (segments_at_first m)

  abbrev passive : List ℕ
  passive = joined (segments_at_first m)

  abbrev linked_exports : List Export
  linked_exports = map (linked_export (spaces_of m.items) (starts_of (spaces_of m.items) codes)) (function_exports (all_exports_of m.items))

  abbrev linked_imports : List Import
  linked_imports = map (linked_import (context_of m.items).types) (imports_of m.items)

  abbrev words : List ℕ
  words = map word_of (text_of m)

  abbrev linked_places : List TrapPlace
  linked_places = linked_traps (spaces_of m.items) codes

  abbrev starts : ℕ
  starts = linked_start (starts_of (spaces_of m.items) codes) (start_of m.items)

  start_is : (o : Option ℕ) → linked_start (starts_of (spaces_of m.items) codes) o ≡ start_offset m o
  start_is None = refl
  start_is (Some f) = ap (λ (l : List ℕ). 4 * slice_index l f) places_are

  traps_are : linked_traps (spaces_of m.items) codes ≡ places_of_traps m
  traps_are =
      ap (λ (n : ℕ). import_traps (length exit_stub) 0 (imports_of m.items) ++ code_traps (front_of n) n codes) counted
      ∙ ap (λ (l : List TrapPlace). l ++ code_traps (front_size m.items) (import_count m.items) codes) (stub_traps_linked (length exit_stub) 0 m.items)
      ∙ ap (λ (l : List TrapPlace). stub_traps (length exit_stub) 0 m.items ++ l)
      (ap (λ (n : ℕ). code_traps (front_size m.items) n codes) none_before ∙ sym (traps_linked m.items (front_size m.items) 0 m.bodies m.trees codes coded))
    where
      none_before : import_count m.items ≡ import_count m.items + 0
      none_before = omega arith

  pub linked_is_image : linked (spaces_of m.items) codes ≡ image_of m
  linked_is_image =
      ap (λ (b : Bool). image_by V (front_words (spaces_of m.items) ++ words_from (starts_of (spaces_of m.items) codes) (front_of (length (imports_of m.items))) codes) (value_words (initial_values (globals_of m.items) (initials_of m.items)) ++ segment_words 0 named) (linked_rows (spaces_of m.items) (starts_of (spaces_of m.items) codes) b) (pages_of m.items) (cap_of m.items) (linked_segments b (data_rows_of m.items)) linked_imports linked_exports starts (not b) linked_places (joined named)) room_is
      ∙ ap (λ (l : List ℕ). image_by V l (value_words (initial_values (globals_of m.items) (initials_of m.items)) ++ segment_words 0 named) (linked_rows (spaces_of m.items) (starts_of (spaces_of m.items) codes) L) (pages_of m.items) (cap_of m.items) (linked_segments L (data_rows_of m.items)) linked_imports linked_exports starts (not L) linked_places (joined named)) text_is
      ∙ ap (λ (l : List Value). image_by V words (value_words l ++ segment_words 0 named) (linked_rows (spaces_of m.items) (starts_of (spaces_of m.items) codes) L) (pages_of m.items) (cap_of m.items) (linked_segments L (data_rows_of m.items)) linked_imports linked_exports starts (not L) linked_places (joined named)) (values_are_of_items m.items)
      ∙ ap (λ (ss : List (List ℕ)). image_by V words (values ++ segment_words 0 ss) (linked_rows (spaces_of m.items) (starts_of (spaces_of m.items) codes) L) (pages_of m.items) (cap_of m.items) (linked_segments L (data_rows_of m.items)) linked_imports linked_exports starts (not L) linked_places (joined ss)) named_are
      ∙ ap (λ (l : List Row). image_by V words globals l (pages_of m.items) (cap_of m.items) (linked_segments L (data_rows_of m.items)) linked_imports linked_exports starts (not L) linked_places passive) (rows_are L)
      ∙ ap (λ (l : List Segment). image_by V words globals (table_of m L) (pages_of m.items) (cap_of m.items) l linked_imports linked_exports starts (not L) linked_places passive) (segments_are L)
      ∙ ap (λ (l : List Import). image_by V words globals (table_of m L) (pages_of m.items) (cap_of m.items) (placed_segments m L) l linked_exports starts (not L) linked_places passive) (imports_linked (context_of m.items) m.items)
      ∙ ap (λ (l : List Export). image_by V words globals (table_of m L) (pages_of m.items) (cap_of m.items) (placed_segments m L) (image_of m).imports l starts (not L) linked_places passive) exports_are
      ∙ ap (λ (n : ℕ). image_by V words globals (table_of m L) (pages_of m.items) (cap_of m.items) (placed_segments m L) (image_of m).imports (image_of m).exports n (not L) linked_places passive) (start_is (start_of m.items))
      ∙ ap (λ (l : List TrapPlace). image_by V words globals (table_of m L) (pages_of m.items) (cap_of m.items) (placed_segments m L) (image_of m).imports (image_of m).exports (image_of m).start (not L) l passive) traps_are
