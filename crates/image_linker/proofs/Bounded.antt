-- The image of a module keeps the bounds of images.
use Rattle.std.proofs.Common.{◌≡◌, ℕ, zero, suc, ◌+◌, ◌*◌, ◌^◌, ◌<◌, ◌≤◌, Bool, true, false, List, [], ◌∷◌, ◌++◌, map, length, replicate, Option, None, Some, refl, sym, subst, arith}
use Rattle.std.specs.Prelude.{All, nat_le, slice_get}
use Rattle.std.proofs.lemmas.Bool.{and_parts, leb-true}
use Rattle.std.proofs.lemmas.List.{length-append, length-map, length-replicate}
use Rattle.std.proofs.lemmas.List.Elements.{All-nil, All-cons}
use Rattle.std.proofs.lemmas.List.Sums.{sum_by-append}
use Rattle.rv_isa.specs.Words.{word_of}
use Rattle.wasm_defs.specs.declared.item.Item.{Item}
use Rattle.wasm_defs.specs.declared.item.Item.TheVariants as item
use Rattle.wasm_defs.specs.Context.{context_of, functions_of}
use Rattle.wasm_defs.specs.Entries.{nothing}
use Rattle.wasm_defs.specs.Faults.{Module}
use Rattle.wasm_defs.specs.Instances.{Written, exports_of, values_of, rows_of, pages_of, cap_of, elements_of, data_of, is_linkable, instance_of, all_fit, start_of}
use Rattle.wasm_defs.specs.Limits.{max_entries, max_module, max_pages}
use Rattle.wasm_defs.specs.Memory.{page}
use Rattle.wasm_defs.specs.Values.{word_of as value_word, words_of}
use Rattle.wasm_defs.specs.SmallTypes.{TypesAreSmall}
use Rattle.wasm_laws.specs.Kept.{AreThere}
use Rattle.wasm_laws.specs.Sections.{AreBytes}
use Rattle.wasm_laws.proofs.Bytes.{each_byte}
use Rattle.wasm_laws.proofs.Counted.{entries_in, entries_are_few}
use Rattle.wasm_laws.proofs.Described.{module_is_described}
use Rattle.wasm_laws.proofs.Exports.{exports_are_there}
use Rattle.wasm_defs.specs.Rules.{AllKeep}
use Rattle.image_format.specs.Contents.{IsImage}
use Rattle.image_format.specs.Bounds.{IsText, IsOffset, AreGlobals, IsRow, IsTable, Each, SegmentFits, AreSegments, bytes_of, AreImports, AreExports, PlaceFits, ArePlaces, IsPassive}
use Rattle.image_format.specs.Versions.{most_pages, most_globals}
use Rattle.image_format.specs.declared.image.TrapPlace.{TrapPlace}
use Rattle.image_format.specs.declared.version.Version.TheVariants.{Two}
use Rattle.image_format.specs.declared.image.Segment.{Segment}
use Rattle.image_linker.specs.ImageOf.{text_of, offset_of, row_of, table_of, segment_of, placed_segments, imports_of, export_of, start_offset, image_of, front_size, places_of_traps, segments_at_first, segment_words, joined, version_for}
use Rattle.image_linker.specs.Judging.{IsModuleOf, sizes}
use Rattle.image_linker.specs.Linking.{empty_row}
use Rattle.image_linker.specs.Laws.{ImagesKeepBounds}
use Rattle.image_linker.proofs.CoveredModules.{IsCoveredModule}
use Rattle.image_linker.proofs.CoveredFacts.{module_is_covered}
use Rattle.image_linker.proofs.ExportBounds.{AreNamed, exports_are_few, sections_named, items_keep, exports_fit}
use Rattle.image_linker.proofs.ImportBounds.{imports_are_few, imports_counted, imports_fit}
use Rattle.image_linker.proofs.Items.{values_are_words}
use Rattle.image_linker.proofs.Modules.{function_offset, rows_fit}
use Rattle.image_linker.proofs.TableRows.{RowFits, table_has_rows}
use Rattle.image_linker.proofs.Placed.{text_length, text_in_range}
use Rattle.image_linker.proofs.Regions.{AreWords}
use Rattle.image_linker.proofs.Spread.{Stand, places_fit, traps_stand}
use Rattle.image_linker.proofs.SegmentFacts.{bytes_in}
use Rattle.image_linker.proofs.Segmented.{segment_words_length, segment_words_are_words, words_append}
use Rattle.image_linker.proofs.WordRanges.{words_are_short}

each_word : (ws : List ℕ) → AreWords ws → All (λ value. value < 2 ^ 64) ws
each_word [] h = All-nil (λ value. value < 2 ^ 64)
each_word (w ∷ ws) h = All-cons (λ value. value < 2 ^ 64) w ws h.0 (each_word ws h.1)

empty_rows : (n most : ℕ) → n ≤ most → (length (replicate n empty_row) ≤ most) × All IsRow (replicate n empty_row)
empty_rows n most le = (omega (arith, length-replicate n empty_row, le), each n)
  where
    each : (n : ℕ) → All IsRow (replicate n empty_row)
    each zero = All-nil IsRow
    each (suc n) = All-cons IsRow empty_row (replicate n empty_row) (omega arith, omega arith) (each n)

segments_are_few : (items : List Item) → length (data_of items) ≤ entries_in 12 items
segments_are_few [] = omega arith
segments_are_few (item.Passive form run ∷ items) = omega (arith, segments_are_few items)
segments_are_few (item.Segment form memory place run ∷ items) = omega (arith, segments_are_few items)
segments_are_few (x ∷ items) = segments_are_few items

-- segments that fit into the memory, after those before them
segments_fit : (pages : ℕ) → pages ≤ max_pages → (ws : List (Written ℕ)) (front : List Segment) → all_fit (page * pages) ws ≡ true → bytes_of front + bytes_in ws ≤ max_module → Each (SegmentFits pages) front (map segment_of ws)
segments_fit pages small [] front fit few = tt
segments_fit pages small (w ∷ ws) front fit few =
    let parts = and_parts (nat_le (w.0 + length w.1) (page * pages)) (all_fit (page * pages) ws) fit in
    let inside = leb-true (w.0 + length w.1) (page * pages) parts.0 in
    let together : bytes_of (front ++ segment_of w ∷ []) ≡ bytes_of front + (0 + length w.1) = sum_by-append (λ (s : Segment). length s.bytes) front (segment_of w ∷ []) in (
      record { place = omega (arith, inside, small); inside = omega (arith, inside); together = omega (arith, few) },
      segments_fit pages small ws (front ++ segment_of w ∷ []) parts.1 (omega (arith, together, few)),
    )

-- ---- bounds of the version for so many data segments

globals_fit : (n g : ℕ) → g ≤ max_entries → n ≤ max_entries → g + 2 * n ≤ most_globals (version_for n)
globals_fit zero g values few = omega arith
globals_fit (suc n) g values few = omega arith

cap_fits : (n cap : ℕ) → cap ≤ max_pages → cap ≤ most_pages (version_for n)
cap_fits zero cap small = omega arith
cap_fits (suc n) cap small = omega arith

places_stay : (n words : ℕ) (places : List TrapPlace) → ArePlaces Two words places → ArePlaces (version_for n) words places
places_stay zero words places fit = fit
places_stay (suc n) words places fit = fit

passive_fits : (n : ℕ) (segments : List (List ℕ)) → length segments ≡ n → length (joined segments) ≤ max_module → IsPassive (version_for n) (joined segments)
passive_fits zero [] all held = refl
passive_fits zero (s ∷ segments) all held = absurd (omega arith)
passive_fits (suc n) segments all held = omega (arith, held)

module _ (bytes : List ℕ) (m : Module) (fits : AreBytes bytes) (is : IsModuleOf bytes m) where
  good : IsCoveredModule m
  good = module_is_covered bytes m fits is.is

  text_words : length (map word_of (text_of m)) ≤ 2 ^ 26
  text_words = let keeps = is.fits in omega (arith, text_length m good, length-map (text_of m) word_of)

  text : IsText (map word_of (text_of m))
  text = record {
    least = omega (arith, text_length m good, length-map (text_of m) word_of);
    most = omega (arith, text_words);
    each = words_are_short (text_of m) (text_in_range m good);
  }

  abbrev counted : List (List ℕ)
  counted = segments_at_first m

  abbrev count : ℕ
  count = (context_of m.items).segments

  globals : AreGlobals (version_for count) (words_of (values_of m.items) ++ segment_words 0 counted)
  globals =
      let first = words_of (values_of m.items) in
      let after = segment_words 0 counted in
      let size : length (first ++ after) ≡ length (values_of m.items) + 2 * count =
      omega (arith, length-append first after, length-map (values_of m.items) value_word, segment_words_length 0 counted, good.counted.all) in
      let fit = globals_fit count (length (values_of m.items)) good.spaces.globals good.counted.few in (
        subst (λ (n : ℕ). n ≤ most_globals (version_for count)) (sym size) fit,
        each_word (first ++ after) (words_append first after (values_are_words m.items good.constants) (segment_words_are_words 0 counted (omega (arith, good.counted.held)))),
      )

  each_row : (rows : List (Option ℕ)) → ((a : ℕ) (o : Option ℕ) → slice_get rows a ≡ Some o → RowFits m o) → All IsRow (map (row_of m) rows)
  each_row [] fit = All-nil IsRow
  each_row (o ∷ rows) fit = All-cons IsRow (row_of m o) (map (row_of m) rows) (fit 0 o refl) (each_row rows (λ a p is. fit (suc a) p is))

  table : (b : Bool) → is_linkable m ≡ b → IsTable (table_of m b)
  table true can_link =
      let fit = (and_parts (all_fit (rows_of m.items) (elements_of m.items)) (all_fit (page * pages_of m.items) (data_of m.items)) can_link).0 in
      let few : length (text_of m) ≤ 2 ^ 26 = omega (arith, text_words, length-map (text_of m) word_of) in (
        omega (arith, length-map (instance_of m).table (row_of m), table_has_rows m fit, good.spaces.rows),
        each_row (instance_of m).table (rows_fit m good few),
      )
  table false can_not = empty_rows (rows_of m.items) 100000 (omega (arith, good.spaces.rows))

  segments : (b : Bool) → is_linkable m ≡ b → AreSegments (pages_of m.items) (placed_segments m b)
  segments true can_link =
      let fit = (and_parts (all_fit (rows_of m.items) (elements_of m.items)) (all_fit (page * pages_of m.items) (data_of m.items)) can_link).1 in
      let listed : entries_in 12 m.items ≤ max_entries = subst (λ (items : List Item). entries_in 12 items ≤ max_entries) (sym is.is.items) (entries_are_few 12 (λ code. absurd cc) bytes) in
      let small : pages_of m.items ≤ max_pages = omega (arith, good.spaces.pages, good.spaces.cap) in (
        omega (arith, length-map (data_of m.items) segment_of, segments_are_few m.items, listed),
        segments_fit (pages_of m.items) small (data_of m.items) [] fit (omega (arith, good.segments.few)),
      )
  segments false can_not = (omega arith, tt)

  start_at : (o : Option ℕ) → start_of m.items ≡ o → IsOffset (length (map word_of (text_of m))) (start_offset m o)
  start_at None e = (omega arith, refl, omega (arith, text.least))
  start_at (Some f) e = function_offset m good (omega (arith, text_words, length-map (text_of m) word_of)) f (good.start f e).0

  start : IsOffset (length (map word_of (text_of m))) (start_offset m (start_of m.items))
  start = start_at (start_of m.items) refl

  types : TypesAreSmall (context_of m.items).types
  types = good.types

  imports : AreImports (imports_of (context_of m.items) m.items)
  imports =
      let d = module_is_described bytes m (each_byte bytes fits) is.is in
      let named = subst AreNamed (sym d.2) (sections_named d.0 _ _ d.1.spelled.spelled.second.second) in
      let keep = subst (AllKeep nothing) (sym d.2) (items_keep nothing d.0 d.1.kept.each) in
      let listed : entries_in 2 m.items ≤ max_entries = subst (λ (items : List Item). entries_in 2 items ≤ max_entries) (sym is.is.items) (entries_are_few 2 (λ ten. absurd cc) bytes) in
      (omega (arith, imports_counted (context_of m.items) m.items, imports_are_few m.items, listed), imports_fit (context_of m.items) nothing m.items types good.returns named keep)

  there : AreThere (context_of m.items) (length (functions_of m.items)) (exports_of m.items)
  there = subst (λ (items : List Item). AreThere (context_of items) (length (functions_of items)) (exports_of items)) (sym is.is.items) (exports_are_there bytes)

  few : length (map (export_of m) (exports_of m.items)) ≤ 100000
  few =
      let listed : entries_in 7 m.items ≤ max_entries = subst (λ (items : List Item). entries_in 7 items ≤ max_entries) (sym is.is.items) (entries_are_few 7 (λ ten. absurd cc) bytes) in
      omega (arith, length-map (exports_of m.items) (export_of m), exports_are_few m.items, listed)

  places : (f : ℕ) → f < length (functions_of m.items) → IsOffset (length (map word_of (text_of m))) (offset_of m f)
  places f within = function_offset m good (omega (arith, text_words, length-map (text_of m) word_of)) f within

  exports : AreExports (length (map word_of (text_of m))) (map (export_of m) (exports_of m.items))
  exports =
      let d = module_is_described bytes m (each_byte bytes fits) is.is in
      let named = subst AreNamed (sym d.2) (sections_named d.0 _ _ d.1.spelled.spelled.second.second) in
      let keep = subst (AllKeep nothing) (sym d.2) (items_keep nothing d.0 d.1.kept.each) in
      let each = exports_fit m (length (map word_of (text_of m))) (length (functions_of m.items)) types places nothing m.items [] named keep there (λ name h. refl) in
      (few, each)

  -- a third of the words at most are traps, and their offsets rise
  spread : (3 * length (places_of_traps m) ≤ length (map word_of (text_of m))) × Each (PlaceFits (length (map word_of (text_of m)))) [] (places_of_traps m)
  spread =
      let words : front_size m.items + sizes m.items 0 m.bodies m.trees ≡ length (map word_of (text_of m)) = omega (arith, text_length m good, length-map (text_of m) word_of) in
      places_fit (length (map word_of (text_of m))) (places_of_traps m) text_words
      (subst (Stand 0 (places_of_traps m)) words (traps_stand m good.few_functions good.short_imports good.short_bodies))

  traps : ArePlaces (version_for count) (length (map word_of (text_of m))) (places_of_traps m)
  traps = places_stay count (length (map word_of (text_of m))) (places_of_traps m) (omega (arith, spread.0), spread.1)

  bounds : IsImage (image_of m)
  bounds = record {
    text = text;
    globals = globals;
    table = table (is_linkable m) refl;
    pages = good.spaces.pages;
    cap = cap_fits count (cap_of m.items) good.spaces.cap;
    segments = segments (is_linkable m) refl;
    imports = imports;
    exports = exports;
    start = start;
    places = traps;
    passive = passive_fits count counted good.counted.all good.counted.held;
  }

  -- a third of the words at most are traps
  pub traps_are_few : 3 * length (places_of_traps m) ≤ length (map word_of (text_of m))
  traps_are_few = spread.0

pub images_keep_bounds : ImagesKeepBounds
images_keep_bounds bytes m fits is = bounds bytes m fits is
