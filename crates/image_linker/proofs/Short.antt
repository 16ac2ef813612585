-- The image of a module has few enough bytes to be written.
use Rattle.std.proofs.Common.{◌≡◌, ℕ, ◌+◌, ◌*◌, ◌≤◌, Bool, true, false, List, [], ◌∷◌, ◌++◌, map, length, length-append, refl, arith}
use Rattle.std.specs.Prelude.{sum_by, slice_get}
use Rattle.std.specs.List.{All}
use Rattle.std.proofs.lemmas.List.Elements.{All-head, All-tail}
use Rattle.std.proofs.lemmas.List.Sums.{sum_by-cons}
use Rattle.wasm_defs.specs.declared.item.Item.{Item}
use Rattle.wasm_defs.specs.declared.item.Item.TheVariants.{Imported, Exported, Passive, Segment}
use Rattle.wasm_defs.specs.declared.item.Extern.TheVariants as extern
use Rattle.wasm_defs.specs.declared.types.ValType.{ValType}
use Rattle.wasm_defs.specs.Faults.{Module}
use Rattle.wasm_defs.specs.Instances.{exports_of, data_of, segments_of, i32_value, is_linkable}
use Rattle.wasm_defs.specs.Typing.{Context}
use Rattle.wasm_defs.specs.Context.{context_of, data_count_of, type_or_empty}
use Rattle.wasm_defs.specs.Entries.{or_zero}
use Rattle.wasm_laws.specs.Held.{all_held}
use Rattle.wasm_laws.proofs.Bytes.{each_byte}
use Rattle.wasm_laws.proofs.Described.{module_is_described}
use Rattle.wasm_laws.proofs.Held.{module_holds}
use Rattle.image_format.specs.declared.image.Segment.{Segment as Placed}
use Rattle.image_format.specs.declared.image.Import.{Import}
use Rattle.image_format.specs.declared.image.Export.{Export}
use Rattle.image_format.specs.declared.image.TrapPlace.{TrapPlace}
use Rattle.image_format.specs.declared.version.Version.{Version}
use Rattle.image_format.specs.declared.version.Version.TheVariants.{One, Two, Three}
use Rattle.image_format.specs.Bounds.{Each, IsImport, ExportFits}
use Rattle.image_format.specs.Contents.{Image, IsImage}
use Rattle.image_format.specs.Sizes.{results_size, segment_size, import_size, export_size, places_size, passive_size, size_of}
use Rattle.image_format.proofs.Sizes.{spelling_size}
use Rattle.image_format.proofs.EnvironmentLaws.{globals_few}
use Rattle.image_linker.specs.ImageOf.{segment_of, placed_segments, imports_of, export_of, joined, image_of}
use Rattle.image_linker.specs.Laws.{ImagesAreShort}
use Rattle.image_linker.proofs.NamedRows.{joined_first}
use Rattle.image_linker.proofs.Bounded.{images_keep_bounds, traps_are_few}

-- ---- what the lists of an image keep of a module's items

abbrev data_bytes : Placed → ℕ
data_bytes s = length s.bytes

abbrev import_names : Import → ℕ
import_names i = length i.module + length i.name

abbrev export_name : Export → ℕ
export_name e = length e.name

module _ (m : Module) (c : Context) where
  abbrev kept : List Item → ℕ
  kept items =
      sum_by data_bytes (map segment_of (data_of items)) + sum_by import_names (imports_of c items) + sum_by export_name (map (export_of m) (exports_of items))
      + length (joined (segments_of items))

  kept_is_held : (items : List Item) → kept items ≤ all_held items
  kept_is_held [] = omega arith
  kept_is_held (Imported from what kind type_index ∷ xs) =
      let names = sum_by-cons import_names (record { «module» = from.1; name = what.1; signature = type_or_empty (slice_get c.types type_index.1) }) (imports_of c xs) in
      omega (arith, names, kept_is_held xs)
  kept_is_held (Exported name (at, extern.Function) index ∷ xs) =
      let names = sum_by-cons export_name (export_of m (name.1, index.1)) (map (export_of m) (exports_of xs)) in
      omega (arith, names, kept_is_held xs)
  kept_is_held (Exported name (at, extern.Table) index ∷ xs) = omega (arith, kept_is_held xs)
  kept_is_held (Exported name (at, extern.Memory) index ∷ xs) = omega (arith, kept_is_held xs)
  kept_is_held (Exported name (at, extern.Global) index ∷ xs) = omega (arith, kept_is_held xs)
  kept_is_held (Passive form bytes ∷ xs) = omega (arith, length-append bytes.1 (joined (segments_of xs)), kept_is_held xs)
  kept_is_held (Segment form memory place bytes ∷ xs) =
      let kept_data = sum_by-cons data_bytes (segment_of (i32_value place, bytes.1)) (map segment_of (data_of xs)) in
      omega (arith, kept_data, kept_is_held xs)
  kept_is_held (x ∷ xs) = omega (arith, kept_is_held xs)

placed_is_less : (m : Module) (b : Bool) → sum_by data_bytes (placed_segments m b) ≤ sum_by data_bytes (map segment_of (data_of m.items))
placed_is_less m true = omega arith
placed_is_less m false = omega arith

-- ---- the sizes of lists

segments_size : (xs : List Placed) → sum_by segment_size xs ≡ 8 * length xs + sum_by data_bytes xs
segments_size [] = refl
segments_size (x ∷ xs) = let a = sum_by-cons segment_size x xs in let b = sum_by-cons data_bytes x xs in omega (arith, a, b, segments_size xs)

-- several results have a byte each, after one that says so and their number
results_bounded : (types : List ValType) → results_size types ≤ 5 + length types
results_bounded [] = omega arith
results_bounded (type ∷ []) = omega arith
results_bounded (type ∷ other ∷ types) = omega arith

one_result_size : (types : List ValType) → length types ≤ 1 → results_size types ≡ 1
one_result_size [] le = refl
one_result_size (type ∷ []) le = refl
one_result_size (type ∷ other ∷ types) le = absurd (omega arith)

imports_size : (xs : List Import) → All IsImport xs → sum_by import_size xs ≤ 1013 * length xs + sum_by import_names xs
imports_size [] h = omega arith
imports_size (x ∷ xs) h =
    let is = All-head IsImport x xs h in
    let small = is.signature.params in
    let one = one_result_size x.signature.results is.one_result in
    let a = sum_by-cons import_size x xs in
    let b = sum_by-cons import_names x xs in
    let rest = imports_size xs (All-tail IsImport x xs h) in
    omega (arith, small, one, a, b, rest)

exports_size : (words : ℕ) (front xs : List Export) → Each (ExportFits words) front xs → sum_by export_size xs ≤ 2017 * length xs + sum_by export_name xs
exports_size words front [] h = omega arith
exports_size words front (x ∷ xs) h =
    let small = h.0.is.signature.params in
    let few = h.0.is.signature.results in
    let bounded = results_bounded x.signature.results in
    let a = sum_by-cons export_size x xs in
    let b = sum_by-cons export_name x xs in
    let rest = exports_size words (front ++ x ∷ []) xs h.1 in
    omega (arith, small, few, bounded, a, b, rest)

places_bounded : (v : Version) (ps : List TrapPlace) → places_size v ps ≤ 4 + 12 * length ps
places_bounded One ps = omega arith
places_bounded Two ps = omega arith
places_bounded Three ps = omega arith

passive_bounded : (v : Version) (bytes : List ℕ) → passive_size v bytes ≤ 4 + length bytes
passive_bounded One bytes = omega arith
passive_bounded Two bytes = omega arith
passive_bounded Three bytes = omega arith

size_is_bounded : (i : Image) → IsImage i → 3 * length i.places ≤ length i.text → sum_by data_bytes i.segments + sum_by import_names i.imports + sum_by export_name i.exports + length i.passive ≤ 67108864 → size_of i ≤ 1073741824
size_is_bounded i bounded traps held =
    let words = bounded.text.most in
    let globals = bounded.globals.0 in
    let rows = bounded.table.0 in
    let segments = bounded.segments.0 in
    let imports = bounded.imports.0 in
    let exports = bounded.exports.0 in
    let a = segments_size i.segments in
    let b = imports_size i.imports bounded.imports.1 in
    let c = exports_size (length i.text) [] i.exports bounded.exports.1 in
    let d = places_bounded i.version i.places in
    let e = passive_bounded i.version i.passive in
    let f = globals_few i.version in
    omega (arith, words, globals, rows, segments, imports, exports, a, b, c, d, e, f, traps, held)

pub images_are_short : ImagesAreShort
images_are_short bytes m fits is =
    let bounded = images_keep_bounds bytes m fits is in
    let all = module_holds bytes m fits is.is in
    let d = module_is_described bytes m (each_byte bytes fits) is.is in
    let short = d.1.kept.short in
    let held = kept_is_held m (context_of m.items) m.items in
    let placed = placed_is_less m (is_linkable m) in
    let passive = joined_first (or_zero (data_count_of m.items)) (segments_of m.items) in
    let size = size_is_bounded (image_of m) bounded (traps_are_few bytes m fits is) (omega (arith, all, short, held, placed, passive)) in
    omega (arith, spelling_size (image_of m), size)
