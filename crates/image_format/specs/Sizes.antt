-- How many bytes an image has.
use Rattle.std.specs.Prelude.{ℕ, ◌+◌, ◌*◌, List, [], ◌∷◌, length, sum_by}
use Rattle.wasm_defs.specs.declared.types.ValType.{ValType}
use Rattle.wasm_defs.specs.declared.types.FuncType.{FuncType}
use Rattle.image_format.specs.declared.image.Segment.{Segment}
use Rattle.image_format.specs.declared.image.Import.{Import}
use Rattle.image_format.specs.declared.image.Export.{Export}
use Rattle.image_format.specs.declared.image.TrapPlace.{TrapPlace}
use Rattle.image_format.specs.declared.version.Version.{Version}
use Rattle.image_format.specs.declared.version.Version.TheVariants.{One, Two, Three}
use Rattle.image_format.specs.Contents.{Image}

abbrev pub results_size : List ValType → ℕ
results_size [] = 1
results_size (type ∷ []) = 1
results_size (type ∷ other ∷ types) = 7 + length types

abbrev pub signature_size : FuncType → ℕ
signature_size s = 4 + length s.params + results_size s.results

abbrev pub segment_size : Segment → ℕ
segment_size s = 8 + length s.bytes

abbrev pub import_size : Import → ℕ
import_size i = 8 + length i.module + length i.name + signature_size i.signature

abbrev pub export_size : Export → ℕ
export_size e = 8 + length e.name + signature_size e.signature

-- those of the first version have no bytes
abbrev pub places_size : Version → List TrapPlace → ℕ
places_size One places = 0
places_size Two places = 4 + 12 * length places
places_size Three places = 4 + 12 * length places

abbrev pub passive_size : Version → List ℕ → ℕ
passive_size One bytes = 0
passive_size Two bytes = 0
passive_size Three bytes = 4 + length bytes

-- twelve numbers of four bytes, among them the lists' lengths; the elements of each list; where traps come from; and the bytes of
-- passive segments
abbrev pub size_of : Image → ℕ
size_of i =
    48 + 4 * length i.text + 8 * length i.globals + 16 * length i.table + sum_by segment_size i.segments + sum_by import_size i.imports + sum_by export_size i.exports
    + places_size i.version i.places + passive_size i.version i.passive
