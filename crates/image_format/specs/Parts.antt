-- The bytes of an image in parts: those of its long lists, and those of the fields before each of these.
use Rattle.std.specs.Prelude.{ℕ, List, [], length}
use Rattle.std.specs.List.{flat_map}
use Rattle.image_format.specs.declared.limits.TheConstants.{MAGIC}
use Rattle.image_format.specs.declared.parts.ShortFields.{ShortFields}
use Rattle.image_format.specs.declared.version.Version.{Version}
use Rattle.image_format.specs.declared.version.Version.TheVariants.{One, Two, Three}
use Rattle.image_format.specs.Contents.{Image}
use Rattle.image_format.specs.ImageBytes.{◌·◌, u32, u64, listed, row, segment, import, export, flag, version, place}

-- how many trap sites there are, in the versions that have them
abbrev pub place_count : Version → ℕ → List ℕ
place_count One count = []
place_count Two count = u32 count
place_count Three count = u32 count

-- how many passive bytes there are, in the version that has them
abbrev pub passive_count : Version → ℕ → List ℕ
passive_count One count = []
passive_count Two count = []
passive_count Three count = u32 count

-- the fields before the instruction words
unfoldable pub before_text : Image → List ℕ
before_text i = u32 MAGIC · version i.version · u32 (length i.text)

-- those between the instruction words and the trap sites
unfoldable pub before_places : Image → List ℕ
before_places i =
    listed u64 i.globals · listed row i.table · u32 i.pages · u32 i.cap · listed segment i.segments · listed import i.imports · listed export i.exports
    · u32 i.start · u32 (flag i.unlinkable) · place_count i.version (length i.places)

-- and those between the trap sites and the passive bytes
unfoldable pub before_passive : Image → List ℕ
before_passive i = passive_count i.version (length i.passive)

-- the parts, one after the other
abbrev pub joined : ShortFields → Image → List ℕ
joined fields i =
    (fields.before_text.items · flat_map u32 i.text) · (fields.before_places.items · flat_map place i.places) · (fields.before_passive.items · i.passive)
