-- What the bytes before an error are: the beginning of an image's encoding, but for three fields of which the error shows late.
use Rattle.std.specs.Prelude.{◌≡◌, ◌⊎◌, ℕ, ◌+◌, ◌*◌, ◌^◌, ◌<◌, ◌≤◌, List, ◌++◌, length, take, Err}
use Rattle.std.specs.List.{All, flat_map}
use Rattle.image_format.specs.declared.limits.TheConstants.{LIST_ITEMS, PAGE_BYTES, IMAGE_BYTES, MAGIC}
use Rattle.image_format.specs.Versions.{most_pages}
use Rattle.image_format.specs.Bounds.{bound_of}
use Rattle.image_format.specs.Contents.{Image, IsImage}
use Rattle.image_format.specs.ImageBytes.{◌·◌, u32, u64, version, listed, row, segment, import, export, flag, place, spelling}
use Rattle.image_format.specs.Reading.{image_or_offset}

-- an image's encoding begins so; whether it is short enough isn't asked
pub record BeginsImage (prefix : List ℕ) : Type 0 where
  pub image : Image
  pub more : List ℕ
  pub bounded : IsImage image
  pub spelled : spelling image ≡ prefix ++ more

-- ---- the fields of an image up to the number of its pages, up to its segments, and up to its trap sites

abbrev pub to_pages : Image → List ℕ
to_pages i = u32 MAGIC · version i.version · listed u32 i.text · listed u64 i.globals · listed row i.table

abbrev pub to_segments : Image → List ℕ
to_segments i = to_pages i · u32 i.pages · u32 i.cap

abbrev pub to_sites : Image → List ℕ
to_sites i = to_segments i · listed segment i.segments · listed import i.imports · listed export i.exports · u32 i.start · u32 (flag i.unlinkable)

-- ---- fields after which no image goes on, although the error is reported at a later one

-- a number of pages above any cap: at the cap
pub record HasManyPages (prefix : List ℕ) : Type 0 where
  pub image : Image
  pub pages : ℕ
  pub bounded : IsImage image
  pub number : pages < 2 ^ 32
  pub is : prefix ≡ to_pages image · u32 pages
  pub many : most_pages image.version < pages

-- the address of one of the segments that is behind the pages: at its length
pub record HasFarSegment (prefix : List ℕ) : Type 0 where
  pub image : Image
  pub count : ℕ
  pub address : ℕ
  pub bounded : IsImage image
  pub to_come : length image.segments < count
  pub few : count ≤ LIST_ITEMS
  pub number : address < 2 ^ 32
  pub is : prefix ≡ to_segments image · u32 count · flat_map segment image.segments · u32 address
  pub far : image.pages * PAGE_BYTES < address

-- a trap site behind which there are too few words for those that are left: at one of these
pub record HasManySites (prefix : List ℕ) : Type 0 where
  pub image : Image
  pub left : ℕ
  pub bounded : IsImage image
  pub few : length image.places + left ≤ length image.text
  pub is : prefix ≡ to_sites image · u32 (length image.places + left) · flat_map place image.places
  pub many : 4 * length image.text < bound_of image.places + 4 * left

abbrev pub IsLate : List ℕ → Type 0
IsLate prefix = HasManyPages prefix ⊎ (HasFarSegment prefix ⊎ HasManySites prefix)

-- An error that isn't the end of the bytes, nor that they are too many: before it an image's encoding begins, or comes one of these
-- fields.
abbrev pub ErrorsArePrompt : Type 0
ErrorsArePrompt =
    (bytes : List ℕ) (offset : ℕ) → All (λ b. b < 256) bytes → image_or_offset bytes ≡ Err offset → offset < length bytes → offset < IMAGE_BYTES
    → BeginsImage (take offset bytes) ⊎ IsLate (take offset bytes)

-- behind one of them no image goes on
abbrev pub LateFieldsEndAll : Type 0
LateFieldsEndAll = (prefix : List ℕ) → IsLate prefix → BeginsImage prefix → ⊥
