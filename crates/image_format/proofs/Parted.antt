-- The parts of an image's bytes are its one encoding.
use Rattle.std.proofs.Common.{◌≡◌, ◌∙◌, ℕ, List, ◌++◌, length, refl, ap, append_assoc}
use Rattle.std.specs.List.{flat_map}
use Rattle.image_format.specs.declared.limits.TheConstants.{MAGIC}
use Rattle.image_format.specs.declared.image.TrapPlace.{TrapPlace}
use Rattle.image_format.specs.declared.version.Version.{Version}
use Rattle.image_format.specs.declared.version.Version.TheVariants.{One, Two, Three}
use Rattle.image_format.specs.Bounds.{ArePlaces, IsPassive}
use Rattle.image_format.specs.Contents.{Image, IsImage}
use Rattle.image_format.specs.ImageBytes.{u32, u64, listed, row, segment, import, export, flag, version, place, places, passive, spelling}
use Rattle.image_format.specs.Parts.{place_count, passive_count, before_text, before_places, before_passive}

-- the fields in three runs, and the list behind each
regrouped : (m v n t g r p c s i e b f k q l z : List ℕ)
    → ((m ++ (v ++ n)) ++ t) ++ (((g ++ (r ++ (p ++ (c ++ (s ++ (i ++ (e ++ (b ++ (f ++ k))))))))) ++ q) ++ (l ++ z))
    ≡ m ++ (v ++ ((n ++ t) ++ (g ++ (r ++ (p ++ (c ++ (s ++ (i ++ (e ++ (b ++ (f ++ ((k ++ q) ++ (l ++ z)))))))))))))
regrouped m v n t g r p c s i e b f k q l z = simp append_assoc

-- the trap sites and the passive bytes that an image of some version has
behind : (v : Version) (words : ℕ) (sites : List TrapPlace) (bytes : List ℕ) → ArePlaces v words sites → IsPassive v bytes
    → (place_count v (length sites) ++ flat_map place sites) ++ (passive_count v (length bytes) ++ bytes) ≡ places v sites ++ passive v bytes
behind One words sites bytes none no_bytes = rw (none, no_bytes) refl
behind Two words sites bytes some no_bytes = rw no_bytes refl
behind Three words sites bytes some fits = refl

module _ (i : Image) (is : IsImage i) where
  abbrev front : List ℕ → List ℕ
  front rest =
      u32 MAGIC ++ (version i.version ++ (listed u32 i.text ++ (listed u64 i.globals ++ (listed row i.table ++ (u32 i.pages ++ (u32 i.cap ++ (listed segment i.segments
      ++ (listed import i.imports ++ (listed export i.exports ++ (u32 i.start ++ (u32 (flag i.unlinkable) ++ rest)))))))))))

  pub parted : (before_text i ++ flat_map u32 i.text) ++ ((before_places i ++ flat_map place i.places) ++ (before_passive i ++ i.passive)) ≡ spelling i
  unfolding before_text before_places before_passive spelling
  parted =
      regrouped (u32 MAGIC) (version i.version) (u32 (length i.text)) (flat_map u32 i.text) (listed u64 i.globals) (listed row i.table) (u32 i.pages) (u32 i.cap) (listed segment i.segments)
      (listed import i.imports) (listed export i.exports) (u32 i.start) (u32 (flag i.unlinkable)) (place_count i.version (length i.places)) (flat_map place i.places)
      (passive_count i.version (length i.passive)) i.passive
      ∙ ap front (behind i.version (length i.text) i.places i.passive is.places is.passive)
