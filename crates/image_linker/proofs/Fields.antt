-- The image that is linked, field by field.
use Rattle.std.proofs.Common.{◌≡◌, ℕ, Bool, List, map, ◌++◌, length, ap, ◌∙◌}
use Rattle.std.specs.Prelude.{not}
use Rattle.rv_isa.specs.declared.compiled.Code.{Code}
use Rattle.wasm_defs.specs.Instances.{first_minimum, first_cap}
use Rattle.image_format.specs.declared.version.Version.{Version}
use Rattle.image_format.specs.Contents.{Image}
use Rattle.image_format.specs.declared.image.Row.{Row}
use Rattle.image_format.specs.declared.image.Segment.{Segment}
use Rattle.image_format.specs.declared.image.Import.{Import}
use Rattle.image_format.specs.declared.image.Export.{Export}
use Rattle.image_format.specs.declared.image.TrapPlace.{TrapPlace}
use Rattle.index_spaces.specs.Entries.{function_exports}
use Rattle.index_spaces.specs.Spaces.{Spaces, context_in}
use Rattle.image_linker.specs.ImageOf.{front_of, segment_words, joined, version_for}
use Rattle.image_linker.specs.Linking.{words_from, front_words, global_words, named_segments, starts_of, has_room, linked, linked_rows, linked_segments, linked_import, linked_export, linked_start, linked_traps}

abbrev pub image_by : Version → List ℕ → List ℕ → List Row → ℕ → ℕ → List Segment → List Import → List Export → ℕ → Bool → List TrapPlace → List ℕ → Image
image_by version text globals table pages cap segments imports exports start unlinkable traps passive =
    record { version = version; text = text; globals = globals; table = table; pages = pages; cap = cap; segments = segments; imports = imports; exports = exports; start = start; unlinkable = unlinkable; places = traps; passive = passive }

alike : (v w : Version) (t u g h : List ℕ) (rows others : List Row) (p q cap most : ℕ) (segments placed : List Segment) (imports given : List Import) (exports named : List Export) (start first : ℕ) (a b : Bool) (traps told : List TrapPlace) (first_bytes bytes : List ℕ)
    → v ≡ w → t ≡ u → g ≡ h → rows ≡ others → p ≡ q → cap ≡ most → segments ≡ placed → imports ≡ given → exports ≡ named → start ≡ first → a ≡ b → traps ≡ told → first_bytes ≡ bytes
    → image_by v t g rows p cap segments imports exports start a traps first_bytes ≡ image_by w u h others q most placed given named first b told bytes
alike v w t u g h rows others p q cap most segments placed imports given exports named start first a b traps told first_bytes bytes e0 e1 e2 e3 e4 e5 e6 e7 e8 e9 e10 e11 e12 = cc

module _ (s : Spaces) (codes : List Code) (places : List ℕ) (room : Bool) (places_are : places ≡ starts_of s codes) (room_is : room ≡ has_room s) where
  pub linked_fields : (version : Version) (text globals : List ℕ) (table : List Row) (pages cap : ℕ) (segments : List Segment) (imports : List Import) (exports : List Export) (start : ℕ) (traps : List TrapPlace) (passive : List ℕ)
      → version ≡ version_for (context_in s).segments → text ≡ front_words s ++ words_from places (front_of (length s.imports)) codes → globals ≡ global_words s ++ segment_words 0 (named_segments s)
      → table ≡ linked_rows s places room → pages ≡ first_minimum s.memories → cap ≡ first_cap s.memories → segments ≡ linked_segments room s.segments → imports ≡ map (linked_import s.types) s.imports
      → exports ≡ map (linked_export s places) (function_exports s.exports) → start ≡ linked_start places s.start → traps ≡ linked_traps s codes → passive ≡ joined (named_segments s)
      → image_by version text globals table pages cap segments imports exports start (not room) traps passive ≡ linked s codes
  linked_fields version text globals table pages cap segments imports exports start traps passive e0 e1 e2 e3 e4 e5 e6 e7 e8 e9 e10 e11 =
      alike version _ text _ globals _ table _ pages _ cap _ segments _ imports _ exports _ start _ (not room) (not (has_room s)) traps _ passive _
      e0
      (e1 ∙ ap (λ (l : List ℕ). front_words s ++ words_from l (front_of (length s.imports)) codes) places_are)
      e2
      (e3 ∙ ap (λ (l : List ℕ). linked_rows s l room) places_are ∙ ap (linked_rows s (starts_of s codes)) room_is)
      e4 e5
      (e6 ∙ ap (λ (b : Bool). linked_segments b s.segments) room_is)
      e7
      (e8 ∙ ap (λ (l : List ℕ). map (linked_export s l) (function_exports s.exports)) places_are)
      (e9 ∙ ap (λ (l : List ℕ). linked_start l s.start) places_are)
      (ap not room_is)
      e10
      e11
