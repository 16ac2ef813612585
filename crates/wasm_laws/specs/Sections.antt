-- What the sections of a module come to in its run (WebAssembly Core 1.0, 5.5).
use Rattle.std.specs.Prelude.{◌≡◌, ◌<◌, ℕ, List, [], ◌∷◌, ◌++◌, length, map}
use Rattle.std.specs.List.{All}
use Rattle.wasm_defs.specs.declared.item.Item.TheVariants.{Start, DataCount, Code}
use Rattle.wasm_defs.specs.Entries.{Seen}
use Rattle.wasm_defs.specs.Outside as outside
use Rattle.wasm_defs.specs.Outside.{Part, Listed, Coded, Whole, module_read}
use Rattle.wasm_defs.specs.Items.{Section, Payload, Custom, Vector, Starting, Counting, Bodies, payload_position, Items}
use Rattle.wasm_defs.specs.Rules.{RulesAreKept}

-- the parts of a section after its id: its items, or the code's count and its bodies
abbrev pub parts_of : Payload → List Part
parts_of (Custom name) = []
parts_of (Vector position count items) = map Listed items
parts_of (Starting index) = Listed (Start index) ∷ []
parts_of (Counting count) = Listed (DataCount count) ∷ []
parts_of (Bodies count end bodies) = Listed (Code (count, length bodies) end) ∷ map Coded bodies

abbrev pub parts_in : List Section → List Part
parts_in [] = []
parts_in (s ∷ sections) = outside.Section s.id (payload_position s.payload) ∷ (parts_of s.payload ++ parts_in sections)

-- these are the sections of a module, which keep the rules, and the bytes encode them
pub record AreSectionsOf (sections : List Section) (bytes : List ℕ) : Type 0 where
  pub spelled : Items bytes sections
  pub kept : RulesAreKept bytes sections

abbrev pub AreBytes : List ℕ → Type 0
AreBytes = All (λ b. b < 256)

-- the bytes are read whole, with these parts
abbrev pub IsReadAs : List Part → List ℕ → Type 0
IsReadAs parts bytes = (seen : Seen) × (module_read bytes ≡ record { parts = parts; ending = Whole seen })
