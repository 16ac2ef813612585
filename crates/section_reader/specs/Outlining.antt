-- The outline next to the module's reading: the same items, and the same ending, but where reading stops among the bodies.
use Rattle.std.specs.Prelude.{◌≡◌, Bool, false, ◌||◌, List, [], ◌∷◌}
use Rattle.wasm_defs.specs.Faults.{items_of}
use Rattle.wasm_defs.specs.Outside.{Part, Section, Listed, Coded, Run}
use Rattle.section_reader.specs.Onward.{is_count}

-- reading stops in the code section after its count: no section was met after it
abbrev pub in_bodies : Bool → List Part → Bool
in_bodies behind [] = behind
in_bodies behind (Section at id ∷ parts) = in_bodies false parts
in_bodies behind (Listed x ∷ parts) = in_bodies (is_count x || behind) parts
in_bodies behind (Coded b ∷ parts) = in_bodies behind parts

-- the second has the items of the first, and ends as it does
pub record IsOutlined (m o : Run) : Type 0 where
  pub items : items_of o.parts ≡ items_of m.parts
  pub ending : o.ending ≡ m.ending
