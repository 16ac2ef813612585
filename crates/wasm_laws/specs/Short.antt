-- Offsets of a module have 32 bits: those of its imports, of its bodies and of their tokens.
use Rattle.std.specs.Prelude.{ℕ, ◌^◌, ◌<◌, List, [], ◌∷◌}
use Rattle.wasm_defs.specs.declared.item.Item.{Item}
use Rattle.wasm_defs.specs.declared.item.Item.TheVariants.{Imported}
use Rattle.wasm_defs.specs.Outside.{Body}
use Rattle.wasm_defs.specs.Faults.{read_of, offsets_of}

abbrev pub AreShort : List ℕ → Type 0
AreShort [] = Unit {0}
AreShort (n ∷ ns) = (n < 2 ^ 32) × AreShort ns

abbrev pub AreShortImports : List Item → Type 0
AreShortImports [] = Unit {0}
AreShortImports (Imported from what kind type_index ∷ items) = (from.0 < 2 ^ 32) × AreShortImports items
AreShortImports (x ∷ items) = AreShortImports items

abbrev pub AreShortBodies : List Body → Type 0
AreShortBodies [] = Unit {0}
AreShortBodies (b ∷ bodies) = (b.first < 2 ^ 32) × AreShort (offsets_of (read_of b).code.tokens) × AreShortBodies bodies
