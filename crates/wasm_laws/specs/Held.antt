-- The bytes that items hold: those of names, and those of data segments.
use Rattle.std.specs.Prelude.{ℕ, ◌+◌, List, [], ◌∷◌, length}
use Rattle.wasm_defs.specs.declared.item.Item.{Item}
use Rattle.wasm_defs.specs.declared.item.Item.TheVariants.{Imported, Exported, Passive, Segment}

abbrev pub held_bytes : Item → ℕ
held_bytes (Imported from what kind type_index) = length from.1 + length what.1
held_bytes (Exported label kind index) = length label.1
held_bytes (Passive form bytes) = length bytes.1
held_bytes (Segment form memory place bytes) = length bytes.1
held_bytes x = 0

abbrev pub all_held : List Item → ℕ
all_held [] = 0
all_held (x ∷ xs) = held_bytes x + all_held xs
