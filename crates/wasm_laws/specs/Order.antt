-- Where the parts of a module are: one after the other, before the error that ends reading (WebAssembly Core 1.0, 5.5).
use Rattle.std.specs.Prelude.{◌≡◌, ◌≤◌, ◌<◌, ℕ, suc, ◌+◌, List, [], ◌∷◌, length, take, drop, Option, None, Some}
use Rattle.wasm_defs.specs.Limits.{max_body}
use Rattle.wasm_defs.specs.Outside.{Body, Part, Section, Listed, Coded, id_of}
use Rattle.wasm_defs.specs.Faults.{Use, use_of, offset_of_use}

-- the offset after a body
abbrev pub end_of : Body → ℕ
end_of b = b.first + length b.bytes

-- a body from low on, and before last: its size, then its first byte, and as many bytes as a body may have
pub record BodyStands (low last : ℕ) (b : Body) : Type 0 where
  pub from : low ≤ b.size
  pub sized : b.size < b.first
  pub least : 2 ≤ length b.bytes
  pub most : length b.bytes ≤ max_body
  pub before : end_of b ≤ last

-- an item from low on, and no later than last: the index that not every type serves before it, since that may be an error
abbrev pub UseStands : (low last : ℕ) → Option Use → Type 0
UseStands low last None = low ≤ last
UseStands low last (Some u) = (low ≤ offset_of_use u) × (offset_of_use u < last)

-- the first offset at which another part may be after an item
abbrev pub behind_use : ℕ → Option Use → ℕ
behind_use low None = low
behind_use low (Some u) = suc (offset_of_use u)

-- the parts are from low on, each after the one before: sections and items no later than last, and bodies before it. Items
-- follow what was read before them
abbrev pub AreOrdered : ℕ → ℕ → List Part → Type 0
AreOrdered low last [] = Unit {0}
AreOrdered low last (Section at id ∷ parts) = (low ≤ at) × (at ≤ last) × AreOrdered (suc at) last parts
AreOrdered low last (Listed x ∷ parts) = UseStands low last (use_of x) × AreOrdered (behind_use low (use_of x)) last parts
AreOrdered low last (Coded b ∷ parts) = BodyStands low last b × AreOrdered (end_of b) last parts

-- the parts are cut from the module's bytes: a section's id is the byte at its offset, and a body's bytes are those from the
-- offset of its first one on
abbrev pub AreCutFrom : List ℕ → List Part → Type 0
AreCutFrom bytes [] = Unit {0}
AreCutFrom bytes (Section at position ∷ parts) = (take 1 (drop at bytes) ≡ id_of position ∷ []) × AreCutFrom bytes parts
AreCutFrom bytes (Listed x ∷ parts) = AreCutFrom bytes parts
AreCutFrom bytes (Coded b ∷ parts) = (take (length b.bytes) (drop b.first bytes) ≡ b.bytes) × AreCutFrom bytes parts

-- a module's sections begin after its magic and version
abbrev pub first_section : ℕ
first_section = 8
