-- Instruction words as they are stored: in four bytes, the low one first (RISC-V Unprivileged Architecture, 1.5).
use Rattle.std.specs.Prelude.{◌≡◌, ℕ, List, [], ◌∷◌, map}
use Rattle.std.specs.Int.{w32, to_le_bytes, from_le_bytes}

-- the instruction words that are stored so
abbrev pub words_in : List (List ℕ) → List ℕ
words_in stored = map (from_le_bytes w32) stored

-- each of these is the bytes of an instruction word
abbrev pub AreStored : List (List ℕ) → Type 0
AreStored [] = Unit {0}
AreStored (bytes ∷ stored) = (to_le_bytes w32 (from_le_bytes w32 bytes) ≡ bytes) × AreStored stored
