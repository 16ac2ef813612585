-- A number whose bytes come one by one.
use Rattle.std.specs.Prelude.{ℕ, Bool, List, [], ◌∷◌, ◌++◌}
use Rattle.leb_feed.specs.declared.leb.Fed.{Fed}
use Rattle.leb_feed.specs.declared.leb.Fed.TheVariants as fed
use Rattle.wasm_defs.specs.Numbers.{Reading, Number, CutOff, Bad, IsCutOff}

-- the bytes that came of a number of so many bits
pub record Feeding : Type 0 where
  pub bits : ℕ
  pub signed : Bool
  pub bytes : List ℕ

abbrev pub with_byte : Feeding → ℕ → Feeding
with_byte f b = record { bits = f.bits; signed = f.signed; bytes = f.bytes ++ b ∷ [] }

-- more bytes complete an encoding
abbrev pub IsUnfinished : Feeding → Type 0
IsUnfinished f = IsCutOff f.signed f.bits f.bytes

-- what a reading of all bytes that came is reported as
abbrev pub told : Reading → Fed
told (Number n len) = fed.Done n
told CutOff = fed.More
told Bad = fed.Bad
