-- How many bytes and words the regions of an image are.
use Rattle.std.proofs.Common.{◌≡◌, ℕ, ◌*◌, ◌≤◌, List, [], ◌∷◌, length, refl, arith, length-append}
use Rattle.rv_isa.specs.Steps.{le_bytes}
use Rattle.rv_isa.proofs.ByteLaws.{length-le_bytes}
use Rattle.image_format.specs.declared.version.Version.{Version}
use Rattle.image_format.specs.declared.version.Version.TheVariants.{One, Two, Three}
use Rattle.image_format.specs.declared.image.Row.{Row}
use Rattle.image_format.specs.Versions.{most_globals}
use Rattle.image_format.specs.Environment.{word_bytes, row_words}

pub length-word_bytes : (ws : List ℕ) → length (word_bytes ws) ≡ 8 * length ws
length-word_bytes [] = refl
length-word_bytes (w ∷ ws) =
    omega (arith, length-append (le_bytes 8 w) (word_bytes ws), length-le_bytes 8 w, length-word_bytes ws)

pub length-row_words : (rows : List Row) → length (row_words rows) ≡ 2 * length rows
length-row_words [] = refl
length-row_words (r ∷ rows) = omega (arith, length-row_words rows)

pub globals_few : (v : Version) → most_globals v ≤ 300000
globals_few One = omega arith
globals_few Two = omega arith
globals_few Three = omega arith
