-- What is read of an image.
use Rattle.std.proofs.Common.{◌≡◌, ◌≤◌, ◌⊎◌, inl, inr, ℕ, Bool, false, List, length, Option, Ok, Err, refl, arith}
use Rattle.std.specs.Prelude.{nat_lt}
use Rattle.std.specs.Io.KnownBytes.{prepend_known, IsAtEnd}
use Rattle.std.proofs.lemmas.Bool.{le-ltb}
use Rattle.io_edges.specs.Stops.{StopsFor}
use Rattle.io_edges.specs.declared.reading.Stop.{Stop}
use Rattle.io_edges.specs.declared.reading.Stop.TheVariants.{End, Failed, Full}
use Rattle.image_format.specs.Contents.{Image}
use Rattle.image_format.specs.Reading.{image_or_offset}
use Rattle.stream_compile.specs.declared.foreign.LoadedImage.TheVariants as foreign
use Rattle.source_reading.specs.Received.{AreReceivedUpTo, image_input}
use Rattle.stream_compile.specs.Running.{IsForeign}

module _ (left rest : Option (List ℕ)) (before now : ℕ) (bytes : List ℕ) (taken : left ≡ prepend_known bytes rest) (few : length bytes ≤ 1073741825) where
  abbrev failed : Bool
  failed = nat_lt before now

  calm : now ≡ before → failed ≡ false
  calm same = le-ltb before now (omega (arith, same))

  came : now ≡ before → IsAtEnd rest ⊎ (length bytes ≡ 1073741825) → AreReceivedUpTo image_input left rest false bytes
  came same ends = record { taken = taken; few = few; all = λ e. ends }

  ended : (s : Stop) → StopsFor s rest before now (length bytes) 1073741825 → (s ≡ Failed → ⊥) → (now ≡ before) × (IsAtEnd rest ⊎ (length bytes ≡ 1073741825))
  ended End stops other = (stops.1, inl stops.0)
  ended Failed stops other = absurd (other refl)
  ended Full stops other = (stops.1, inr stops.0)

  pub image_came : (s : Stop) (i : Image) → StopsFor s rest before now (length bytes) 1073741825 → (s ≡ Failed → ⊥) → image_or_offset bytes ≡ Ok i → IsForeign failed left rest (foreign.Image i)
  image_came s i stops other is = let e = ended s stops other in (calm e.0, bytes, came e.0 e.1, is)

  pub bad_came : (s : Stop) (offset : ℕ) → StopsFor s rest before now (length bytes) 1073741825 → (s ≡ Failed → ⊥) → image_or_offset bytes ≡ Err offset → IsForeign failed left rest (foreign.Bad offset)
  bad_came s offset stops other is = let e = ended s stops other in (calm e.0, bytes, came e.0 e.1, is)
