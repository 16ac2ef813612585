-- The bytes that are received from a source.
use Rattle.std.specs.Prelude.{◌≡◌, ◌≤◌, ◌⊎◌, ℕ, Bool, true, false, List, ◌++◌, length, Option, IfSome}
use Rattle.std.specs.Io.KnownBytes.{prepend_known, IsAtEnd}
use Rattle.wasm_laws.specs.Runs.{deciding_length}
use Rattle.module_stream.specs.ValidPrefixes.{PrefixIsValid}

-- These bytes were read of a source that had the first left before and has the second left after: a prefix of what was left. They
-- are no more than those that decide about any module, and up to the last piece of them, of 65,536 bytes at most, nothing was found
-- wrong. Where a number of bytes is given which closes a batch of bodies, no closed batch has an error there.
pub record IsRead (closing : Option ℕ) (left rest : Option (List ℕ)) (read : List ℕ) : Type 0 where
  pub taken : left ≡ prepend_known read rest
  pub few : length read ≤ deciding_length
  pub before : List ℕ
  pub piece : List ℕ
  pub pieces : read ≡ before ++ piece
  pub short : length piece ≤ 65536
  pub right : PrefixIsValid closing before

-- These bytes were received: all that were left, of which a prefix was read; or, where the source failed, those that were read.
abbrev pub AreReceived : (closing : Option ℕ) → (left rest : Option (List ℕ)) → (failed : Bool) → List ℕ → Type 0
AreReceived closing left rest false bytes = (read more : List ℕ) × IsRead closing left rest read × IfSome rest (λ l. more ≡ l) × (bytes ≡ read ++ more)
AreReceived closing left rest true bytes = IsRead closing left rest bytes

-- more bytes than an image may have: so many decide about any
abbrev pub image_input : ℕ
image_input = 1073741825

-- These bytes were received, as many as are read at most: a prefix of what was left, and all of it where they are fewer and the source
-- didn't fail.
pub record AreReceivedUpTo (most : ℕ) (left rest : Option (List ℕ)) (failed : Bool) (bytes : List ℕ) : Type 0 where
  pub taken : left ≡ prepend_known bytes rest
  pub few : length bytes ≤ most
  pub all : failed ≡ false → IsAtEnd rest ⊎ (length bytes ≡ most)
