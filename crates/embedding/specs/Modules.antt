-- What bytes are compiled to.
use Rattle.std.specs.Prelude.{◌≡◌, ℕ, List}
use Rattle.wasm_defs.specs.Faults.{Module, Accepted, Rejected}
use Rattle.image_format.specs.Contents.{Image}
use Rattle.image_linker.specs.ImageOf.{image_of}
use Rattle.image_linker.specs.Judging.{IsVerdictOf}
use Rattle.image_linker.specs.Same.{Same}
use Rattle.embedding.specs.declared.compiling.Compiled.{Compiled}
use Rattle.embedding.specs.declared.compiling.Compiled.TheVariants as compiled

-- the bytes are this module, whose image behaves as it does
pub record IsImageOf (bytes : List ℕ) (m : Module) (i : Image) : Type 0 where
  pub is : IsVerdictOf bytes (Accepted m)
  pub image_is : i ≡ image_of m
  pub same : Same m i

-- the image of the module that the bytes are; or they are none, and this is their error of least offset
abbrev pub IsCompiled : List ℕ → Compiled → Type 0
IsCompiled bytes (compiled.Image i) = (m : Module) × IsImageOf bytes m i
IsCompiled bytes (compiled.Refused r) = IsVerdictOf bytes (Rejected r)
