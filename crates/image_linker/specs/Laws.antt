-- The laws of modules' images.
use Rattle.std.specs.Prelude.{◌≡◌, ℕ, ◌*◌, ◌≤◌, List, map, length}
use Rattle.wasm_defs.specs.Faults.{Module}
use Rattle.wasm_laws.specs.Sections.{AreBytes}
use Rattle.image_format.specs.declared.limits.TheConstants.{IMAGE_BYTES}
use Rattle.frame_layout.specs.Traps.{traps_in}
use Rattle.image_format.specs.declared.image.TrapPlace.{TrapPlace}
use Rattle.image_format.specs.Contents.{IsImage}
use Rattle.image_format.specs.ImageBytes.{spelling}
use Rattle.image_linker.specs.ImageOf.{text_of, image_of}
use Rattle.image_linker.specs.Judging.{IsModuleOf}
use Rattle.image_linker.specs.Same.{Same}

-- a module that some bytes are and its image behave alike
abbrev pub ImagesBehaveAlike : Type 0
ImagesBehaveAlike = (bytes : List ℕ) (m : Module) → AreBytes bytes → IsModuleOf bytes m → Same m (image_of m)

-- the image of a module that some bytes are keeps the bounds of images
abbrev pub ImagesKeepBounds : Type 0
ImagesKeepBounds = (bytes : List ℕ) (m : Module) → AreBytes bytes → IsModuleOf bytes m → IsImage (image_of m)

-- and has few enough bytes to be written
abbrev pub ImagesAreShort : Type 0
ImagesAreShort = (bytes : List ℕ) (m : Module) → AreBytes bytes → IsModuleOf bytes m → length (spelling (image_of m)) ≤ IMAGE_BYTES

-- The trap sites that an image has are those of all ECALLs of its text that ask for a trap.
abbrev pub TrapsAreTold : Type 0
TrapsAreTold = (m : Module) → map (λ (p : TrapPlace). p.offset) (image_of m).places ≡ map (λ i. 4 * i) (traps_in (text_of m))
