-- What `link` is given of a module.
use Rattle.std.specs.Prelude.{◌≡◌, ℕ, List}
use Rattle.rv_isa.specs.declared.compiled.Code.{Code}
use Rattle.wasm_defs.specs.Faults.{Module}
use Rattle.wasm_laws.specs.Sections.{AreBytes}
use Rattle.index_spaces.specs.Spaces.{Spaces, spaces_of}
use Rattle.image_linker.specs.Codes.{AreCodesOf}
use Rattle.image_linker.specs.Judging.{IsModuleOf}

-- the bytes are this module, whose text keeps the limit; these are its index spaces, and the codes of its declared functions
pub record IsWhole (bytes : List ℕ) (m : Module) (s : Spaces) (codes : List Code) : Type 0 where
  pub bytes_fit : AreBytes bytes
  pub is : IsModuleOf bytes m
  pub spaces_are : s ≡ spaces_of m.items
  pub coded : AreCodesOf m.items 0 m.bodies m.trees codes
