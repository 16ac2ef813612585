-- What is linked of a whole module: its image, which keeps the bounds of images.
use Rattle.std.proofs.Common.{◌≡◌, ℕ, List, sym, ap, ◌∙◌, subst}
use Rattle.rv_isa.specs.declared.compiled.Code.{Code}
use Rattle.wasm_defs.specs.Faults.{Module}
use Rattle.wasm_laws.specs.Kept.{ConstantsFit}
use Rattle.wasm_laws.proofs.Constants.{constants_fit}
use Rattle.image_format.specs.Contents.{IsImage}
use Rattle.index_spaces.specs.Spaces.{Spaces}
use Rattle.image_linker.specs.ImageOf.{image_of}
use Rattle.image_linker.specs.Linking.{NumbersFit, linked}
use Rattle.image_linker.specs.Whole.{IsWhole}
use Rattle.image_linker.proofs.Items.{numbers_fit}
use Rattle.image_linker.proofs.ElementFacts.{elements_are_below, functions_typed}
use Rattle.image_linker.proofs.Bounded.{images_keep_bounds}
use Rattle.image_linker.proofs.Images.{linked_is_image}

module _ (bytes : List ℕ) (m : Module) (s : Spaces) (codes : List Code) (w : IsWhole bytes m s codes) where
  pub whole_is_image : linked s codes ≡ image_of m
  whole_is_image =
      ap (λ (x : Spaces). linked x codes) w.spaces_are
      ∙ linked_is_image m codes (elements_are_below bytes m w.bytes_fit w.is.is) (functions_typed bytes m w.is.is) w.coded

  pub whole_is_bounded : IsImage (linked s codes)
  whole_is_bounded = subst IsImage (sym whole_is_image) (images_keep_bounds bytes m w.bytes_fit w.is)

  -- the constants of globals are numbers of their types
  pub whole_numbers_fit : NumbersFit s.globals s.initials
  whole_numbers_fit =
      subst (λ (x : Spaces). NumbersFit x.globals x.initials) (sym w.spaces_are)
      (numbers_fit m.items (subst ConstantsFit (sym w.is.is.items) (constants_fit bytes w.bytes_fit)))
