use Rattle.std.proofs.Common.{◌≡◌, length}
use Rattle.frame_layout.specs.Templates.{exit_stub}
use Rattle.image_linker.specs.ImageOf.{stub_places}
use Rattle.image_linker.proofs.imports.stub_places.Given as goal

abbrev pub invariant-loop-number : goal.invariant-loop-number
invariant-loop-number l = l.places.items ≡ stub_places (length exit_stub) l.number
