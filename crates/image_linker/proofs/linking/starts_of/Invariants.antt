use Rattle.std.proofs.Common.{◌≡◌, ◌+◌, ◌++◌, take, length}
use Rattle.frame_layout.specs.Templates.{exit_stub}
use Rattle.image_linker.specs.ImageOf.{front_of, stub_places}
use Rattle.image_linker.specs.Linking.{words_of, starts_from}
use Rattle.image_linker.proofs.linking.starts_of.Given as goal

abbrev pub invariant-loop-index : goal.invariant-loop-index
invariant-loop-index l =
    (l.starts.items ≡ stub_places (length exit_stub) l.imported ++ starts_from (front_of l.imported) (take l.index l.codes)) × (l.here ≡ front_of l.imported + length (words_of (take l.index l.codes)))
