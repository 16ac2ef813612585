use Rattle.std.proofs.Common.{◌≡◌, ◌+◌, ◌^◌, ◌<◌, ◌++◌, take, length}
use Rattle.frame_layout.specs.Templates.{exit_stub}
use Rattle.image_linker.specs.ImageOf.{front_of}
use Rattle.image_linker.specs.Linking.{words_of, import_traps, code_traps}
use Rattle.image_linker.proofs.trap_places.places_of.Given as goal

-- where the codes that were gone over end, how many functions came before, if these are few, and where their traps come from
abbrev pub invariant-loop-index : goal.invariant-loop-index
invariant-loop-index l =
    (l.here ≡ front_of (length l.context.imports) + length (words_of (take l.index l.codes))) × (length l.context.imports + l.index < 2 ^ 32 → l.function ≡ length l.context.imports + l.index)
    × (l.places.items ≡ import_traps (length exit_stub) 0 l.context.imports ++ code_traps (front_of (length l.context.imports)) (length l.context.imports) (take l.index l.codes))
