use Rattle.std.proofs.Common.{◌≡◌, map, take}
use Rattle.std.specs.Int.{w64, cast_unsigned}
use Rattle.image_linker.proofs.spaces.global_words.Given as goal

abbrev pub invariant-loop-number : goal.invariant-loop-number
invariant-loop-number l = l.words.items ≡ map (cast_unsigned w64) (take l.number-index l.numbers)
