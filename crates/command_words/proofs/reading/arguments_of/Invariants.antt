use Rattle.std.proofs.Common.{◌≡◌, ◌++◌, drop, map}
use Rattle.std.specs.Prelude.{option_map}
use Rattle.command_words.specs.Arguments.{arguments_in}
use Rattle.command_words.proofs.reading.arguments_of.Given as goal

-- the arguments so far, and those of the words that are left
abbrev pub invariant-loop-word : goal.invariant-loop-word
invariant-loop-word l = arguments_in (map (λ w. w.now) l.words) ≡ option_map (λ rest. l.arguments.items ++ rest) (arguments_in (map (λ w. w.now) (drop l.word-index l.words)))
