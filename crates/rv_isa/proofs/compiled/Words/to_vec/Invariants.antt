use Rattle.std.proofs.Common.{◌≡◌, take}
use Rattle.rv_isa.specs.Stored.{words_in}
use Rattle.rv_isa.proofs.compiled.Words.to_vec.Given as goal

abbrev pub invariant-loop-word : goal.invariant-loop-word
invariant-loop-word l = l.all.items ≡ words_in (take l.word-index l.word-items)
