use Rattle.std.proofs.Common.{◌≡◌, ◌++◌, take, drop}
use Rattle.rv_isa.specs.Stored.{AreStored}
use Rattle.rv_isa.proofs.compiled.Words.overwrite.Given as goal

abbrev pub invariant-loop-index : goal.invariant-loop-index
invariant-loop-index l = record {
  stored : AreStored l.self-inside.words.items;
  is : l.self-inside.words.items ≡ take l.index l.word-items ++ drop l.index l.initial.self-inside.words.items;
}
