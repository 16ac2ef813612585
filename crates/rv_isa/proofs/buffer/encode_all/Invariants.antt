use Rattle.std.proofs.Common.{◌≡◌, ◌++◌, map, take}
use Rattle.rv_isa.specs.Words.{word_of}
use Rattle.rv_isa.proofs.buffer.encode_all.Given as goal

abbrev pub invariant-loop-op : goal.invariant-loop-op
invariant-loop-op l = l.words ≡ l.initial.words ++ map word_of (take l.op-index l.ops)
