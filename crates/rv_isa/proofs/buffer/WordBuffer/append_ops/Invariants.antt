use Rattle.std.proofs.Common.{◌≡◌, ◌++◌, map, take, length}
use Rattle.std.specs.List.{flat_map}
use Rattle.rv_isa.specs.Words.{word_of}
use Rattle.rv_isa.proofs.buffer.WordBuffer.append_ops.Given as goal

abbrev pub invariant-loop-run : goal.invariant-loop-run
invariant-loop-run l = record {
  words : l.self-inside.words ≡ l.fn.self ++ map word_of (flat_map (λ run. run.now) (take l.run-index l.runs));
  before : l.before ≡ length l.fn.self;
}
