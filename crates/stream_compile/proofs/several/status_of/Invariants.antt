use Rattle.std.proofs.Common.{◌≡◌, map}
use Rattle.stream_compile.specs.Texts.{many_status, said}
use Rattle.stream_compile.proofs.ManyLines.{status_from}
use Rattle.stream_compile.proofs.several.status_of.Given as goal

abbrev pub invariant-loop-index : goal.invariant-loop-index
invariant-loop-index l = status_from l.index l.each ≡ many_status (map said l.each)
