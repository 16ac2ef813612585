use Rattle.std.proofs.Common.{◌≡◌, ◌++◌, map}
use Rattle.std.specs.Prelude.{string_bytes}
use Rattle.stream_compile.specs.Texts.{many_text, said}
use Rattle.stream_compile.proofs.ManyLines.{lines_from}
use Rattle.stream_compile.proofs.several.text_of.Given as goal

abbrev pub invariant-loop-index : goal.invariant-loop-index
invariant-loop-index l = string_bytes l.text ++ lines_from l.index l.each ≡ many_text 0 (map said l.each)
