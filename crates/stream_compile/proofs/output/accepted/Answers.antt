use Rattle.std.proofs.Common.{ap, ◌∙◌, ℕ, List}
use Rattle.std.specs.Prelude.{codes}
use Rattle.std.specs.Fmt.{decimal}
use Rattle.stream_compile.specs.Texts.{Outcome}
use Rattle.stream_compile.proofs.Joins.{five}
use Rattle.stream_compile.proofs.output.accepted.Goals as goal

abbrev done_with : List ℕ → Outcome
done_with t = record { status = 0; text = t }

pub returns : goal.returns
returns c = ap done_with (c.in_ok-format.ensures.ok ∙ five (codes "ok ") (decimal c.args.functions) (codes " functions ") (decimal c.args.bytes) (codes " bytes\n"))
