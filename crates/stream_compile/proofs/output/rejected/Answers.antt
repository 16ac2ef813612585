use Rattle.std.proofs.Common.{ap, ◌∙◌, ◌++◌, ℕ, List}
use Rattle.std.specs.Prelude.{codes}
use Rattle.std.specs.Fmt.{decimal}
use Rattle.stream_compile.specs.Texts.{Outcome}
use Rattle.stream_compile.proofs.Joins.{five}
use Rattle.stream_compile.proofs.output.rejected.Goals as goal

abbrev refused_with : List ℕ → Outcome
refused_with t = record { status = 2; text = t }

pub returns : goal.returns
returns c =
    let kind = c.kind_name-kind.result.now in
    ap refused_with (c.in_ok-format.ensures.ok ∙ five (codes "refused ") kind (codes " at ") (decimal c.args.refusal.offset) (codes "\n")) ∙ ap (λ (k : List ℕ). refused_with (codes "refused " ++ k ++ codes " at " ++ decimal c.args.refusal.offset ++ codes "\n")) c.kind_name-kind.ensures
