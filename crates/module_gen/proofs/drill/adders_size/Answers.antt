use Rattle.std.proofs.Common.{◌∙◌, ◌+◌, ap, length, arith}
use Rattle.module_gen.specs.Numbers.{unsigned}
use Rattle.module_gen.specs.Drill.{adder}
use Rattle.module_gen.proofs.Lists.{adder_length, length_more}
use Rattle.module_gen.proofs.drill.adders_size.Goals as goal

pub loop-i-preserved : goal.loop-i-preserved
loop-i-preserved c =
    let i = c.loop-i.i in
    let size = c.sized-size.ensures.value ∙ ap (λ x. length (unsigned x) + x) c.adder_content_size.ensures.value in (
      omega (arith, c.loop-i.invariant.0, length_more adder i, adder_length i, size),
      omega (arith, c.loop-i.invariant.1, c.sized-size.ensures.few, c.adder_content_size.ensures.few),
    )
