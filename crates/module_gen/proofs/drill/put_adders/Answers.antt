use Rattle.std.proofs.Common.{◌∙◌, ◌++◌, ap, sym, append_assoc}
use Rattle.std.specs.List.{flat_map}
use Rattle.module_gen.specs.Drill.{adder, below}
use Rattle.module_gen.proofs.Lists.{flat_more}
use Rattle.module_gen.proofs.drill.put_adders.Goals as goal

pub loop-i-preserved : goal.loop-i-preserved
loop-i-preserved c =
    c.in_ok-put_adder.ensures ∙ ap (λ l. l ++ adder c.loop-i.i) c.loop-i.invariant ∙ append_assoc c.args.out.now.items (flat_map adder (below c.loop-i.i)) (adder c.loop-i.i)
    ∙ ap (λ l. c.args.out.now.items ++ l) (sym (flat_more adder c.loop-i.i))
