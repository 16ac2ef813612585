use Rattle.std.proofs.Common.{◌≡◌, rules, Decides, sym}
use Rattle.std.proofs.lemmas.Slice.Eq.{slice_eq-Decides}
use Rattle.body_cutter.specs.contracts.body.CutPartialEq.TheImpl as same
use Rattle.body_cutter.specs.declared.body.Cut.{Cut}
use Rattle.body_cutter.proofs.block.are_same.Goals as goal

decides : (a b : Cut) → Decides (same.eq-value.it a b) (a ≡ b)
decides a b = search rules

pub returns : goal.returns
returns c t = sym ((slice_eq-Decides decides c.args.cuts.now c.args.others.now c.eq.result c.eq.ensures).0 t)
