use Rattle.std.proofs.Common.{◌≡◌, rules, Decides}
use Rattle.std.proofs.lemmas.Slice.Eq.{slice_eq-Decides}
use Rattle.rv_isa.specs.contracts.compiled.TrapSitePartialEq.TheImpl as same
use Rattle.rv_isa.specs.declared.compiled.TrapSite.{TrapSite}
use Rattle.rv_isa.proofs.compiled.TrapSites.is_same.Goals as goal

decides : (a b : TrapSite) → Decides (same.eq-value.it a b) (a ≡ b)
decides a b = search rules

pub returns : goal.returns
returns c =
    let d = slice_eq-Decides decides c.as_slice.result.now c.as_slice-2.result.now c.eq.result c.eq.ensures in
    search (rules, d)
