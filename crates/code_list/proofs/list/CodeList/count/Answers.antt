use Rattle.std.proofs.Common.{length, List, ap, arith}
use Rattle.rv_isa.specs.declared.compiled.Code.{Code}
use Rattle.code_list.proofs.Ends.{count}
use Rattle.code_list.proofs.list.CodeList.count.Goals as goal

pub returns : goal.returns
returns c =
    let i = c.self.inside in
    omega (arith, c.len.ensures, i.ends.ok.0, count i.text i.calls.items i.sites.items i.begin i.ends.items, ap (λ (l : List Code). length l) c.self.view_is)
