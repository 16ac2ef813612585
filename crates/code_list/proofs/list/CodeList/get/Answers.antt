use Rattle.std.proofs.Common.{◌∙◌, ◌<◌, length, List, sym, ap, arith}
use Rattle.std.specs.List.{between}
use Rattle.std.proofs.lemmas.List.Edits.{length-between}
use Rattle.rv_isa.specs.declared.compiled.Code.{Code}
use Rattle.code_list.specs.declared.list.CodeEnd.{CodeEnd}
use Rattle.code_list.specs.CodeLists.{code_at}
use Rattle.code_list.proofs.Ends.{count, IsAt, stands}
use Rattle.code_list.proofs.list.CodeList.get.Goals as goal
use Rattle.code_list.proofs.list.CodeList.get.Goals.{After-self, After-index-end}

few : (c : After-self) → c.args.index < length c.self.inside.ends.items
few c =
    let i = c.self.inside in
    omega (arith, c.requires, count i.text i.calls.items i.sites.items i.begin i.ends.items, ap (λ (l : List Code). length l) c.self.view_is)

pub end_before-begin-requires : goal.end_before-begin-requires
end_before-begin-requires c = omega (arith, few (goal.at.end_before-begin-requires c).After-self, ap (λ (l : List CodeEnd). length l) c.deref.ensures.value)

pub index-end-requires : goal.index-end-requires
index-end-requires c = omega (arith, few (goal.at.index-end-requires c).After-self, c.self.inside.ends.ok.0)

at : (c : After-index-end) → IsAt c.self.inside.text c.self.inside.calls.items c.self.inside.sites.items c.end_before-begin.result c.index-end.result.now (code_at c.args.self.now c.args.index)
at c =
    let i = c.self.inside in
    stands i.text i.calls.items i.sites.items i.begin i.ends.items c.args.self.now c.self.view_is c.self.invariant c.args.index c.deref.result.now c.end_before-begin.result c.index-end.result.now
    c.requires c.deref.ensures.value c.end_before-begin.ensures c.index-end.ensures

pub part-traps-requires-clause-rises : goal.part-traps-requires-clause-rises
part-traps-requires-clause-rises c = (at (goal.at.part-traps-requires-clause-rises c).After-index-end).rises.sites

pub part-traps-requires-clause-within : goal.part-traps-requires-clause-within
part-traps-requires-clause-within c = omega (arith, (at (goal.at.part-traps-requires-clause-within c).After-index-end).within.sites, ap (λ l. length l) c.deref-2.ensures.value)

pub overflow_sub-words : goal.overflow_sub-words
overflow_sub-words c = (at (goal.at.overflow_sub-words c).After-index-end).rises.words

pub returns-clause-words : goal.returns-clause-words
returns-clause-words c =
    let a = at (goal.at.returns-clause-words c).After-index-end in
    sym (length-between c.self.inside.text c.end_before-begin.result.words c.index-end.result.now.words a.within.words) ∙ ap (λ (k : Code). length k.words) a.is

pub returns-clause-traps : goal.returns-clause-traps
returns-clause-traps c =
    c.part-traps.ensures ∙ ap (between c.end_before-begin.result.sites c.index-end.result.now.sites) c.deref-2.ensures.value ∙ ap (λ (k : Code). k.traps) (at (goal.at.returns-clause-traps c).After-index-end).is
