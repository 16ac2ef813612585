use Rattle.std.proofs.Common.{◌∙◌, sym, arith}
use Rattle.std.proofs.lemmas.Bool.{eqb-true}
use Rattle.code_list.proofs.Ends.{begun, begun_view}
use Rattle.code_list.proofs.list.CodeList.begin.Goals as goal

pub invariant_of-self-then-is_empty : goal.invariant_of-self-then-is_empty
invariant_of-self-then-is_empty c =
    let i = c.self.inside in
    let none = eqb-true _ _ (sym c.is_empty.ensures ∙ c.if-is_empty.true) in
    begun i.text c.resize.new.self i.calls.items i.sites.items i.begin i.ends.items c.args.words (omega (arith, none, i.ends.ok.0))
    c.in_ok-resize.ensures.ok c.self.invariant

pub returns-in_ok-resize : goal.returns-in_ok-resize
returns-in_ok-resize c =
    let i = c.self.inside in
    let none = eqb-true _ _ (sym c.is_empty.ensures ∙ c.if-is_empty.true) in
    begun_view i.text c.resize.new.self i.calls.items i.sites.items i.begin _ i.ends.items (omega (arith, none, i.ends.ok.0)) ∙ c.self.view_is
