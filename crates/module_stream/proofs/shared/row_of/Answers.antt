use Rattle.std.proofs.Common.{Option, None, All, set, sym, subst, ◌∙◌, rules}
use Rattle.std.proofs.lemmas.List.Elements.{All-set}
use Rattle.body_compiler.specs.declared.batch.row.Row.{Row}
use Rattle.body_compiler.specs.BatchRows.{IsRowIf}
use Rattle.module_stream.proofs.shared.row_of.Goals as goal

pub returns-then-number-len-clause-row : goal.returns-then-number-len-clause-row
returns-then-number-len-clause-row c =
    subst (IsRowIf c.args.spaces.now c.args.cells.now) (sym (c.take.ensures.value ∙ c.index_mut.ensures.value)) (c.requires _ c.index_mut.result.now (search rules))

pub returns-then-number-len-clause-rows : goal.returns-then-number-len-clause-rows
returns-then-number-len-clause-rows c =
    let P = IsRowIf c.args.spaces.now c.args.cells.now in
    subst (λ (o : Option Row). All P (set c.args.rows.now.items c.args.number o)) (sym c.take.ensures.after) (All-set P c.args.rows.now.items c.args.number None tt c.requires)
