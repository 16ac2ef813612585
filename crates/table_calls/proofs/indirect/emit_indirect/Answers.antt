use Rattle.table_calls.proofs.indirect.emit_indirect.Goals as goal

pub returns-clause-ok : goal.returns-clause-ok
returns-clause-ok c w type frame rows like =
    rw (frame, rows, like)
    (rw (c.index_within-index.ensures, c.function_of_row.ensures, c.call_within-call.ensures, c.operand.ensures, c.operand-2.ensures) at c.append_around.ensures.ok)
