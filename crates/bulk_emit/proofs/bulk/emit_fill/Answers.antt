use Rattle.bulk_emit.proofs.bulk.emit_fill.Goals as goal

pub returns-clause-ok : goal.returns-clause-ok
returns-clause-ok c =
    rw (c.number.ensures, c.number-2.ensures, c.bound.ensures, c.sum-first.ensures, c.sum-end.ensures, c.memory.ensures, c.memory-2.ensures, c.slot_load.ensures, c.operand.ensures, c.fill_loop.ensures) at c.append.ensures.ok
