use Rattle.memory_emit.proofs.access.load.Goals as goal

pub returns-clause-ok : goal.returns-clause-ok
returns-clause-ok c = λ w l.
    rw l (rw (c.address.ensures w l, c.load_row-op.ensures.bytes, c.slot_store.ensures, c.operand.ensures, c.encode_load-load.ensures, c.load_row-op.ensures.operation w, c.new.ensures, l) at c.append.ensures.ok)
