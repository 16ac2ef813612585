use Rattle.memory_emit.proofs.access.store.Goals as goal

pub returns-clause-ok : goal.returns-clause-ok
returns-clause-ok c = λ w l.
    rw l (rw (c.address.ensures w l, c.store_row-op.ensures.bytes, c.slot_load.ensures, c.operand.ensures, c.encode_store-store.ensures, c.store_row-op.ensures.operation w, c.new.ensures, l) at c.append.ensures.ok)
