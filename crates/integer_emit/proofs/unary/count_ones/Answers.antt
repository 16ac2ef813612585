use Rattle.integer_emit.proofs.unary.count_ones.Goals as goal

pub returns-clause-ok : goal.returns-clause-ok
returns-clause-ok c = λ w same.
    rw same
    (rw (
      c.slot_load.ensures,
      c.slot_store.ensures,
      c.operand-slot.ensures,
      c.const_64.ensures,
      c.const_64-2.ensures,
      c.const_64-3.ensures,
      c.const_64-4.ensures,
      c.higher.ensures,
      c.higher-2.ensures,
      c.higher-3.ensures,
      c.masked.ensures,
      c.masked-2.ensures,
      c.with_t1.ensures,
      c.with_t1-2.ensures,
      c.with_t1-3.ensures,
      c.with_t2.ensures,
      c.with_t2-2.ensures,
      c.with_t2-3.ensures,
      c.shift.ensures,
    ) at c.append_ops.ensures.ok)
