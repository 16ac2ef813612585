use Rattle.memory_emit.proofs.access.emit_store.Goals as goal

pub returns-clause-ok : goal.returns-clause-ok
returns-clause-ok c = λ w l. rw (c.in-Plain.is, c.in-Store.is) (c.store.ensures.ok w l)
