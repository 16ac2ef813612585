use Rattle.memory_emit.proofs.access.emit_load.Goals as goal

pub returns-clause-ok : goal.returns-clause-ok
returns-clause-ok c = λ w l. rw (c.in-Plain.is, c.in-Load.is) (c.load.ensures.ok w l)
