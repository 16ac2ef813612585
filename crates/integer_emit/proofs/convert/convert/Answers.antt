use Rattle.integer_emit.proofs.convert.convert.Goals as goal

pub returns-in-ExtendU-clause-ok : goal.returns-in-ExtendU-clause-ok
returns-in-ExtendU-clause-ok c = λ w same. rw c.in-ExtendU.is (rw c.zero_extend.ensures at (c.on_one-in-ExtendU.ensures.ok w same))
