use Rattle.integer_emit.proofs.binary.signed_quotient.Goals as goal

pub returns-in-I32-clause-ok : goal.returns-in-I32-clause-ok
returns-in-I32-clause-ok c = λ w same. rw c.in-I32.is (rw c.quotient_32.ensures at (c.on_two.ensures.ok w same))

pub returns-in-I64-clause-ok : goal.returns-in-I64-clause-ok
returns-in-I64-clause-ok c = λ w same. rw c.in-I64.is (rw c.quotient_64.ensures at (c.on_two-in-I64.ensures.ok w same))
