use Rattle.integer_emit.proofs.unary.count.Goals as goal

pub returns-in-Clz-I32-clause-ok : goal.returns-in-Clz-I32-clause-ok
returns-in-Clz-I32-clause-ok c = λ w same.
    rw (c.in-Clz-I32.is-0, c.in-Clz-I32.is-1) (rw (c.leading_32.ensures, c.others.ensures) at (c.count_ones.ensures.ok w same))

pub returns-in-Clz-I64-clause-ok : goal.returns-in-Clz-I64-clause-ok
returns-in-Clz-I64-clause-ok c = λ w same.
    rw (c.in-Clz-I64.is-0, c.in-Clz-I64.is-1) (rw (c.leading_64.ensures, c.others-in-Clz-I64.ensures) at (c.count_ones-in-Clz-I64.ensures.ok w same))

pub returns-in-Ctz-I32-clause-ok : goal.returns-in-Ctz-I32-clause-ok
returns-in-Ctz-I32-clause-ok c = λ w same.
    rw (c.in-Ctz-I32.is-0, c.in-Ctz-I32.is-1) (rw c.trailing_32.ensures at (c.count_ones-in-Ctz-I32.ensures.ok w same))

pub returns-in-Ctz-I64-clause-ok : goal.returns-in-Ctz-I64-clause-ok
returns-in-Ctz-I64-clause-ok c = λ w same.
    rw (c.in-Ctz-I64.is-0, c.in-Ctz-I64.is-1) (rw c.trailing.ensures at (c.count_ones-in-Ctz-I64.ensures.ok w same))

pub returns-in-Popcnt-I32-clause-ok : goal.returns-in-Popcnt-I32-clause-ok
returns-in-Popcnt-I32-clause-ok c = λ w same.
    rw (c.in-Popcnt-I32.is-0, c.in-Popcnt-I32.is-1) (rw c.zero_extend.ensures at (c.count_ones-in-Popcnt-I32.ensures.ok w same))

pub returns-in-Popcnt-I64-clause-ok : goal.returns-in-Popcnt-I64-clause-ok
returns-in-Popcnt-I64-clause-ok c = λ w same.
    rw (c.in-Popcnt-I64.is-0, c.in-Popcnt-I64.is-1) (c.count_ones-in-Popcnt-I64.ensures.ok w same)
