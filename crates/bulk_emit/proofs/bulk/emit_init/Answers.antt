use Rattle.std.proofs.Common.{sym}
use Rattle.bulk_emit.proofs.bulk.emit_init.Goals as goal

pub returns-clause-ok : goal.returns-clause-ok
returns-clause-ok c =
    rw (c.three.ensures, c.load_behind.ensures, c.globals.ensures, c.encode_reg-sum_of.ensures, c.encode_branch-within.ensures, c.new.ensures, c.trap.ensures, c.bound.ensures, c.sum-to.ensures, c.memory.ensures, c.load_behind-2.ensures, c.globals-2.ensures, c.sum-from.ensures, c.sum-end.ensures, c.up_loop.ensures 24 (sym c.new-2.ensures), c.length_at-length.ensures) at c.append.ensures.ok
