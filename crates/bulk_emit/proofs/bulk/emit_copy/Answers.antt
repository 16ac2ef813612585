use Rattle.std.proofs.Common.{sym}
use Rattle.bulk_emit.proofs.bulk.emit_copy.Goals as goal

pub returns-clause-ok : goal.returns-clause-ok
returns-clause-ok c =
    rw (c.three.ensures, c.bound.ensures, c.bound-2.ensures, c.sum-to.ensures, c.sum-from.ensures, c.memory.ensures, c.memory-2.ensures, c.encode_branch-is_above.ensures, c.new.ensures, c.sum-end.ensures, c.up_loop.ensures 60 (sym c.new-2.ensures), c.sum-to_end.ensures, c.sum-from_end.ensures, c.down_loop.ensures) at c.append.ensures.ok
