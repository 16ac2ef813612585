use Rattle.std.proofs.Common.{◌+◌, ◌*◌}
use Rattle.many_streams.proofs.judging.+fn-settle_beside-join+arg2+fn-settle_beside-join+arg3+settle_beside.Given as goal

abbrev pub decreases-join+arg2 : goal.decreases-join+arg2
decreases-join+arg2 g l = 2 * l.more + 1

abbrev pub decreases-join+arg3 : goal.decreases-join+arg3
decreases-join+arg3 g l = 2 * l.fewer + 1

abbrev pub decreases-settle_beside : goal.decreases-settle_beside
decreases-settle_beside g l = 2 * l.others
