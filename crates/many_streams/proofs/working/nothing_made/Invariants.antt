use Rattle.std.proofs.Common.{◌≡◌, All, [], length}
use Rattle.many_streams.proofs.working.nothing_made.Given as goal

abbrev pub invariant-loop : goal.invariant-loop
invariant-loop l = (length l.made.items ≡ l.counter) × All (λ x. x.rows.items ≡ []) l.made.items
