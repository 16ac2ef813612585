use Rattle.std.proofs.Common.{◌≡◌, All, None, length}
use Rattle.body_compiler.specs.BatchRows.{IsRowIf}
use Rattle.batch_pool.proofs.scope.numbered.places.Given as goal

abbrev pub invariant-loop : goal.invariant-loop
invariant-loop l = (length l.places.items ≡ l.counter) × All (λ p. p ≡ None) l.places.items × All (IsRowIf l.context l.cells) l.places.items
