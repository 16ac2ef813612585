use Rattle.std.proofs.Common.{◌≡◌}
use Rattle.leb_feed.specs.declared.leb.Fed.TheVariants as fed
use Rattle.leb_feed.specs.Feeding.{IsUnfinished}
use Rattle.module_tests.proofs.numbers.last_fed.Given as goal

abbrev pub invariant-loop-byte : goal.invariant-loop-byte
invariant-loop-byte l = l.last ≡ fed.More → IsUnfinished l.leb
