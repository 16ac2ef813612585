use Rattle.image_linker.specs.Signatures.{AreOf}
use Rattle.image_linker.proofs.signatures.no_copies.Given as goal

abbrev pub invariant-loop : goal.invariant-loop
invariant-loop l = AreOf l.types l.copies.items
