use Rattle.std.proofs.Common.{◌≡◌, take}
use Rattle.body_compiler.proofs.calls.relocations_of.Given as goal

abbrev pub invariant-loop-call : goal.invariant-loop-call
invariant-loop-call l = l.relocations.items ≡ take l.call-index l.calls
