use Rattle.std.proofs.Common.{◌+◌, ◌-◌, length}
use Rattle.module_gen.specs.Numbers.{spelling}
use Rattle.module_gen.proofs.Spellings.{IsCounted}
use Rattle.module_gen.proofs.numbers.spelling_size.Given as goal

abbrev pub invariant-loop-rest : goal.invariant-loop-rest
invariant-loop-rest l = IsCounted l.end l.size l.rest (length (spelling l.fn.end 5 l.fn.number))

abbrev pub decreases-loop-rest : goal.decreases-loop-rest
decreases-loop-rest l = l.rest + 1 - l.end
