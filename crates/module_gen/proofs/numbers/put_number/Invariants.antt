use Rattle.std.proofs.Common.{◌+◌, ◌-◌, ◌++◌}
use Rattle.module_gen.specs.Numbers.{spelling}
use Rattle.module_gen.proofs.Spellings.{IsLeft}
use Rattle.module_gen.proofs.numbers.put_number.Given as goal

abbrev pub invariant-loop-rest : goal.invariant-loop-rest
invariant-loop-rest l = IsLeft l.end l.out.items l.rest (l.fn.out.items ++ spelling l.fn.end 5 l.fn.number)

abbrev pub decreases-loop-rest : goal.decreases-loop-rest
decreases-loop-rest l = l.rest + 1 - l.end
