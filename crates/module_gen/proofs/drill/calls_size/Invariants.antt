use Rattle.std.proofs.Common.{◌≡◌, ◌≤◌, ◌*◌, length}
use Rattle.std.specs.List.{flat_map}
use Rattle.module_gen.specs.Drill.{below, call}
use Rattle.module_gen.proofs.drill.calls_size.Given as goal

abbrev pub invariant-loop-i : goal.invariant-loop-i
invariant-loop-i l = (l.size ≡ length (flat_map call (below l.i))) × (l.size ≤ 6 * l.i)
