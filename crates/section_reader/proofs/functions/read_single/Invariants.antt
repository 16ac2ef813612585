use Rattle.std.proofs.Common.{◌-◌, ◌≡◌, ◌≤◌, length}
use Rattle.section_reader.specs.Functions.{AreRead}
use Rattle.section_reader.proofs.Declaring.{read_of}
use Rattle.section_reader.proofs.functions.read_single.Given as goal

abbrev pub invariant-loop-count : goal.invariant-loop-count
invariant-loop-count l = record {
  read : AreRead l.types l.bytes (read_of l.count l.count) l.indices;
  len : length l.indices ≡ length l.fn.indices;
  most : l.count ≤ l.most;
}

abbrev pub decreases-loop-count : goal.decreases-loop-count
decreases-loop-count l = l.most - l.count
