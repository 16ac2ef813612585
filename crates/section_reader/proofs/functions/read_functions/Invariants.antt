use Rattle.std.proofs.Common.{◌-◌, ◌≡◌, length}
use Rattle.section_reader.specs.Functions.{AreRead}
use Rattle.section_reader.proofs.functions.read_functions.Given as goal

abbrev pub invariant-reading : goal.invariant-reading
invariant-reading l = record {
  read : AreRead l.types l.bytes l.read l.indices;
  len : length l.indices ≡ length l.fn.indices;
}

abbrev pub decreases-reading : goal.decreases-reading
decreases-reading l = length l.indices - l.read.count
