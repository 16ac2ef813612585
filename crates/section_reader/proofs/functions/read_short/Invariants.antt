use Rattle.std.proofs.Common.{◌-◌, ◌≡◌, ◌≤◌, length, ◌+◌, ◌*◌}
use Rattle.section_reader.specs.Functions.{AreRead}
use Rattle.section_reader.proofs.Declaring.{read_of}
use Rattle.section_reader.proofs.functions.read_short.Given as goal

abbrev pub invariant-loop-count : goal.invariant-loop-count
invariant-loop-count l = record {
  read : AreRead l.types l.bytes (read_of l.count l.place) l.indices;
  len : length l.indices ≡ length l.fn.indices;
  more : l.fn.read.count ≤ l.count;
  most : l.count ≤ l.most;
  room : l.most ≤ length l.indices;
  there : l.place + 2 * (l.most - l.count) ≤ length l.bytes;
}

abbrev pub decreases-loop-count : goal.decreases-loop-count
decreases-loop-count l = l.most - l.count
