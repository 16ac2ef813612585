use Rattle.std.proofs.Common.{◌≡◌, ◌≤◌, ◌-◌, true, length, take}
use Rattle.std.specs.Io.KnownBytes.{append_known}
use Rattle.io_edges.proofs.writing.write_all.Given as goal

abbrev pub invariant-loop-from : goal.invariant-loop-from
invariant-loop-from g l = record {
  wrote : g.O.Sink.written l.out ≡ append_known (g.O.Sink.written l.fn.out) (take l.from l.text);
  same : g.O.Sink.faults l.out ≡ g.O.Sink.faults l.fn.out;
  most : l.from ≤ length l.text;
  open_now : g.O.Sink.is_open l.out ≡ true;
}

abbrev pub decreases-loop-from : goal.decreases-loop-from
decreases-loop-from g l = length l.text - l.from
