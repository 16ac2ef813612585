use Rattle.std.proofs.Common.{◌≡◌, ◌≤◌, ◌<◌, ◌-◌, true, length}
use Rattle.std.specs.Io.KnownBytes.{prepend_known}
use Rattle.io_edges.proofs.reading.read_all.Given as goal

abbrev pub invariant-loop-buf : goal.invariant-loop-buf
invariant-loop-buf g l = record {
  took : g.S.Source.left l.fn.source ≡ prepend_known l.bytes.items (g.S.Source.left l.source);
  same : g.S.Source.faults l.source ≡ g.S.Source.faults l.fn.source;
  most : length l.bytes.items ≤ l.limit;
  buf : 0 < length l.buf;
  open_now : g.S.Source.is_open l.source ≡ true;
}

abbrev pub decreases-loop-buf : goal.decreases-loop-buf
decreases-loop-buf g l = l.limit - length l.bytes.items
