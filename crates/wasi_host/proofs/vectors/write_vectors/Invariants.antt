use Rattle.std.proofs.Common.{◌≡◌, ◌+◌, ◌*◌, ◌≤◌, true}
use Rattle.wasi_host.proofs.VectorLaws.{Writing}
use Rattle.wasi_host.proofs.vectors.write_vectors.Given as goal

abbrev pub invariant-loop-left : goal.invariant-loop-left
invariant-loop-left g l = record {
  writing : Writing l.memory l.iovs l.iovs_len l.address l.left (g.O.Sink.written l.fn.out) (g.O.Sink.written l.out) (g.O.Sink.faults l.fn.out) (g.O.Sink.faults l.out);
  at : l.address + 8 * l.left ≡ l.iovs + 8 * l.iovs_len;
  few : l.iovs_len ≤ 1024;
  open_now : g.O.Sink.is_open l.out ≡ true;
}

abbrev pub decreases-loop-left : goal.decreases-loop-left
decreases-loop-left g l = l.left
