use Rattle.std.proofs.Common.{◌≡◌, true, take}
use Rattle.std.specs.Io.KnownBytes.{append_known}
use Rattle.stream_compile.specs.Texts.{hex_of}
use Rattle.stream_compile.proofs.shown.write_hex.Given as goal

abbrev pub invariant-loop-byte : goal.invariant-loop-byte
invariant-loop-byte g l = record {
  wrote : g.O.Sink.written l.out ≡ append_known (g.O.Sink.written l.fn.out) (hex_of (take l.byte-index l.bytes));
  same : g.O.Sink.faults l.out ≡ g.O.Sink.faults l.fn.out;
  open_now : g.O.Sink.is_open l.out ≡ true;
}
