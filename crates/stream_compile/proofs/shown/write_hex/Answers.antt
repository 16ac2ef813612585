use Rattle.std.proofs.Common.{◌+◌, Bool, true, List, ℕ, take, refl, sym, subst, arith}
use Rattle.std.proofs.lemmas.List.{take_all}
use Rattle.io_edges.proofs.Known.{append_nothing}
use Rattle.io_edges.specs.Streams.{WritesText}
use Rattle.stream_compile.specs.Texts.{hex_of}
use Rattle.stream_compile.proofs.ShownBytes.{hex_failed, hex_step}
use Rattle.stream_compile.proofs.shown.write_hex.Goals as goal

pub loop-byte-init : goal.loop-byte-init
loop-byte-init g c = record { wrote = sym (append_nothing (g.O.Sink.written c.args.out.now)); same = refl; open_now = c.requires }

pub loop-byte-preserved : goal.loop-byte-preserved
loop-byte-preserved g c =
    let bytes = c.args.bytes.now in
    let i = c.loop-byte.byte-index in
    let step = hex_step c.write_all.result bytes c.hex_pair.result i (g.O.Sink.written c.args.out.now) (g.O.Sink.written c.loop-byte.out) (g.O.Sink.written c.write_all.new.out) (g.O.Sink.faults c.args.out.now) (g.O.Sink.faults c.loop-byte.out) (g.O.Sink.faults c.write_all.new.out) c.loop-byte-test.true c.hex_pair.ensures
    (c.loop-byte.invariant.wrote, c.loop-byte.invariant.same) c.write_all.ensures.text in
    let whole : WritesText true (hex_of (take (i + 1) bytes)) (g.O.Sink.written c.args.out.now) (g.O.Sink.written c.write_all.new.out) (g.O.Sink.faults c.args.out.now) (g.O.Sink.faults c.write_all.new.out) =
    subst (λ (r : Bool). WritesText r (hex_of (take (i + 1) bytes)) (g.O.Sink.written c.args.out.now) (g.O.Sink.written c.write_all.new.out) (g.O.Sink.faults c.args.out.now) (g.O.Sink.faults c.write_all.new.out)) c.if-not-write_all.false step in
    record { wrote = whole.0; same = whole.1; open_now = c.write_all.ensures.open c.if-not-write_all.false }

pub returns-then-not-write_all-clause-text : goal.returns-then-not-write_all-clause-text
returns-then-not-write_all-clause-text g c =
    let bytes = c.args.bytes.now in
    let i = c.loop-byte.byte-index in
    let step = hex_step c.write_all.result bytes c.hex_pair.result i (g.O.Sink.written c.args.out.now) (g.O.Sink.written c.loop-byte.out) (g.O.Sink.written c.write_all.new.out) (g.O.Sink.faults c.args.out.now) (g.O.Sink.faults c.loop-byte.out) (g.O.Sink.faults c.write_all.new.out) c.loop-byte-test.true c.hex_pair.ensures
    (c.loop-byte.invariant.wrote, c.loop-byte.invariant.same) c.write_all.ensures.text in
    hex_failed bytes (i + 1) (g.O.Sink.written c.args.out.now) (g.O.Sink.written c.write_all.new.out) (g.O.Sink.faults c.args.out.now) (g.O.Sink.faults c.write_all.new.out)
    (subst (λ (r : Bool). WritesText r (hex_of (take (i + 1) bytes)) (g.O.Sink.written c.args.out.now) (g.O.Sink.written c.write_all.new.out) (g.O.Sink.faults c.args.out.now) (g.O.Sink.faults c.write_all.new.out)) c.if-not-write_all.true step)

pub returns-clause-text : goal.returns-clause-text
returns-clause-text g c =
    subst (λ (l : List ℕ). WritesText true (hex_of l) (g.O.Sink.written c.args.out.now) (g.O.Sink.written c.loop-byte.out) (g.O.Sink.faults c.args.out.now) (g.O.Sink.faults c.loop-byte.out))
    (take_all c.loop-byte.byte-index c.args.bytes.now (omega (arith, c.loop-byte-test.false))) (c.loop-byte.invariant.wrote, c.loop-byte.invariant.same)
