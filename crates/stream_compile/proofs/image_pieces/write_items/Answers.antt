use Rattle.std.proofs.Common.{◌+◌, Bool, true, List, length, take, refl, sym, ap, subst, arith, length-drop}
use Rattle.std.specs.List.{flat_map}
use Rattle.std.proofs.lemmas.List.{take_all, take_rest}
use Rattle.io_edges.proofs.Known.{append_nothing}
use Rattle.io_edges.specs.Streams.{WritesText}
use Rattle.stream_compile.proofs.Pieces.{piece_step, piece_failed}
use Rattle.stream_compile.proofs.image_pieces.write_items.Goals as goal

pub loop-from-init : goal.loop-from-init
loop-from-init g c = record { wrote = sym (append_nothing (g.O.Sink.written c.args.out.now)); same = refl; most = omega arith; open_now = c.requires }

pub loop-from-preserved : goal.loop-from-preserved
loop-from-preserved g c =
    let items = c.args.items.now in
    let from = c.loop-from.from in
    let n = c.encode-count.result in
    let step = piece_step g.T.FixedSize.encoding c.write_all.result items _ from n _ c.as_slice.result.now (g.O.Sink.written c.args.out.now) (g.O.Sink.written c.loop-from.out) (g.O.Sink.written c.write_all.new.out) (g.O.Sink.faults c.args.out.now) (g.O.Sink.faults c.loop-from.out) (g.O.Sink.faults c.write_all.new.out)
    (take_rest items from) c.encode-count.ensures.bytes c.as_slice.ensures (c.loop-from.invariant.wrote, c.loop-from.invariant.same) c.write_all.ensures.text in
    let whole : WritesText true (flat_map g.T.FixedSize.encoding (take (from + n) items)) (g.O.Sink.written c.args.out.now) (g.O.Sink.written c.write_all.new.out) (g.O.Sink.faults c.args.out.now) (g.O.Sink.faults c.write_all.new.out) =
    subst (λ (r : Bool). WritesText r (flat_map g.T.FixedSize.encoding (take (from + n) items)) (g.O.Sink.written c.args.out.now) (g.O.Sink.written c.write_all.new.out) (g.O.Sink.faults c.args.out.now) (g.O.Sink.faults c.write_all.new.out)) c.if-not-write_all.false step in
    record {
      wrote = whole.0;
      same = whole.1;
      most = omega (arith, c.encode-count.ensures.within, ap (λ (l : List _). length l) (take_rest items from), length-drop from items);
      open_now = c.write_all.ensures.open c.if-not-write_all.false;
    }

pub returns-then-not-write_all-clause-text : goal.returns-then-not-write_all-clause-text
returns-then-not-write_all-clause-text g c =
    let items = c.args.items.now in
    let from = c.loop-from.from in
    let n = c.encode-count.result in
    let step = piece_step g.T.FixedSize.encoding c.write_all.result items _ from n _ c.as_slice.result.now (g.O.Sink.written c.args.out.now) (g.O.Sink.written c.loop-from.out) (g.O.Sink.written c.write_all.new.out) (g.O.Sink.faults c.args.out.now) (g.O.Sink.faults c.loop-from.out) (g.O.Sink.faults c.write_all.new.out)
    (take_rest items from) c.encode-count.ensures.bytes c.as_slice.ensures (c.loop-from.invariant.wrote, c.loop-from.invariant.same) c.write_all.ensures.text in
    piece_failed g.T.FixedSize.encoding items (from + n) (g.O.Sink.written c.args.out.now) (g.O.Sink.written c.write_all.new.out) (g.O.Sink.faults c.args.out.now) (g.O.Sink.faults c.write_all.new.out)
    (subst (λ (r : Bool). WritesText r (flat_map g.T.FixedSize.encoding (take (from + n) items)) (g.O.Sink.written c.args.out.now) (g.O.Sink.written c.write_all.new.out) (g.O.Sink.faults c.args.out.now) (g.O.Sink.faults c.write_all.new.out)) c.if-not-write_all.true step)

pub returns-clause-text : goal.returns-clause-text
returns-clause-text g c =
    subst (λ (l : List _). WritesText true (flat_map g.T.FixedSize.encoding l) (g.O.Sink.written c.args.out.now) (g.O.Sink.written c.loop-from.out) (g.O.Sink.faults c.args.out.now) (g.O.Sink.faults c.loop-from.out))
    (take_all c.loop-from.from c.args.items.now (omega (arith, c.loop-from-test.false))) (c.loop-from.invariant.wrote, c.loop-from.invariant.same)
