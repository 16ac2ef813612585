use Rattle.std.proofs.Common.{length, take, drop, ap, ◌∙◌, sym, arith, length-drop}
use Rattle.std.proofs.lemmas.List.{take_rest}
use Rattle.std.specs.Io.KnownBytes.{append_known}
use Rattle.io_edges.proofs.Known.{append_more, take_step}
use Rattle.io_edges.proofs.writing.write_all.Goals as goal

pub loop-from-preserved : goal.loop-from-preserved
loop-from-preserved g c =
    let text = c.args.text.now in
    let from = c.loop-from.from in
    let n = c.in-Took.count in
    let before = g.O.Sink.written c.args.out.now in
    let w = c.in-Took.ensures.bytes in
    let piece = take_rest text from in
    let now = w.2 ∙ ap (λ l. append_known (g.O.Sink.written c.loop-from.out) (take n l)) piece ∙ ap (λ k. append_known k (take n (drop from text))) c.loop-from.invariant.wrote in
    record {
      wrote = now ∙ append_more before (take from text) (take n (drop from text)) ∙ ap (append_known before) (sym (take_step from n text));
      same = c.in-Took.ensures.cause ∙ c.loop-from.invariant.same;
      most = omega (arith, w.1, ap length piece, length-drop from text);
      open_now = c.in-Took.ensures.on;
    }
