use Rattle.std.proofs.Common.{◌+◌, ◌≤◌, ◌<◌, ◌++◌, List, ℕ, length, sym, subst, arith}
use Rattle.std.specs.Prelude.{codes}
use Rattle.io_edges.specs.Streams.{WritesText}
use Rattle.stream_compile.specs.Texts.{hex_of}
use Rattle.stream_compile.proofs.ShownBytes.{peeked_beyond, peeked_within}
use Rattle.stream_compile.proofs.shown.write_shown.Goals as goal

pub returns-then-end-size : goal.returns-then-end-size
returns-then-end-size g c =
    let p = c.args.peek in
    let memory = c.args.memory.now in
    let within : p.address + p.count ≤ length memory = omega arith in
    let line = subst (λ (l : List ℕ). WritesText c.write_bytes.result (codes "peek " ++ (hex_of l ++ codes "\n")) (g.O.Sink.written c.args.out.now) (g.O.Sink.written c.write_bytes.new.out) (g.O.Sink.faults c.args.out.now) (g.O.Sink.faults c.write_bytes.new.out)) c.bytes_at.ensures c.write_bytes.ensures in
    subst (λ (t : List ℕ). WritesText c.write_bytes.result t (g.O.Sink.written c.args.out.now) (g.O.Sink.written c.write_bytes.new.out) (g.O.Sink.faults c.args.out.now) (g.O.Sink.faults c.write_bytes.new.out)) (sym (peeked_within p memory within)) line

pub returns-else-end-size : goal.returns-else-end-size
returns-else-end-size g c =
    let p = c.args.peek in
    let memory = c.args.memory.now in
    let beyond : length memory < p.address + p.count = omega arith in
    subst (λ (t : List ℕ). WritesText c.write_all.result t (g.O.Sink.written c.args.out.now) (g.O.Sink.written c.write_all.new.out) (g.O.Sink.faults c.args.out.now) (g.O.Sink.faults c.write_all.new.out)) (sym (peeked_beyond p memory beyond)) c.write_all.ensures.text
