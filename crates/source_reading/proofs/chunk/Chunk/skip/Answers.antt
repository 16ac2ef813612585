use Rattle.std.proofs.Common.{◌≤◌, length, drop, arith, sym, ap, ◌∙◌}
use Rattle.source_reading.specs.Chunks.{Chunked}
use Rattle.source_reading.proofs.Chunking.{skipped, pending_count}
use Rattle.source_reading.proofs.chunk.Chunk.skip.Goals as goal

pub returns : goal.returns
returns c =
    let x = c.self.inside in
    let is = c.self.view_is in
    let few : c.args.taken ≤ x.len = omega (arith, c.requires, ap (λ (k : Chunked). length k.pending) is, pending_count x.bytes.items x.from x.len (omega (arith, c.self.invariant.0, c.self.invariant.1))) in
    (λ i. record { pending = sym (skipped x.bytes.items x.from x.len c.args.taken few) i; count = x.count; came = x.came }) ∙ ap (λ (k : Chunked). record k { pending = drop c.args.taken k.pending }) is
