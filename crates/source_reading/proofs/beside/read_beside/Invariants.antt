use Rattle.std.proofs.Common.{◌-◌, ◌≤◌, ℕ, List, Option, None}
use Rattle.io_edges.specs.Streams.{TookFront}
use Rattle.module_stream.specs.Limits.{max_read}
use Rattle.module_stream.specs.Codes.{KeepsAlike}
use Rattle.source_reading.specs.Arriving.{IsArriving}
use Rattle.source_reading.proofs.beside.read_beside.Given as goal

abbrev pub invariant-loop-rest : goal.invariant-loop-rest
invariant-loop-rest g l = record {
  arrives : (first : Option (List ℕ)) (before : ℕ)
      → IsArriving None first before (g.S.Source.left l.initial.source) (g.S.Source.faults l.initial.source) (g.S.Source.is_open l.initial.source) l.initial.compilation l.fn.chunk
      → IsArriving None first before (g.S.Source.left l.source) (g.S.Source.faults l.source) (g.S.Source.is_open l.source) l.compilation l.chunk;
  few : l.chunk.count ≤ max_read;
  front : TookFront (g.S.Source.left l.initial.source) (g.S.Source.faults l.initial.source) (g.S.Source.left l.source) (g.S.Source.faults l.source);
  kept : KeepsAlike l.initial.compilation.codes l.compilation.codes;
}

abbrev pub decreases-loop-rest : goal.decreases-loop-rest
decreases-loop-rest g l = max_read - l.chunk.count
