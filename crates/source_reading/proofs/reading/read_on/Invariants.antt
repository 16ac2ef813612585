use Rattle.std.proofs.Common.{◌≡◌, ◌-◌, ◌≤◌, ℕ, false, List, Option}
use Rattle.std.specs.Prelude.{IsSome}
use Rattle.io_edges.specs.Streams.{TookFront}
use Rattle.module_stream.specs.Limits.{max_read}
use Rattle.module_stream.specs.Codes.{KeepsAlike}
use Rattle.source_reading.specs.Arriving.{IsArriving}
use Rattle.source_reading.proofs.reading.read_on.Given as goal

abbrev pub invariant-loop-stop : goal.invariant-loop-stop
invariant-loop-stop g l = record {
  arrives : (closing : Option ℕ) (first : Option (List ℕ)) (before : ℕ) → (IsSome closing → l.up_to_bodies ≡ false)
      → IsArriving closing first before (g.S.Source.left l.initial.source) (g.S.Source.faults l.initial.source) (g.S.Source.is_open l.initial.source) l.initial.compilation l.initial.chunk
      → IsArriving closing first before (g.S.Source.left l.source) (g.S.Source.faults l.source) (g.S.Source.is_open l.source) l.compilation l.chunk;
  few : l.chunk.count ≤ max_read;
  front : TookFront (g.S.Source.left l.initial.source) (g.S.Source.faults l.initial.source) (g.S.Source.left l.source) (g.S.Source.faults l.source);
  kept : KeepsAlike l.initial.compilation.codes l.compilation.codes;
}

abbrev pub decreases-loop-stop : goal.decreases-loop-stop
decreases-loop-stop g l = max_read - l.chunk.count
