use Rattle.std.proofs.Common.{◌≡◌, ◌≤◌, ◌-◌, ℕ, List, Option, None}
use Rattle.io_edges.specs.Streams.{TookFront}
use Rattle.batch_pool.specs.Desks.{IsDesk, IsIdle}
use Rattle.module_stream.specs.Limits.{max_read}
use Rattle.module_stream.specs.declared.compilation.Compilation.{Compilation}
use Rattle.source_reading.specs.Arriving.{IsArriving}
use Rattle.source_reading.specs.Keeping.{keeping}
use Rattle.source_reading.proofs.intake.read_bodies.Given as goal

abbrev pub invariant-loop-stop : goal.invariant-loop-stop
invariant-loop-stop g l = record {
  desk : IsDesk l.context l.board l.desk;
  parts : l.desk.seat.view.parts ≡ l.initial.desk.seat.view.parts;
  idle : IsIdle l.initial.desk l.desk;
  front : TookFront (g.S.Source.left l.initial.source) (g.S.Source.faults l.initial.source) (g.S.Source.left l.source) (g.S.Source.faults l.source);
  few : l.intake.chunk.count ≤ max_read;
  arrives : (first : Option (List ℕ)) (before : ℕ) (s : Compilation) → IsArriving None first before (g.S.Source.left l.initial.source) (g.S.Source.faults l.initial.source) (g.S.Source.is_open l.initial.source) (keeping s l.initial.intake) l.initial.intake.chunk
      → IsArriving None first before (g.S.Source.left l.source) (g.S.Source.faults l.source) (g.S.Source.is_open l.source) (keeping s l.intake) l.intake.chunk;
}

abbrev pub decreases-loop-stop : goal.decreases-loop-stop
decreases-loop-stop g l = max_read - l.intake.chunk.count
