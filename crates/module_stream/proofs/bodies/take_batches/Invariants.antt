use Rattle.std.proofs.Common.{◌≡◌, ◌≤◌, ℕ, Bool, List, length}
use Rattle.wasm_defs.specs.Outside.{Run}
use Rattle.section_reader.specs.Onward.{after_parts}
use Rattle.module_stream.specs.Limits.{max_read}
use Rattle.module_stream.specs.Codes.{KeepsAlike}
use Rattle.module_stream.specs.CutBodies.{coded_all}
use Rattle.module_stream.specs.Progress.{IsJudging}
use Rattle.module_stream.proofs.bodies.take_batches.Given as goal

abbrev pub invariant-loop-batch : goal.invariant-loop-batch
invariant-loop-batch l = record {
  place : l.cutter.place ≡ l.initial.cutter.place;
  begun : l.cutter.queue.begun ≡ l.initial.cutter.queue.begun;
  least : l.cutter.queue.least ≡ l.initial.cutter.queue.least;
  kept : KeepsAlike l.initial.codes l.codes;
  judging : (bytes : List ℕ) (left : Run) (counted : Bool) → length bytes ≤ max_read
      → IsJudging bytes (after_parts (coded_all counted l.initial.cutter.queue.closed) left) l.spaces l.initial.codes
      → IsJudging bytes (after_parts (coded_all counted l.cutter.queue.closed) left) l.spaces l.codes;
}

abbrev pub decreases-loop-batch : goal.decreases-loop-batch
decreases-loop-batch l = length l.cutter.queue.closed
