use Rattle.std.proofs.Common.{◌≤◌, ℕ, Bool, List, drop, length}
use Rattle.wasm_defs.specs.Outside.{Run}
use Rattle.section_reader.specs.Onward.{after_parts}
use Rattle.module_stream.specs.Limits.{max_read}
use Rattle.module_stream.specs.Codes.{KeepsAlike}
use Rattle.module_stream.specs.CutBodies.{coded_all}
use Rattle.module_stream.specs.Progress.{IsJudging}
use Rattle.module_stream.proofs.bodies.take_batch.Given as goal

abbrev pub invariant-loop-index : goal.invariant-loop-index
invariant-loop-index l = record {
  kept : KeepsAlike l.initial.codes l.codes;
  judging : (bytes : List ℕ) (left : Run) (counted : Bool) → length bytes ≤ max_read
      → IsJudging bytes (after_parts (coded_all counted l.batch.bodies) left) l.spaces l.initial.codes
      → IsJudging bytes (after_parts (coded_all counted (drop l.index l.batch.bodies)) left) l.spaces l.codes;
}
