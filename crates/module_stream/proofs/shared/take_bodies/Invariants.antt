use Rattle.std.proofs.Common.{◌≤◌, ℕ, Bool, List, drop, length}
use Rattle.std.specs.Prelude.{reverse}
use Rattle.wasm_defs.specs.Outside.{Run}
use Rattle.section_reader.specs.Onward.{after_parts}
use Rattle.module_stream.specs.Limits.{max_read}
use Rattle.module_stream.specs.Codes.{KeepsAlike}
use Rattle.module_stream.specs.CutBodies.{coded_all}
use Rattle.module_stream.specs.Kept.{AreFront}
use Rattle.module_stream.specs.Progress.{IsJudging}
use Rattle.module_stream.proofs.shared.take_bodies.Given as goal

abbrev pub invariant-loop-index : goal.invariant-loop-index
invariant-loop-index l = record {
  kept : KeepsAlike l.initial.codes l.codes;
  made : AreFront l.spaces l.cells (drop l.index l.bodies) (reverse l.made.items);
  judging : (bytes : List ℕ) (left : Run) (counted : Bool) → length bytes ≤ max_read
      → IsJudging bytes (after_parts (coded_all counted l.bodies) left) l.spaces l.initial.codes
      → IsJudging bytes (after_parts (coded_all counted (drop l.index l.bodies)) left) l.spaces l.codes;
}
