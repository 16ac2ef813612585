use Rattle.std.proofs.Common.{◌≡◌, ◌≤◌, ℕ, Bool, List, All, length}
use Rattle.std.specs.Vec.Iter.{into_iter_items, into_iter_len}
use Rattle.wasm_defs.specs.Outside.{Run}
use Rattle.section_reader.specs.Onward.{after_parts}
use Rattle.body_compiler.specs.BatchRows.{IsRowIf}
use Rattle.module_stream.specs.Limits.{max_read}
use Rattle.module_stream.specs.Codes.{KeepsAlike}
use Rattle.module_stream.specs.CutBodies.{coded_all}
use Rattle.module_stream.specs.Kept.{kept_bodies}
use Rattle.module_stream.specs.Progress.{IsJudging}
use Rattle.module_stream.proofs.shared.take_kept.Given as goal

abbrev pub invariant-loop-batch : goal.invariant-loop-batch
invariant-loop-batch l = record {
  kept : KeepsAlike l.initial.codes l.codes;
  rows : All (IsRowIf l.spaces l.cells) l.rows.items;
  judging : (bytes : List ℕ) (left : Run) (counted : Bool) → length bytes ≤ max_read
      → IsJudging bytes (after_parts (coded_all counted (kept_bodies l.fn.kept.items)) left) l.spaces l.initial.codes
      → IsJudging bytes (after_parts (coded_all counted (kept_bodies (into_iter_items l.batch-iterator))) left) l.spaces l.codes;
  few : length (into_iter_items l.batch-iterator) ≡ into_iter_len l.batch-iterator;
}
