use Rattle.std.proofs.Common.{ap, ◌∙◌, sym, List, ◌∷◌, [], ◌++◌, ℕ, Option, map, take, append-nil, arith}
use Rattle.index_spaces.specs.Entries.{written_before, written_segments}
use Rattle.image_format.specs.declared.image.Segment.{Segment}
use Rattle.image_linker.specs.ImageOf.{segment_of}
use Rattle.image_linker.proofs.DataRows.{segments_more, address_is_small}
use Rattle.image_linker.proofs.segments.copies_of.Goals as goal
use Rattle.image_linker.proofs.segments.copies_of.Goals.{in-Some+in_ok-from_slice+in_ok-push, in_default}

pub overflow_cast-place : goal.overflow_cast-place
overflow_cast-place c =
    omega (arith, address_is_small c.args.rows.now c.loop-row.row-index c.row-item.result c.in-Some.place (omega (arith, c.loop-row-test.true)) c.row-item.is c.in-Some.is c.requires)

pub loop-row-preserved : goal.loop-row-preserved
loop-row-preserved c =
    let row = c.row-item.result in
    let i = c.loop-row.row-index in
    let before = map segment_of (written_segments (take i c.args.rows.now)) in
    let more = λ (place : Option ℕ). before ++ map segment_of (written_before place row.bytes []) in
    let all = segments_more c.args.rows.now i row (omega (arith, c.loop-row-test.true)) c.row-item.is in
    elim c.match-row.branch [
      | in-Some+in_ok-from_slice+in_ok-push w ↦
          let bytes = w.new-bytes.ensures ∙ w.in_ok-from_slice.ensures.items ∙ w.as_slice.ensures in
          let placed = λ (l : List ℕ). segment_of (w.in-Some.place, l) in
          ap (λ segments. segments.items) w.segments-is
          ∙ w.in_ok-push.ensures.items
          ∙ ap (λ (l : List ℕ). c.loop-row.segments.items ++ placed l ∷ []) bytes
          ∙ ap (λ (l : List Segment). l ++ placed row.bytes ∷ []) c.loop-row.invariant
          ∙ sym (all ∙ ap more w.in-Some.is)
      | in_default w ↦ ap (λ segments. segments.items) w.segments-is ∙ c.loop-row.invariant ∙ sym (append-nil before) ∙ sym (all ∙ ap more w.in_default.is)
    ]
