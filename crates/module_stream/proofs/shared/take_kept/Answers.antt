use Rattle.std.proofs.Common.{◌≡◌, List, sym, ap, subst, ◌∙◌, rules}
use Rattle.std.specs.Arc.{arc_value}
use Rattle.std.specs.Vec.Iter.{into_iter_items}
use Rattle.section_reader.specs.Onward.{after_parts}
use Rattle.body_cutter.specs.declared.batch.Batch.{Batch}
use Rattle.body_cutter.specs.Bodies.{Body}
use Rattle.module_stream.specs.CutBodies.{coded_all}
use Rattle.module_stream.specs.Kept.{kept_bodies}
use Rattle.module_stream.specs.Progress.{IsJudging, CanTakeAll}
use Rattle.module_stream.proofs.CutRuns.{cut_append}
use Rattle.module_stream.proofs.Sharing.{kept_next}
use Rattle.module_stream.proofs.Taking.{judging_on, fault_taken}
use Rattle.module_stream.proofs.shared.take_kept.Goals as goal

pub take_bodies-requires-clause-can : goal.take_bodies-requires-clause-can
take_bodies-requires-clause-can c =
    let l = c.loop-batch in
    let bytes = c.requires.can.0 in
    let left = c.requires.can.1 in
    let few = c.requires.can.2 in
    let counted = c.requires.can.3 in
    let all = into_iter_items l.batch-iterator in
    let rest = into_iter_items c.next.new.self in
    let bodies = (arc_value c.in-Some.batch).bodies in
    let batch : c.deref-in-loop-batch.result.now ≡ arc_value c.in-Some.batch = search rules in
    let is = ap (λ (b : Batch). b.bodies) batch in
    subst (λ (x : List Body). CanTakeAll c.args.spaces.now l.codes x) (sym is) (
      bytes,
      after_parts (coded_all counted (kept_bodies rest)) left,
      few,
      counted,
      judging_on bytes (after_parts (coded_all counted (kept_bodies all)) left) (after_parts (coded_all counted bodies) (after_parts (coded_all counted (kept_bodies rest)) left)) c.args.spaces.now l.codes
          (ap (λ (x : List Body). after_parts (coded_all counted x) left) (kept_next all rest c.in-Some.batch c.in-Some.ensures.steps.0) ∙ cut_append counted bodies (kept_bodies rest) left)
          (l.invariant.judging bytes left counted few c.requires.can.4),
    )

pub loop-batch-preserved : goal.loop-batch-preserved
loop-batch-preserved c =
    let l = c.loop-batch in
    let all = into_iter_items l.batch-iterator in
    let rest = into_iter_items c.next.new.self in
    let bodies = (arc_value c.in-Some.batch).bodies in
    let batch : c.deref-in-loop-batch.result.now ≡ arc_value c.in-Some.batch = search rules in
    let is = ap (λ (b : Batch). b.bodies) batch in
    record {
      kept = c.in-Ok.ensures.kept ∙ l.invariant.kept;
      rows = c.row_of-row.ensures.rows;
      judging = λ bytes left counted few j.
          c.in-Ok.ensures.takes bytes (after_parts (coded_all counted (kept_bodies rest)) left) counted few
          (subst (λ (x : List Body). IsJudging bytes (after_parts (coded_all counted x) (after_parts (coded_all counted (kept_bodies rest)) left)) c.args.spaces.now l.codes) (sym is)
          (judging_on bytes (after_parts (coded_all counted (kept_bodies all)) left) (after_parts (coded_all counted bodies) (after_parts (coded_all counted (kept_bodies rest)) left)) c.args.spaces.now l.codes
          (ap (λ (x : List Body). after_parts (coded_all counted x) left) (kept_next all rest c.in-Some.batch c.in-Some.ensures.steps.0) ∙ cut_append counted bodies (kept_bodies rest) left)
          (l.invariant.judging bytes left counted few j)));
      few = search rules;
    }

pub returns-in-Err-clause-takes : goal.returns-in-Err-clause-takes
returns-in-Err-clause-takes c = λ bytes left counted few j.
    let l = c.loop-batch in
    let all = into_iter_items l.batch-iterator in
    let rest = into_iter_items c.next.new.self in
    let bodies = (arc_value c.in-Some.batch).bodies in
    let batch : c.deref-in-loop-batch.result.now ≡ arc_value c.in-Some.batch = search rules in
    let is = ap (λ (b : Batch). b.bodies) batch in
    fault_taken bytes c.in-Err.stop (after_parts (coded_all counted (kept_bodies rest)) left) left c.args.spaces.now c.args.spaces.now c.take_bodies.new.codes c.take_bodies.new.codes
    (c.in-Err.ensures.takes bytes (after_parts (coded_all counted (kept_bodies rest)) left) counted few
    (subst (λ (x : List Body). IsJudging bytes (after_parts (coded_all counted x) (after_parts (coded_all counted (kept_bodies rest)) left)) c.args.spaces.now l.codes) (sym is)
    (judging_on bytes (after_parts (coded_all counted (kept_bodies all)) left) (after_parts (coded_all counted bodies) (after_parts (coded_all counted (kept_bodies rest)) left)) c.args.spaces.now l.codes
    (ap (λ (x : List Body). after_parts (coded_all counted x) left) (kept_next all rest c.in-Some.batch c.in-Some.ensures.steps.0) ∙ cut_append counted bodies (kept_bodies rest) left)
    (l.invariant.judging bytes left counted few j))))
