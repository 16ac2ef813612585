use Rattle.std.proofs.Common.{ap, ◌∙◌}
use Rattle.body_cutter.specs.declared.batch.Batch.{Batch}
use Rattle.body_cutter.specs.Cuttings.{Cutting}
use Rattle.module_stream.specs.Kept.{kept_bodies}
use Rattle.module_stream.proofs.Sharing.{kept_all}
use Rattle.source_reading.proofs.Keeping.{kept_taken}
use Rattle.source_reading.proofs.intake.hand_over.Goals as goal

pub loop-batch-preserved : goal.loop-batch-preserved
loop-batch-preserved c =
    let l = c.loop-batch in
    let is = c.in-Some.ensures.3 in
    record {
      desk = c.hand_over.ensures.desk;
      parts = c.hand_over.ensures.parts ∙ l.invariant.parts;
      idle = record { done = c.hand_over.ensures.idle.done ∙ l.invariant.idle.done; reported = c.hand_over.ensures.idle.reported ∙ l.invariant.idle.reported };
      chunk = l.invariant.chunk;
      place = ap (λ (k : Cutting). k.place) is ∙ l.invariant.place;
      begun = ap (λ (k : Cutting). k.queue.begun) is ∙ l.invariant.begun;
      least = ap (λ (k : Cutting). k.queue.least) is ∙ l.invariant.least;
      kept = kept_taken l.intake.kept.items c.push.new.self.items c.in_ok-batch.batch c.in-Some.batch l.intake.cutter c.take_batch.new.self _ c.in_ok-push.ensures.items (ap (λ (b : Batch). b.bodies) c.in_ok-batch.ensures.ok) c.in-Some.ensures l.invariant.kept;
    }

pub returns-clause-kept : goal.returns-clause-kept
returns-clause-kept c =
    let l = c.loop-batch in
    kept_all (kept_bodies l.intake.kept.items) l.intake.cutter.queue.closed _ c.in_default.ensures.0 l.invariant.kept
