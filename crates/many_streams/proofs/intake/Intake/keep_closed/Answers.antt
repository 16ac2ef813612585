use Rattle.std.proofs.Common.{ap, ◌∙◌}
use Rattle.body_cutter.specs.Cuttings.{Cutting}
use Rattle.module_stream.specs.Kept.{kept_bodies}
use Rattle.module_stream.proofs.Sharing.{kept_more, kept_all}
use Rattle.many_streams.proofs.intake.Intake.keep_closed.Goals as goal

pub loop-batch-preserved : goal.loop-batch-preserved
loop-batch-preserved c =
    let l = c.loop-batch in
    let is = c.in-Some.ensures.3 in
    record {
      same = l.invariant.same;
      place = ap (λ (k : Cutting). k.place) is ∙ l.invariant.place;
      begun = ap (λ (k : Cutting). k.queue.begun) is ∙ l.invariant.begun;
      least = ap (λ (k : Cutting). k.queue.least) is ∙ l.invariant.least;
      kept = kept_more l.self.kept.items c.push.new.self.items c.in_ok-batch.batch c.in-Some.batch l.self.cutter c.take_batch.new.self _ c.in_ok-push.ensures.items c.in_ok-batch.ensures.ok c.in-Some.ensures l.invariant.kept;
    }

pub returns-clause-kept : goal.returns-clause-kept
returns-clause-kept c =
    let l = c.loop-batch in
    kept_all (kept_bodies l.self.kept.items) l.self.cutter.queue.closed _ c.in_default.ensures.0 l.invariant.kept
