use Rattle.std.proofs.Common.{List, ap, ◌∙◌, subst}
use Rattle.section_reader.specs.Onward.{after_parts}
use Rattle.body_cutter.specs.Bodies.{Body}
use Rattle.body_cutter.specs.Cuttings.{Cutting}
use Rattle.module_stream.specs.CutBodies.{coded_all}
use Rattle.module_stream.specs.Progress.{IsJudging}
use Rattle.module_stream.proofs.CutRuns.{cut_append}
use Rattle.module_stream.proofs.Cutting.{closed_taken}
use Rattle.module_stream.proofs.Taking.{judging_on, fault_taken}
use Rattle.module_stream.proofs.bodies.take_batches.Goals as goal

pub take_batch-requires-in-Some : goal.take_batch-requires-in-Some
take_batch-requires-in-Some c =
    let bytes = c.requires.0 in
    let left = c.requires.1 in
    let counted = c.requires.3 in
    let l = c.loop-batch in
    let new = c.take_batch.new.self in (
      bytes,
      after_parts (coded_all counted new.queue.closed) left,
      c.requires.2,
      counted,
      judging_on bytes (after_parts (coded_all counted l.cutter.queue.closed) left) (after_parts (coded_all counted c.in-Some.batch.bodies) (after_parts (coded_all counted new.queue.closed) left)) c.args.spaces.now l.codes
          (ap (λ (x : List Body). after_parts (coded_all counted x) left) (closed_taken l.cutter new c.in-Some.batch c.in-Some.ensures) ∙ cut_append counted c.in-Some.batch.bodies new.queue.closed left)
          (l.invariant.judging bytes left counted c.requires.2 c.requires.4),
    )

pub loop-batch-preserved : goal.loop-batch-preserved
loop-batch-preserved c =
    let l = c.loop-batch in
    let new = c.take_batch.new.self in
    let is = c.in-Some.ensures.3 in
    record {
      place = ap (λ (k : Cutting). k.place) is ∙ l.invariant.place;
      begun = ap (λ (k : Cutting). k.queue.begun) is ∙ l.invariant.begun;
      least = ap (λ (k : Cutting). k.queue.least) is ∙ l.invariant.least;
      kept = c.in-Ok.ensures.kept ∙ l.invariant.kept;
      judging = λ bytes left counted few j.
          c.in-Ok.ensures.takes bytes (after_parts (coded_all counted new.queue.closed) left) counted few
          (judging_on bytes (after_parts (coded_all counted l.cutter.queue.closed) left) (after_parts (coded_all counted c.in-Some.batch.bodies) (after_parts (coded_all counted new.queue.closed) left)) c.args.spaces.now l.codes
          (ap (λ (x : List Body). after_parts (coded_all counted x) left) (closed_taken l.cutter new c.in-Some.batch c.in-Some.ensures) ∙ cut_append counted c.in-Some.batch.bodies new.queue.closed left)
          (l.invariant.judging bytes left counted few j));
    }

pub returns-in-Err-clause-takes : goal.returns-in-Err-clause-takes
returns-in-Err-clause-takes c = λ bytes left counted few j.
    let l = c.loop-batch in
    let new = c.take_batch.new.self in
    fault_taken bytes c.in-Err.stop (after_parts (coded_all counted new.queue.closed) left) left c.args.spaces.now c.args.spaces.now c.take_batch-in-Some.new.codes c.take_batch-in-Some.new.codes
    (c.in-Err.ensures.takes bytes (after_parts (coded_all counted new.queue.closed) left) counted few
    (judging_on bytes (after_parts (coded_all counted l.cutter.queue.closed) left) (after_parts (coded_all counted c.in-Some.batch.bodies) (after_parts (coded_all counted new.queue.closed) left)) c.args.spaces.now l.codes
    (ap (λ (x : List Body). after_parts (coded_all counted x) left) (closed_taken l.cutter new c.in-Some.batch c.in-Some.ensures) ∙ cut_append counted c.in-Some.batch.bodies new.queue.closed left)
    (l.invariant.judging bytes left counted few j)))

pub returns-clause-takes : goal.returns-clause-takes
returns-clause-takes c = λ bytes left counted few j.
    let l = c.loop-batch in
    subst (λ (x : List Body). IsJudging bytes (after_parts (coded_all counted x) left) c.args.spaces.now l.codes) c.in_default.ensures.0 (l.invariant.judging bytes left counted few j)
