use Rattle.std.proofs.Common.{◌+◌, ◌<◌, ◌≤◌, List, drop, length, subst, ◌∙◌, arith}
use Rattle.std.proofs.lemmas.List.{drop_all}
use Rattle.section_reader.specs.Onward.{after_parts}
use Rattle.body_cutter.specs.Bodies.{Body, body_of}
use Rattle.module_stream.specs.CutBodies.{coded_all}
use Rattle.module_stream.specs.Progress.{IsJudging}
use Rattle.module_stream.proofs.Taking.{can_take, body_stops, body_taken, fault_taken, next_left}
use Rattle.module_stream.proofs.bodies.take_batch.Goals as goal

pub take_code-requires : goal.take_code-requires
take_code-requires c =
    let bytes = c.requires.0 in
    let left = c.requires.1 in
    let counted = c.requires.3 in
    let l = c.loop-index in
    let bodies = c.args.batch.bodies in
    let within : l.index < length bodies = omega (arith, c.loop-index-test.true, c.count-index-end.ensures) in
    let step = next_left bodies l.index (body_of c.get-body.result) within c.get-body.ensures.body in
    let next = subst (λ (x : List Body). IsJudging bytes (after_parts (coded_all counted x) left) c.args.spaces.now l.codes) step (l.invariant.judging bytes left counted c.requires.2 c.requires.4) in
    can_take bytes (after_parts (coded_all counted (drop (l.index + 1) bodies)) left) c.args.spaces.now l.codes (body_of c.get-body.result) counted c.requires.2 next

pub returns-in-Err-clause-takes : goal.returns-in-Err-clause-takes
returns-in-Err-clause-takes c = λ bytes left counted few j.
    let l = c.loop-index in
    let bodies = c.args.batch.bodies in
    let rest = after_parts (coded_all counted (drop (l.index + 1) bodies)) left in
    let within : l.index < length bodies = omega (arith, c.loop-index-test.true, c.count-index-end.ensures) in
    let step = next_left bodies l.index (body_of c.get-body.result) within c.get-body.ensures.body in
    let next = subst (λ (x : List Body). IsJudging bytes (after_parts (coded_all counted x) left) c.args.spaces.now l.codes) step (l.invariant.judging bytes left counted few j) in
    fault_taken bytes c.in-Err.stop rest left c.args.spaces.now c.args.spaces.now c.take_code.new.codes c.take_code.new.codes
    (body_stops bytes rest c.args.spaces.now l.codes (body_of c.get-body.result) counted next c.in-Err.stop c.take_code.new.codes c.in-Err.ensures.takes)

pub loop-index-preserved : goal.loop-index-preserved
loop-index-preserved c =
    let l = c.loop-index in
    let bodies = c.args.batch.bodies in
    let within : l.index < length bodies = omega (arith, c.loop-index-test.true, c.count-index-end.ensures) in
    let step = next_left bodies l.index (body_of c.get-body.result) within c.get-body.ensures.body in
    record {
      kept = c.in-Ok.ensures.kept ∙ l.invariant.kept;
      judging = λ bytes left counted few j.
          let next = subst (λ (x : List Body). IsJudging bytes (after_parts (coded_all counted x) left) c.args.spaces.now l.codes) step (l.invariant.judging bytes left counted few j) in
          body_taken bytes (after_parts (coded_all counted (drop (l.index + 1) bodies)) left) c.args.spaces.now l.codes (body_of c.get-body.result) counted next c.take_code.new.codes c.in-Ok.ensures.takes;
    }

pub returns-clause-takes : goal.returns-clause-takes
returns-clause-takes c = λ bytes left counted few j.
    let l = c.loop-index in
    let bodies = c.args.batch.bodies in
    let over : length bodies ≤ l.index = omega (arith, c.loop-index-test.false, c.count-index-end.ensures) in
    subst (λ (x : List Body). IsJudging bytes (after_parts (coded_all counted x) left) c.args.spaces.now l.codes) (drop_all l.index bodies over) (l.invariant.judging bytes left counted few j)
