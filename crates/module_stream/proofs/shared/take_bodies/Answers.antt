use Rattle.std.proofs.Common.{◌+◌, ◌<◌, ◌≤◌, List, drop, length, subst, ◌∙◌, arith, rules}
use Rattle.std.proofs.lemmas.List.{drop_all}
use Rattle.section_reader.specs.Onward.{after_parts}
use Rattle.body_cutter.specs.Bodies.{Body, body_of}
use Rattle.module_stream.specs.CutBodies.{coded_all}
use Rattle.module_stream.specs.Progress.{IsJudging}
use Rattle.module_stream.proofs.Sharing.{next_made, rest_made}
use Rattle.module_stream.proofs.Taking.{can_take, body_stops, body_taken, fault_taken, next_left}
use Rattle.module_stream.proofs.shared.take_bodies.Goals as goal

pub take_next-requires-clause-can : goal.take_next-requires-clause-can
take_next-requires-clause-can c =
    let bytes = c.requires.can.0 in
    let left = c.requires.can.1 in
    let counted = c.requires.can.3 in
    let l = c.loop-index in
    let bodies = c.args.bodies.now in
    let within : l.index < length bodies = omega (arith, c.loop-index-test.true, c.count-index-end.ensures) in
    let step = next_left bodies l.index (body_of c.get-body.result) within c.get-body.ensures.body in
    let next = subst (λ (x : List Body). IsJudging bytes (after_parts (coded_all counted x) left) c.args.spaces.now l.codes) step (l.invariant.judging bytes left counted c.requires.can.2 c.requires.can.4) in
    can_take bytes (after_parts (coded_all counted (drop (l.index + 1) bodies)) left) c.args.spaces.now l.codes (body_of c.get-body.result) counted c.requires.can.2 next

pub take_next-requires-clause-made : goal.take_next-requires-clause-made
take_next-requires-clause-made c =
    let l = c.loop-index in
    let bodies = c.args.bodies.now in
    let within : l.index < length bodies = omega (arith, c.loop-index-test.true, c.count-index-end.ensures) in
    let step = next_left bodies l.index (body_of c.get-body.result) within c.get-body.ensures.body in
    next_made c.args.spaces.now c.args.cells.now (drop l.index bodies) (drop (l.index + 1) bodies) (body_of c.get-body.result) step c.pop.result l.made.items c.pop.new.self.items c.pop.ensures.items (search rules) l.invariant.made

pub loop-index-preserved : goal.loop-index-preserved
loop-index-preserved c =
    let l = c.loop-index in
    let bodies = c.args.bodies.now in
    let within : l.index < length bodies = omega (arith, c.loop-index-test.true, c.count-index-end.ensures) in
    let step = next_left bodies l.index (body_of c.get-body.result) within c.get-body.ensures.body in
    record {
      kept = c.in-Ok.ensures.kept ∙ l.invariant.kept;
      made = rest_made c.args.spaces.now c.args.cells.now (drop l.index bodies) (drop (l.index + 1) bodies) (body_of c.get-body.result) step c.pop.result l.made.items c.pop.new.self.items c.pop.ensures.items (search rules) l.invariant.made;
      judging = λ bytes left counted few j.
          let next = subst (λ (x : List Body). IsJudging bytes (after_parts (coded_all counted x) left) c.args.spaces.now l.codes) step (l.invariant.judging bytes left counted few j) in
          body_taken bytes (after_parts (coded_all counted (drop (l.index + 1) bodies)) left) c.args.spaces.now l.codes (body_of c.get-body.result) counted next c.take_next.new.codes c.in-Ok.ensures.takes;
    }

pub returns-in-Err-clause-takes : goal.returns-in-Err-clause-takes
returns-in-Err-clause-takes c = λ bytes left counted few j.
    let l = c.loop-index in
    let bodies = c.args.bodies.now in
    let rest = after_parts (coded_all counted (drop (l.index + 1) bodies)) left in
    let within : l.index < length bodies = omega (arith, c.loop-index-test.true, c.count-index-end.ensures) in
    let step = next_left bodies l.index (body_of c.get-body.result) within c.get-body.ensures.body in
    let next = subst (λ (x : List Body). IsJudging bytes (after_parts (coded_all counted x) left) c.args.spaces.now l.codes) step (l.invariant.judging bytes left counted few j) in
    fault_taken bytes c.in-Err.stop rest left c.args.spaces.now c.args.spaces.now c.take_next.new.codes c.take_next.new.codes
    (body_stops bytes rest c.args.spaces.now l.codes (body_of c.get-body.result) counted next c.in-Err.stop c.take_next.new.codes c.in-Err.ensures.takes)

pub returns-clause-takes : goal.returns-clause-takes
returns-clause-takes c = λ bytes left counted few j.
    let l = c.loop-index in
    let bodies = c.args.bodies.now in
    let over : length bodies ≤ l.index = omega (arith, c.loop-index-test.false, c.count-index-end.ensures) in
    subst (λ (x : List Body). IsJudging bytes (after_parts (coded_all counted x) left) c.args.spaces.now l.codes) (drop_all l.index bodies over) (l.invariant.judging bytes left counted few j)
