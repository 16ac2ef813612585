use Rattle.std.proofs.Common.{◌++◌, ℕ, List, Ok, Err, take, subst, arith}
use Rattle.std.proofs.lemmas.List.{length-drop, take_all}
use Rattle.batch_pool.proofs.Crews.{reads_more}
use Rattle.many_streams.specs.Rests.{IsRest}
use Rattle.many_streams.proofs.Crowds.{taken_on, fault_on, some_rest}
use Rattle.many_streams.proofs.rest.Rest.feed.Goals as goal

pub take-requires-clause-may : goal.take-requires-clause-may
take-requires-clause-may c = let r = c.requires.may in (r.0 ++ take c.loop-from.from c.args.piece.now, r.1, r.2, c.loop-from.invariant.goes r.0 r.1 r.2 r.3)

pub overflow_add-from : goal.overflow_add-from
overflow_add-from c =
    let r = c.requires.may in
    let t = c.in-Ok.ensures.takes (r.0 ++ take c.loop-from.from c.args.piece.now) r.1 r.2 (c.loop-from.invariant.goes r.0 r.1 r.2 r.3) in
    let within = t.2 in
    let l = length-drop c.loop-from.from c.args.piece.now in omega arith

pub loop-from-smaller : goal.loop-from-smaller
loop-from-smaller c =
    let r = c.requires.may in
    let t = c.in-Ok.ensures.takes (r.0 ++ take c.loop-from.from c.args.piece.now) r.1 r.2 (c.loop-from.invariant.goes r.0 r.1 r.2 r.3) in
    let within = t.2 in
    let some = t.1 in
    let l = length-drop c.loop-from.from c.args.piece.now in omega arith

pub loop-from-preserved : goal.loop-from-preserved
loop-from-preserved c =
    let r = c.requires.may in
    let t = c.in-Ok.ensures.takes (r.0 ++ take c.loop-from.from c.args.piece.now) r.1 r.2 (c.loop-from.invariant.goes r.0 r.1 r.2 r.3) in
    let within = t.2 in
    let l = length-drop c.loop-from.from c.args.piece.now in
    record {
      within = omega arith;
      goes = λ bytes keeps members i.
          let came = bytes ++ take c.loop-from.from c.args.piece.now in
          let Came = λ (l : List ℕ). IsRest l keeps members c.take.new.self in
          taken_on Came bytes c.args.piece.now c.loop-from.from c.in-Ok.count ((some_rest Came came c.args.piece.now c.loop-from.from (Ok c.in-Ok.count) (c.in-Ok.ensures.takes came keeps members (c.loop-from.invariant.goes bytes keeps members i))).0);
      desks = c.take.ensures.desks;
      each = reads_more c.args.lanes.now c.args.desks.now.items c.loop-from.desks.items c.take.new.desks.items c.loop-from.invariant.desks c.loop-from.invariant.each c.take.ensures.each;
    }

pub returns-in-Err-clause-takes : goal.returns-in-Err-clause-takes
returns-in-Err-clause-takes c = λ bytes keeps members i.
    let came = bytes ++ take c.loop-from.from c.args.piece.now in
    let Came = λ (l : List ℕ). IsRest l keeps members c.take.new.self in
    fault_on Came Came bytes c.args.piece.now c.loop-from.from c.in-Err.stop (some_rest Came came c.args.piece.now c.loop-from.from (Err c.in-Err.stop) (c.in-Err.ensures.takes came keeps members (c.loop-from.invariant.goes bytes keeps members i)))

pub returns-in-Err-clause-each : goal.returns-in-Err-clause-each
returns-in-Err-clause-each c = reads_more c.args.lanes.now c.args.desks.now.items c.loop-from.desks.items c.take.new.desks.items c.loop-from.invariant.desks c.loop-from.invariant.each c.take.ensures.each

pub returns-clause-takes : goal.returns-clause-takes
returns-clause-takes c = λ bytes keeps members i.
    subst (λ (l : List ℕ). IsRest (bytes ++ l) keeps members c.loop-from.self) (take_all c.loop-from.from c.args.piece.now (let over = c.loop-from-test.false in omega arith)) (c.loop-from.invariant.goes bytes keeps members i)
