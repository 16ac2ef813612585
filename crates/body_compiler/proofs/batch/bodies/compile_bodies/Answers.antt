use Rattle.std.proofs.Common.{◌<◌, length, rules, arith}
use Rattle.body_cutter.specs.Bodies.{body_of, no_body}
use Rattle.body_compiler.specs.LowBatches.{IsLowBody}
use Rattle.body_compiler.specs.BatchRows.{FitsBody}
use Rattle.body_compiler.proofs.Coding.{codes_next, row_faulty, row_cut, row_whole}
use Rattle.body_compiler.proofs.Rests.{all_at}
use Rattle.body_compiler.proofs.batch.bodies.compile_bodies.Goals as goal

pub compile_body-requires-clause-fits : goal.compile_body-requires-clause-fits
compile_body-requires-clause-fits c =
    all_at (FitsBody c.args.context.now) c.args.bodies.now c.loop-index.index no_body (body_of c.get-body.result) (omega (arith, c.loop-index-test.true, c.count-index-end.ensures)) c.get-body.ensures.body c.requires.fits

pub compile_body-requires-clause-low : goal.compile_body-requires-clause-low
compile_body-requires-clause-low c =
    all_at IsLowBody c.args.bodies.now c.loop-index.index no_body (body_of c.get-body.result) (omega (arith, c.loop-index-test.true, c.count-index-end.ensures)) c.get-body.ensures.body c.requires.low

pub loop-index-preserved : goal.loop-index-preserved
loop-index-preserved c =
    let within : c.loop-index.index < length c.args.bodies.now = omega (arith, c.loop-index-test.true, c.count-index-end.ensures) in
    codes_next c.args.context.now c.args.cells.now c.args.bodies.now c.loop-index.index (body_of c.get-body.result) c.loop-index.codes.items _ c.in-Coded.code within c.get-body.ensures.body c.loop-index.invariant (search rules) c.in_ok-push-in-Coded.ensures.items

pub returns-in-Faulty : goal.returns-in-Faulty
returns-in-Faulty c =
    let within : c.loop-index.index < length c.args.bodies.now = omega (arith, c.loop-index-test.true, c.count-index-end.ensures) in
    row_faulty c.args.context.now c.args.cells.now c.args.bodies.now c.loop-index.index (body_of c.get-body.result) _ c.in-Faulty.refusal within c.get-body.ensures.body c.loop-index.invariant (search rules)

pub returns-in-Cut : goal.returns-in-Cut
returns-in-Cut c = row_cut c.args.context.now c.args.cells.now c.args.bodies.now c.loop-index.index _ c.in-Cut.short c.loop-index.invariant (search rules)

pub returns : goal.returns
returns c = row_whole c.args.context.now c.args.cells.now c.args.bodies.now c.loop-index.index _ (omega (arith, c.loop-index-test.false, c.count-index-end.ensures)) c.loop-index.invariant
