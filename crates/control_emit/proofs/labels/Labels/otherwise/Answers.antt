use Rattle.std.proofs.Common.{length, arith}
use Rattle.control_emit.specs.Emits.{draft}
use Rattle.control_emit.proofs.Composing.{count-shapes}
use Rattle.control_emit.proofs.Calls.{any_place, test-is-within, turns}
use Rattle.control_emit.proofs.labels.Labels.otherwise.Goals as goal

pub take_test-test-requires : goal.take_test-test-requires
take_test-test-requires c =
    let q = any_place c.args.live in
    let count = count-shapes c.pass_over.new.self c.args.self.now (c.in_ok-pass_over.ensures.ok q.0 q.1).shapes_are in
    omega (arith, c.requires.some)

pub patch_test-requires : goal.patch_test-requires
patch_test-requires c =
    let q = any_place c.args.live in
    test-is-within (length c.pass_over.new.buffer) c.take_test-test.result c.pass_over.new.self c.take_test-test.new.self (c.in_ok-pass_over.ensures.ok q.0 q.1).held c.take_test-test.ensures

pub returns-clause-ok : goal.returns-clause-ok
returns-clause-ok c = λ q live.
    turns (draft c.args.self.now c.args.buffer.now) (draft c.pass_over.new.self c.pass_over.new.buffer) c.take_test-test.new.self c.patch_test.new.words c.place-there.result c.take_test-test.result q
    (c.in_ok-pass_over.ensures.ok q live) c.place-there.ensures c.take_test-test.ensures c.patch_test.ensures
