use Rattle.std.proofs.Common.{arith}
use Rattle.rv64im_machine.specs.Contents.{state_of}
use Rattle.image_run.proofs.RunLaws.{memory_kept}
use Rattle.image_run.proofs.run.run_machine.Goals as goal

pub back-requires : goal.back-requires
back-requires c =
    let m = c.args.machine.now in
    omega (arith, c.requires, memory_kept m.code c.args.steps c.run-ran.result (state_of m) (state_of c.run-ran.new.self) c.run-ran.ensures.rows)
