use Rattle.std.proofs.Common.{ℕ, Ok, Err, subst}
use Rattle.body_cutter.specs.Bodies.{body_of}
use Rattle.module_stream.specs.Progress.{CountsBody}
use Rattle.module_stream.proofs.Taking.{stop_taken}
use Rattle.module_stream.proofs.bodies.take_measured.Goals as goal

pub take_counted-requires-clause-code : goal.take_counted-requires-clause-code
take_counted-requires-clause-code c =
    let counted = subst (λ (n : ℕ). CountsBody c.args.spaces.now n (body_of c.args.body) (Ok c.in-Ok.words)) c.count.ensures c.in-Ok.ensures in
    (counted.0, counted.2, counted.1)

pub returns-in-Err-clause-takes : goal.returns-in-Err-clause-takes
returns-in-Err-clause-takes c =
    rw c.stop_at.ensures (stop_taken c.args.spaces.now c.args.codes.now c.args.codes.now (body_of c.args.body) c.in-Err.stop
    (subst (λ (n : ℕ). CountsBody c.args.spaces.now n (body_of c.args.body) (Err c.in-Err.stop)) c.count.ensures c.in-Err.ensures))
