use Rattle.std.proofs.Common.{rules}
use Rattle.body_cutter.specs.Bodies.{body_of}
use Rattle.module_stream.proofs.Sharing.{code_limited, code_added}
use Rattle.module_stream.proofs.bodies.add_own_code.Goals as goal

pub returns-in-Err-clause-takes : goal.returns-in-Err-clause-takes
returns-in-Err-clause-takes c = code_limited c.args.spaces.now c.args.codes.now c.args.codes.now (body_of c.args.body) c.args.code _ c.in-Err.stop (search rules) c.requires.code c.in-Err.ensures

pub returns-in-Ok-add_own-clause-takes : goal.returns-in-Ok-add_own-clause-takes
returns-in-Ok-add_own-clause-takes c = code_added c.args.spaces.now c.args.codes.now c.add_own.new.self (body_of c.args.body) c.args.code _ (search rules) c.requires.code c.in-Ok.ensures c.in-Ok-add_own.ensures.ok
