use Rattle.body_compiler.specs.Compiling.{Compiles}
use Rattle.module_stream.proofs.Taking.{moved_body}
use Rattle.module_stream.proofs.bodies.take_body.Goals as goal

pub returns : goal.returns
returns c =
    moved_body (λ rows first context index read. Compiles rows first context index read c.compile.result) c.args.spaces.now c.context-context.result.now c.args.bodies c.imported.result c.args.body.first c.args.body.bytes.now c.context-context.ensures c.imported.ensures c.compile.ensures
