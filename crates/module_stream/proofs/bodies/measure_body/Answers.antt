use Rattle.body_compiler.specs.Counting.{Measures}
use Rattle.module_stream.proofs.Taking.{moved_body}
use Rattle.module_stream.proofs.bodies.measure_body.Goals as goal

pub returns : goal.returns
returns c =
    moved_body (λ rows first context index read. Measures rows first context index read c.measure.result) c.args.spaces.now c.context-context.result.now c.args.bodies c.imported.result c.args.body.first c.args.body.bytes.now c.context-context.ensures c.imported.ensures c.measure.ensures
