use Rattle.std.proofs.Common.{ap, sym, ◌∙◌}
use Rattle.wasm_defs.specs.Fields.{Got}
use Rattle.body_compiler.proofs.token_loop.take_closing.Goals as goal

pub returns-clause-goes : goal.returns-clause-goes
returns-clause-goes g c =
    λ counted c' last b code before mid after front k h is. c.take_read.ensures.goes counted c' last b code before mid after front k h (is ∙ ap (λ t. Got t after) (sym c.token.ensures))
