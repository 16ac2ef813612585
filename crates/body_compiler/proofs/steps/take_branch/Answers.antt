use Rattle.std.proofs.Common.{Bool, Some, sym, subst}
use Rattle.std.specs.Prelude.{OnOk}
use Rattle.wasm_defs.specs.declared.token.Token.TheVariants as token
use Rattle.control_emit.specs.Emits.{draft}
use Rattle.control_emit.specs.Walks.{Step}
use Rattle.body_compiler.specs.Steps.{appended_at}
use Rattle.body_compiler.proofs.steps.take_branch.Goals as goal

pub returns-clause-words : goal.returns-clause-words
returns-clause-words c = λ w c' layout.
    let t = token.Plain c.args.plain.now in
    let a = draft c.args.labels.now c.args.buffer.now in
    let b = draft c.take_jump.new.labels c.take_jump.new.buffer in
    subst (λ (long : Bool). OnOk c.take_jump.result (Step w c' t (appended_at long t (Some c.args.height)) a b)) (sym c.if-too_long.false) (c.take_jump.ensures w c' layout)
