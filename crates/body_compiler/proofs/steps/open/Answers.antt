use Rattle.std.proofs.Common.{sym, subst}
use Rattle.std.specs.Prelude.{OnOk}
use Rattle.wasm_defs.specs.declared.token.Token.{Token}
use Rattle.body_validator.specs.Checking.{guarded}
use Rattle.control_emit.specs.Emits.{draft}
use Rattle.control_emit.specs.Walks.{Step, end_shape}
use Rattle.control_emit.proofs.Calls.{on_ok}
use Rattle.body_compiler.proofs.Opening.{opens_block, opens_loop, opens_if}
use Rattle.body_compiler.proofs.steps.open.Goals as goal

pub returns-in-Block : goal.returns-in-Block
returns-in-Block c = λ w c' l same.
    let a = draft c.args.labels.now c.args.buffer.now in
    let b = draft c.open_block.new.self c.args.buffer.now in
    let base = c.saturating_sub-base.result in
    let n = c.results_of-results.result in
    subst (λ (t : Token). OnOk c.open_block.result (Step w c' t (guarded c.args.live c.args.height) a b)) (sym c.in-Block.is)
    (on_ok c.open_block.result (opens_block w c' c.in-Block.ty c.args.live c.args.height base c.params_of-params.result n a b c.saturating_sub-base.ensures (c.params_of-params.ensures.params c' same) (c.results_of-results.ensures.results c' same)) c.open_block.ensures.ok)

pub returns-in-Loop : goal.returns-in-Loop
returns-in-Loop c = λ w c' l same.
    let a = draft c.args.labels.now c.args.buffer.now in
    let b = draft c.open_loop.new.self c.args.buffer.now in
    let base = c.saturating_sub-base-in-Loop.result in
    let p = c.params_of-params-in-Loop.result in
    subst (λ (t : Token). OnOk c.open_loop.result (Step w c' t (guarded c.args.live c.args.height) a b)) (sym c.in-Loop.is)
    (on_ok c.open_loop.result (opens_loop w c' c.in-Loop.ty c.args.live c.args.height base p a b c.saturating_sub-base-in-Loop.ensures (c.params_of-params-in-Loop.ensures.params c' same)) c.open_loop.ensures.ok)

pub returns-then-live : goal.returns-then-live
returns-then-live c = λ w c' l same.
    let a = draft c.args.labels.now c.args.buffer.now in
    let b = draft c.open_if.new.self c.open_if.new.buffer in
    let base = c.saturating_sub-base-in-If.result in
    let p = c.params_of-params-in-If.result in
    let n = c.results_of-results-in-If.result in
    rw (c.in-If.is, c.if-live.true)
    (on_ok c.open_if.result (opens_if w c' c.in-If.ty c.args.height base p n a b (rw c.saturating_sub-below.ensures at c.saturating_sub-base-in-If.ensures) (c.params_of-params-in-If.ensures.params c' same) (c.results_of-results-in-If.ensures.results c' same)) (c.open_if.ensures.ok w l))

pub returns-else-live : goal.returns-else-live
returns-else-live c = λ w c' l same.
    let base = c.saturating_sub-base-in-If.result in
    let n = c.results_of-results-in-If.result in
    rw (c.in-If.is, c.if-live.false) (on_ok c.open_block-else-live.result (λ x. record { shape = end_shape base n; opens = x }) c.open_block-else-live.ensures.ok)
