use Rattle.std.proofs.Common.{Option, ap, ◌∙◌, sym, subst}
use Rattle.wasm_defs.specs.declared.token.Token.{Token}
use Rattle.body_validator.specs.Checking.{Frames, step}
use Rattle.body_validator.specs.Exchange.{Steps}
use Rattle.body_validator.specs.Scopes.{unlabelled}
use Rattle.body_validator.proofs.Taking.{plain_step, block_step, loop_step, if_step}
use Rattle.body_validator.proofs.steps.take.Goals as goal

pub returns-in-Plain : goal.returns-in-Plain
returns-in-Plain c =
    let scope = c.args.scope.now in
    let frames = c.args.stack.now in
    let same = plain_step scope c.in-Plain.plain frames
    ∙ ap (λ (t : Token). step (unlabelled scope) t frames) (sym c.in-Plain.is) in
    subst (λ (x : Option Frames). Steps x c.take_plain.result frames c.take_plain.new.stack) same c.take_plain.ensures

pub returns-in-Block : goal.returns-in-Block
returns-in-Block c =
    let scope = c.args.scope.now in
    let frames = c.args.stack.now in
    let same = block_step scope c.in-Block.block frames ∙ ap (λ (t : Token). step (unlabelled scope) t frames) (sym c.in-Block.is) in
    subst (λ (x : Option Frames). Steps x c.begin.result frames c.begin.new.stack) same c.begin.ensures

pub returns-in-Loop : goal.returns-in-Loop
returns-in-Loop c =
    let scope = c.args.scope.now in
    let frames = c.args.stack.now in
    let same = loop_step scope c.in-Loop.block frames ∙ ap (λ (t : Token). step (unlabelled scope) t frames) (sym c.in-Loop.is) in
    subst (λ (x : Option Frames). Steps x c.begin-in-Loop.result frames c.begin-in-Loop.new.stack) same c.begin-in-Loop.ensures

pub returns-in-If : goal.returns-in-If
returns-in-If c =
    let scope = c.args.scope.now in
    let frames = c.args.stack.now in
    let same = if_step scope c.in-If.block frames ∙ ap (λ (t : Token). step (unlabelled scope) t frames) (sym c.in-If.is) in
    subst (λ (x : Option Frames). Steps x c.begin-in-If.result frames c.begin-in-If.new.stack) same c.begin-in-If.ensures
