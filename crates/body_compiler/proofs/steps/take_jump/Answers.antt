use Rattle.std.proofs.Common.{◌≡◌, ◌-◌, ◌+◌, ℕ, List, map, length, sym, subst, arith}
use Rattle.std.specs.Prelude.{OnOk}
use Rattle.wasm_defs.specs.declared.token.Plain.{Plain}
use Rattle.frame_layout.specs.Templates.{declarations, words, label_at, jump_table_words}
use Rattle.control_emit.specs.Pending.{shapes, named, AreBelow}
use Rattle.control_emit.specs.Emits.{draft, Emits}
use Rattle.control_emit.proofs.Calls.{on_ok}
use Rattle.body_compiler.specs.Steps.{NamesPlain}
use Rattle.body_compiler.proofs.Tokens.{emits-return}
use Rattle.body_compiler.proofs.steps.take_jump.Goals as goal

pub jump-requires-clause-label : goal.jump-requires-clause-label
jump-requires-clause-label c = subst (λ (p : Plain). NamesPlain (length c.args.labels.now) p) c.in-Br.is c.requires.names

pub jump_if-requires-clause-label : goal.jump_if-requires-clause-label
jump_if-requires-clause-label c = subst (λ (p : Plain). NamesPlain (length c.args.labels.now) p) c.in-BrIf.is c.requires.names

pub jump_table-requires-clause-labels : goal.jump_table-requires-clause-labels
jump_table-requires-clause-labels c =
    let names = subst (λ (p : Plain). NamesPlain (length c.args.labels.now) p) c.in-BrTable.is c.requires.names in
    subst (λ (ls : List ℕ). AreBelow (length c.args.labels.now) ls) (sym c.as_slice.ensures) names.0

pub jump_table-requires-clause-last : goal.jump_table-requires-clause-last
jump_table-requires-clause-last c =
    let names = subst (λ (p : Plain). NamesPlain (length c.args.labels.now) p) c.in-BrTable.is c.requires.names in
    names.1

pub returns-in-Br : goal.returns-in-Br
returns-in-Br c = λ w c' l.
    let a = draft c.args.labels.now c.args.buffer.now in
    let b = draft c.jump.new.self c.jump.new.buffer in
    subst (λ (p : Plain). OnOk c.jump.result (Emits a b (λ ends. words w (declarations c') (named (shapes a.labels) ends) c.args.height (length a.words) p))) (sym c.in-Br.is) (c.jump.ensures.ok w l)

pub returns-in-BrIf : goal.returns-in-BrIf
returns-in-BrIf c = λ w c' l.
    let a = draft c.args.labels.now c.args.buffer.now in
    let b = draft c.jump_if.new.self c.jump_if.new.buffer in
    subst (λ (p : Plain). OnOk c.jump_if.result (Emits a b (λ ends. words w (declarations c') (named (shapes a.labels) ends) c.args.height (length a.words) p))) (sym c.in-BrIf.is) (c.jump_if.ensures.ok w l)

pub returns-in-BrTable : goal.returns-in-BrTable
returns-in-BrTable c = λ w c' l.
    let a = draft c.args.labels.now c.args.buffer.now in
    let b = draft c.jump_table.new.self c.jump_table.new.buffer in
    subst (λ (p : Plain). OnOk c.jump_table.result (Emits a b (λ ends. words w (declarations c') (named (shapes a.labels) ends) c.args.height (length a.words) p))) (sym c.in-BrTable.is) (subst (λ (ls : List ℕ). OnOk c.jump_table.result (Emits a b (λ ends. jump_table_words w c.args.height (length a.words) (map (label_at w (named (shapes a.labels) ends)) ls) (label_at w (named (shapes a.labels) ends) c.in-BrTable.last)))) c.as_slice.ensures (c.jump_table.ensures.ok w l))

pub returns-in-Return : goal.returns-in-Return
returns-in-Return c = λ w c' l.
    let a = draft c.args.labels.now c.args.buffer.now in
    let b = draft c.jump-in-Return.new.self c.jump-in-Return.new.buffer in
    let last : c.len-outermost.result - 1 + 1 ≡ length c.args.labels.now = omega (arith, c.len-outermost.ensures, c.requires.some) in
    subst (λ (p : Plain). OnOk c.jump-in-Return.result (Emits a b (λ ends. words w (declarations c') (named (shapes a.labels) ends) c.args.height (length a.words) p))) (sym c.in-Return.is)
    (on_ok c.jump-in-Return.result (λ x. emits-return w a b c.args.height (c.len-outermost.result - 1) last x) (c.jump-in-Return.ensures.ok w l))
