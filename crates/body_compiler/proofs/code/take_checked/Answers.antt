use Rattle.std.proofs.Common.{◌≡◌, ℕ, ◌+◌, ◌++◌, ◌∙◌, List, length, refl, sym, ap, subst, arith}
use Rattle.wasm_defs.specs.Faults.{tokens_of}
use Rattle.body_compiler.specs.Going.{going_of}
use Rattle.body_compiler.proofs.Lengths.{takes_behind}
use Rattle.body_validator.specs.Checking.{guarded}
use Rattle.control_emit.specs.Emits.{draft}
use Rattle.control_emit.specs.Walks.{token_sites}
use Rattle.wasm_defs.specs.Typing.{Context}
use Rattle.index_spaces.specs.Spaces.{context_in}
use Rattle.body_compiler.specs.Steps.{appended_at, TypesLiftFew}
use Rattle.body_compiler.specs.Going.{calling}
use Rattle.body_compiler.proofs.Known.{takes_there, calls_there, rows_there, same_behind}
use Rattle.body_compiler.proofs.Tying.{names, tied-after, some-labels}
use Rattle.body_compiler.proofs.Walking.{any, unlinked, step-held}
use Rattle.body_compiler.proofs.code.take_checked.Goals as goal

pub take_step-requires-clause-some : goal.take_step-requires-clause-some
take_step-requires-clause-some c =
    some-labels c.args.draft.now.function.labels c.requires.taken.0 (c.requires.taken.1 + 1) c.requires.taken.2 c.requires.taken.3

pub take_step-requires-clause-names : goal.take_step-requires-clause-names
take_step-requires-clause-names c =
    names c.args.draft.now.function.labels c.requires.taken.0 c.args.check.now c.args.token.now (c.requires.taken.1 + 1) c.requires.taken.2 c.requires.taken.4.0

pub take_step-requires-clause-few : goal.take_step-requires-clause-few
take_step-requires-clause-few c =
    let count = c.requires.taken.2.count in
    let few = c.requires.taken.2.few in
    omega arith

pub take_step-requires-clause-high : goal.take_step-requires-clause-high
take_step-requires-clause-high c =
    let low = c.requires.taken.2.low in
    let is = c.requires.taken.4.3.1 in
    omega arith

pub take_step-requires-clause-types : goal.take_step-requires-clause-types
take_step-requires-clause-types c =
    subst TypesLiftFew (sym (c.context.ensures.types ∙ ap (λ (x : Context). x.types) c.requires.taken.4.1)) c.requires.taken.2.functions

pub take_step-requires-clause-there : goal.take_step-requires-clause-there
take_step-requires-clause-there c =
    takes_there c.requires.taken.0 c.args.check.now c.args.token.now c.args.step.now c.requires.taken.2.known c.requires.taken.4.0 c.requires.taken.4.3

pub take_step-requires-clause-called : goal.take_step-requires-clause-called
take_step-requires-clause-called c =
    let same = same_behind c.requires.taken.0.context (context_in c.context.result.now) _ c.context.ensures.types c.context.ensures.functions c.context.ensures.globals c.requires.taken.4.1 in
    calls_there c.requires.taken.0 c.args.check.now (context_in c.context.result.now) c.args.token.now c.args.step.now same c.requires.taken.2.known c.requires.taken.4.0 c.requires.taken.4.3

pub take_step-requires-clause-row : goal.take_step-requires-clause-row
take_step-requires-clause-row c =
    let same = same_behind c.requires.taken.0.context (context_in c.context.result.now) _ c.context.ensures.types c.context.ensures.functions c.context.ensures.globals c.requires.taken.4.1 in
    rows_there c.requires.taken.0 c.args.check.now (context_in c.context.result.now) c.args.token.now c.args.step.now same c.requires.taken.2.known c.requires.taken.4.0 c.requires.taken.4.3

pub returns-in-Ok-take_step-clause-tied : goal.returns-in-Ok-take_step-clause-tied
returns-in-Ok-take_step-clause-tied c =
    λ old left later tied less steps.
    let w = any c.args.draft.now.function.rows (context_in c.context.result.now).types c.args.draft.now.function.layout in
    let s = c.args.step.now in
    let same = same_behind old.context (context_in c.context.result.now) _ c.context.ensures.types c.context.ensures.functions c.context.ensures.globals steps.1 in
    tied-after w old.context c.args.token.now (appended_at c.take_step.new.draft.too_long c.args.token.now (guarded s.live s.height_before)) (draft c.args.draft.now.function.labels c.args.draft.now.function.words) (draft c.take_step.new.draft.labels c.take_step.new.draft.words) old c.args.check.now
    (left + 1) later (omega (arith, less)) tied
    (c.in-Ok-take_step.ensures.words w old.context refl (unlinked c.args.draft.now.function.rows (context_in c.context.result.now).types c.args.draft.now.function.layout) same) steps.0 steps.1

pub returns-in-Ok-take_step-clause-held : goal.returns-in-Ok-take_step-clause-held
returns-in-Ok-take_step-clause-held c =
    let w = any c.args.draft.now.function.rows (context_in c.context.result.now).types c.args.draft.now.function.layout in
    let s = c.args.step.now in
    let same = same_behind c.requires.taken.0.context (context_in c.context.result.now) _ c.context.ensures.types c.context.ensures.functions c.context.ensures.globals c.requires.taken.4.1 in
    step-held w c.requires.taken.0.context c.args.token.now (appended_at c.take_step.new.draft.too_long c.args.token.now (guarded s.live s.height_before)) (draft c.args.draft.now.function.labels c.args.draft.now.function.words) (draft c.take_step.new.draft.labels c.take_step.new.draft.words) c.requires.held
    (c.in-Ok-take_step.ensures.words w c.requires.taken.0.context refl (unlinked c.args.draft.now.function.rows (context_in c.context.result.now).types c.args.draft.now.function.layout) same)

pub returns-in-Ok-take_step-clause-goes : goal.returns-in-Ok-take_step-clause-goes
returns-in-Ok-take_step-clause-goes c =
    λ counted c' last b code before mid after front old steps exact known h more is.
    let was = c.args.draft.now.function in
    let new = c.take_step.new.draft in
    let x = calling was.labels was.words was.calls.items was.rows c.args.draft.now.sites.items in
    let y = calling new.labels new.words new.calls.items new.rows c.note_token.new.sites.items in
    let s = c.args.step.now in
    let t = c.args.token.now in
    let g = going_of counted was.too_long c' last before old code was.layout front x known in
    let right = exact (tokens_of g.tokens) g.reached in
    let d = context_in c.context.result.now in
    let same = same_behind old.context (context_in c.context.result.now) _ c.context.ensures.types c.context.ensures.functions c.context.ensures.globals steps.1 in
    let sites = subst (λ (l : List ℕ). c.note_token.new.sites.items ≡ c.args.draft.now.sites.items ++ token_sites t (guarded s.live s.height_before) (length l) c.args.at) c.words.ensures (c.in-Ok.ensures s.height_before) in
    takes_behind counted c' d last c.args.at b before mid after t s old c.args.check.now code was.layout front x y was.too_long new.too_long known h more
    is steps.0 steps.1 right.0.0 right.1 same c.in-Ok-take_step.ensures.too_long c.in-Ok-take_step.ensures.words c.in-Ok-take_step.ensures.calls sites c.in-Ok-take_step.ensures.rows
