use Rattle.std.proofs.Common.{◌≡◌, ◌+◌, ◌∙◌, is_some, sym, ap, subst, arith}
use Rattle.wasm_defs.specs.Bodies.{last_of}
use Rattle.wasm_defs.specs.Context.{type_or_empty, type_of_function}
use Rattle.wasm_defs.specs.SmallTypes.{TypeIsSmall}
use Rattle.wasm_laws.proofs.Exports.{function_is_small}
use Rattle.index_spaces.specs.Spaces.{context_in}
use Rattle.body_validator.specs.Checks.{Checked}
use Rattle.body_compiler.specs.Steps.{FunctionsAreSmall}
use Rattle.body_compiler.proofs.Beginning.{locals_stop}
use Rattle.body_compiler.proofs.LocalLaws.{types_small}
use Rattle.body_compiler.proofs.opened.open_body.Goals as goal

pub returns-in-Ok-declare_locals-clause-opened : goal.returns-in-Ok-declare_locals-clause-opened
returns-in-Ok-declare_locals-clause-opened c =
    let context = context_in c.args.context.now in
    let f = type_of_function context c.args.index in
    let type : f ≡ c.type_of_function.result.now = ap type_or_empty c.type_of_function.ensures in
    let declared = rw c.new-fields.ensures at (c.in-Ok-declare_locals.ensures.groups context f c.in-Ok.ensures.ok) in
    record {
      counts = c.is_some.ensures ∙ ap is_some c.data_count.ensures;
      function = sym type;
      small = subst TypeIsSmall type (function_is_small context c.args.index c.keeps_limits.ensures);
      functions = subst (λ (x : Checked). FunctionsAreSmall x.context) (sym declared.2) (types_small context.types c.keeps_limits.ensures);
      declared = declared;
      begun = c.in-Ok-declare_locals.ensures.unbegun;
      few = c.in-Ok-declare_locals.ensures.few;
      last = omega (arith, c.saturating_sub.ensures);
    }

pub returns-in-Err-declare_locals-clause-stops : goal.returns-in-Err-declare_locals-clause-stops
returns-in-Err-declare_locals-clause-stops c = λ rows.
    let context = context_in c.args.context.now in
    let f = type_of_function context c.args.index in
    let last = c.args.offset + c.saturating_sub.result in
    let same : last ≡ last_of c.args.offset c.args.bytes.now = omega (arith, c.saturating_sub.ensures) in
    let declared = rw c.new-fields.ensures at (c.in-Err-declare_locals.ensures.groups context f c.in-Ok.ensures.ok) in
    rw c.stop_of.ensures (locals_stop (is_some c.args.context.now.data_count) rows context c.args.index c.args.offset last c.args.bytes.now c.declare_locals.new.fields c.declare_locals.new.check c.in-Err-declare_locals.stop same declared)
