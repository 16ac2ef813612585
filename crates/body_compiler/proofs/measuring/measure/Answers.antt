use Rattle.std.proofs.Common.{Bool, ◌∙◌, length, sym, ap, subst, arith}
use Rattle.std.proofs.lemmas.List.{length-reverse}
use Rattle.wasm_defs.specs.declared.types.FuncType.{FuncType}
use Rattle.wasm_defs.specs.Bodies.{body_read}
use Rattle.wasm_defs.specs.Context.{body_context, type_of_function}
use Rattle.wasm_defs.specs.Instances.{first_minimum}
use Rattle.index_spaces.specs.Spaces.{context_in}
use Rattle.body_validator.specs.Checks.{Checked}
use Rattle.body_compiler.specs.Counting.{Sizes, Measures}
use Rattle.body_compiler.proofs.Beginning.{code_begins, code_is_bytes, groups_are}
use Rattle.body_compiler.proofs.Spelled.{bytes_are}
use Rattle.body_compiler.proofs.Whole.{measured}
use Rattle.body_compiler.proofs.measuring.measure.Goals as goal

pub measure_code-requires-clause-bytes : goal.measure_code-requires-clause-bytes
measure_code-requires-clause-bytes c =
    let declared = c.in-Ok.ensures.opened.declared in
    code_is_bytes c.args.offset c.args.bytes.now declared.0 c.in-Ok.body.fields declared.1 (bytes_are c.args.bytes.now (λ i. omega (arith, c.type_inv.bytes i)))

pub measure_code-requires-clause-unlabelled : goal.measure_code-requires-clause-unlabelled
measure_code-requires-clause-unlabelled c = ap (λ (x : Checked). x.context.labels) c.in-Ok.ensures.opened.declared.2

pub returns-in-Ok : goal.returns-in-Ok
returns-in-Ok c =
    let context = context_in c.args.context.now in
    let is = c.in-Ok.ensures.opened in
    let body = c.in-Ok.body in
    let rows = first_minimum c.args.context.now.tables in
    let f = type_of_function context c.args.index in
    let read = body_read body.counted c.args.offset c.args.bytes.now in
    let begun = code_begins body.counted context f c.args.offset body.last body.locals c.args.bytes.now body.fields c.open_body.new.check is.last is.declared in
    let own = c.measure_code.ensures (body_context context f read.groups) read.code begun.going begun.none (length-reverse f.results ∙ ap (λ (t : FuncType). length t.results) (sym is.function)) rows c.args.offset in
    let sizes = subst (λ (t : FuncType). Sizes rows c.args.offset (body_context context f read.groups) read.code (record { params = length t.params; locals = body.locals; greatest = 0 }) (length t.results) c.measure_code.result) is.function own in
    subst (λ (b : Bool). Measures rows c.args.offset context c.args.index (body_read b c.args.offset c.args.bytes.now) c.measure_code.result) is.counts
    (measured body.counted rows context c.args.index c.args.offset body.locals c.args.bytes.now c.measure_code.result (groups_are body.counted context f c.args.offset body.locals c.args.bytes.now body.fields c.open_body.new.check is.declared) sizes)

pub returns-in-Err : goal.returns-in-Err
returns-in-Err c = c.in-Err.ensures.stops (first_minimum c.args.context.now.tables)
