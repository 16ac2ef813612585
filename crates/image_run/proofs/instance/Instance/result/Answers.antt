use Rattle.std.proofs.Common.{ℕ, ◌≤◌, List, Option, length, ap, ◌∙◌, subst, arith}
use Rattle.std.specs.Option.{option_copied}
use Rattle.wasm_defs.specs.declared.types.FuncType.{FuncType}
use Rattle.wasm_defs.specs.declared.types.ValType.{ValType}
use Rattle.wasm_defs.specs.declared.types.ValType.TheVariants.{I32}
use Rattle.wasm_defs.specs.Values.{Value, value_of}
use Rattle.image_format.specs.declared.image.Export.{Export}
use Rattle.image_format.specs.declared.limits.TheConstants.{RESULTS}
use Rattle.image_run.specs.States.{Contents, types_left}
use Rattle.image_run.proofs.ResultLaws.{results_are, results_counted, result_read}
use Rattle.image_run.proofs.instance.Instance.result.Goals as goal

pub bounds-as_slice-at : goal.bounds-as_slice-at
bounds-as_slice-at c =
    let e = c.in-Some.export.now in
    let stack = c.self.inside.machine.bytes.stack in
    let are = results_are stack (option_copied c.self.inside.returned) e c.args.self.now.results (ap (λ (s : Contents). s.results) c.self.view_is) (ap option_copied c.in-Some.is) in
    let types = c.as_slice.ensures ∙ ap (λ (f : FuncType). f.results) c.deref.ensures in
    omega (arith, c.requires, ap (λ (l : List Value). length l) are, results_counted stack 0 e.signature.results, ap (λ (l : List ValType). length l) types)

pub read_8-requires : goal.read_8-requires
read_8-requires c =
    let e = c.in-Some.export.now in
    let stack = c.self.inside.machine.bytes.stack in
    let is = ap option_copied c.in-Some.is in
    let are = results_are stack (option_copied c.self.inside.returned) e c.args.self.now.results (ap (λ (s : Contents). s.results) c.self.view_is) is in
    let few = subst (λ (o : Option Export). length (types_left o) ≤ RESULTS) is c.self.invariant.few_results in
    omega (arith, c.requires, ap (λ (l : List Value). length l) are, results_counted stack 0 e.signature.results, few, ap (λ (l : List ℕ). length l) c.bytes.ensures.value, c.self.invariant.machine.stack)

pub returns : goal.returns
returns c =
    let e = c.in-Some.export.now in
    let stack = c.self.inside.machine.bytes.stack in
    let are = results_are stack (option_copied c.self.inside.returned) e c.args.self.now.results (ap (λ (s : Contents). s.results) c.self.view_is) (ap option_copied c.in-Some.is) in
    let types = c.as_slice.ensures ∙ ap (λ (f : FuncType). f.results) c.deref.ensures in
    result_read stack c.bytes.result.now e.signature.results c.as_slice.result.now c.args.index c.read_8.result I32 c.args.self.now.results (value_of c.value_in.result) are types c.bytes.ensures.value c.requires c.read_8.ensures c.value_in.ensures
