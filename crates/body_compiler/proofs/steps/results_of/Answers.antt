use Rattle.std.proofs.Common.{◌≡◌, ◌≤◌, ◌∙◌, List, length, None, Some, refl, sym, ap, subst, arith}
use Rattle.std.specs.Prelude.{slice_get}
use Rattle.std.proofs.lemmas.Bool.{ltb-true, ltb-false}
use Rattle.std.proofs.lemmas.Option.{slice_get_read, slice_get_past}
use Rattle.wasm_defs.specs.declared.token.BlockType.{BlockType}
use Rattle.wasm_defs.specs.declared.types.ValType.{ValType}
use Rattle.body_compiler.specs.Steps.{max_lift, HasResults}
use Rattle.body_compiler.proofs.Opening.{results_are}
use Rattle.body_compiler.proofs.steps.results_of.Goals as goal

pub overflow_cast-result : goal.overflow_cast-result
overflow_cast-result c =
    let types = c.args.types.now in
    let there : slice_get types c.in-Index.index ≡ Some c.in-Some.function.now = slice_get_read types (length types) c.in-Index.index _ refl (ltb-true c.in-Index.index (length types) (sym c.in-Some.ensures.lookup.0)) c.in-Some.ensures.lookup.1 in
    let few = (c.requires c.in-Index.index c.in-Some.function.now there).1 in
    let same = ap (λ (l : List ValType). length l) c.as_slice.ensures in
    omega (arith, few, same)

pub returns-in-Some-clause-few : goal.returns-in-Some-clause-few
returns-in-Some-clause-few c =
    let types = c.args.types.now in
    let there : slice_get types c.in-Index.index ≡ Some c.in-Some.function.now = slice_get_read types (length types) c.in-Index.index _ refl (ltb-true c.in-Index.index (length types) (sym c.in-Some.ensures.lookup.0)) c.in-Some.ensures.lookup.1 in
    subst (λ (l : List ValType). length l ≤ max_lift) (sym c.as_slice.ensures) (c.requires c.in-Index.index c.in-Some.function.now there).1

pub returns-in-Some-clause-results : goal.returns-in-Some-clause-results
returns-in-Some-clause-results c =
    let types = c.args.types.now in
    let there : slice_get types c.in-Index.index ≡ Some c.in-Some.function.now = slice_get_read types (length types) c.in-Index.index _ refl (ltb-true c.in-Index.index (length types) (sym c.in-Some.ensures.lookup.0)) c.in-Some.ensures.lookup.1 in
    subst (λ (t : BlockType). HasResults types t (length c.as_slice.result.now)) (sym c.in-Index.is)
    (λ c' same. results_are types c.in-Index.index (Some c.in-Some.function.now) there c' same ∙ sym (ap (λ (l : List ValType). length l) c.as_slice.ensures))

pub returns-in-None-clause-results : goal.returns-in-None-clause-results
returns-in-None-clause-results c =
    let types = c.args.types.now in
    let past : slice_get types c.in-Index.index ≡ None = slice_get_past types c.in-Index.index (ltb-false c.in-Index.index (length types) (sym c.in-None.ensures.lookup.0)) in
    subst (λ (t : BlockType). HasResults types t 0) (sym c.in-Index.is) (results_are types c.in-Index.index None past)
