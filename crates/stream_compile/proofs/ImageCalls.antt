-- What was checked of a call, and what is reported of it.
use Rattle.std.proofs.Common.{◌≡◌, ℕ, true, false, List, [], ◌∷◌, ◌++◌, map, Option, Some, None, refl, sym, ap, ◌∙◌, subst, inl, inr}
use Rattle.std.proofs.lemmas.Bool.{cases_Bool}
use Rattle.wasm_defs.specs.declared.types.ValType.{ValType}
use Rattle.wasm_defs.specs.declared.types.ValType.TheVariants.{I32, I64}
use Rattle.wasm_defs.specs.declared.value.Value.{Value as Given}
use Rattle.wasm_defs.specs.declared.value.Value.TheVariants as given
use Rattle.wasm_defs.specs.Values.{Value, type_of, value_of, types_of_values}
use Rattle.wasm_defs.specs.Host.{Reply, in_range, all_in_range}
use Rattle.image_format.specs.Contents.{Image}
use Rattle.image_format.specs.declared.image.Export.{Export}
use Rattle.image_run.specs.declared.checks.NotRunnable.{NotRunnable}
use Rattle.image_run.specs.Checks.{export_named, not_runnable}
use Rattle.image_run.specs.Ends.{run_of_export}
use Rattle.wasi_host.specs.Answers.{bytes_written}
use Rattle.wasi_host.specs.ExitCodes.{exit_code}
use Rattle.wasi_host.specs.Own.{AreOwn}
use Rattle.command_words.specs.declared.argument.Argument.{Argument}
use Rattle.command_words.specs.declared.command.Call.{Call}
use Rattle.stream_compile.specs.Texts.{Outcome, unrunnable, given_value, arguments_of, after, line_of_end, TellsImageRun, ChecksAndCalls}
use Rattle.stream_compile.specs.Running.{RunsAs}

pub types_are : (values : List Given) → types_of_values (map value_of values) ≡ map type_of values
types_are [] = refl
types_are (given.I32 n ∷ values) = ap (λ (l : List ValType). I32 ∷ l) (types_are values)
types_are (given.I64 n ∷ values) = ap (λ (l : List ValType). I64 ∷ l) (types_are values)

-- the name and the values of a call
pub record Begun (call : Call) (name : List ℕ) (values : List Given) : Type 0 where
  pub name_is : name ≡ call.export
  pub values_are : values ≡ map given_value call.arguments
  pub ranges : all_in_range (map value_of values) ≡ true

pub begun : (call : Call) (name : List ℕ) (arguments : List Argument) (items values : List Given) → arguments ≡ call.arguments → items ≡ map given_value arguments → all_in_range (map value_of items) ≡ true → values ≡ items → name ≡ call.export → Begun call name values
begun call name arguments items values same made ranges are named = record {
  name_is = named;
  values_are = are ∙ made ∙ ap (λ (l : List Argument). map given_value l) same;
  ranges = subst (λ (l : List Given). all_in_range (map value_of l) ≡ true) (sym are) ranges;
}

all_are : (call : Call) (name : List ℕ) (values : List Given) → Begun call name values → map value_of values ≡ arguments_of call.arguments
all_are call name values b = ap (λ (l : List Given). map value_of l) b.values_are

ranges_are : (call : Call) (name : List ℕ) (values : List Given) → Begun call name values → all_in_range (arguments_of call.arguments) ≡ true
ranges_are call name values b = subst (λ (l : List Value). all_in_range l ≡ true) (all_are call name values b) b.ranges

checks_are : (i : Image) (call : Call) (name : List ℕ) (values : List Given) (checked : Option NotRunnable) → Begun call name values → checked ≡ not_runnable i name (map type_of values)
    → not_runnable i call.export (types_of_values (arguments_of call.arguments)) ≡ checked
checks_are i call name values checked b is =
    ap (λ (l : List Value). not_runnable i call.export (types_of_values l)) (sym (all_are call name values b))
    ∙ ap (λ (l : List ValType). not_runnable i call.export l) (types_are values)
    ∙ ap (λ (n : List ℕ). not_runnable i n (map type_of values)) (sym b.name_is)
    ∙ sym is

pub unrunnable_runs : (drill : Option ℕ) (i : Image) (call : Call) (name : List ℕ) (values : List Given) (checked : Option NotRunnable) (why : NotRunnable) (o : Outcome) → Begun call name values
    → checked ≡ Some why → checked ≡ not_runnable i name (map type_of values) → o ≡ unrunnable why → RunsAs drill i call o
unrunnable_runs drill i call name values checked why o b some is e =
    (ranges_are call name values b, subst (λ (x : Option NotRunnable). ChecksAndCalls drill x i call o) (sym (checks_are i call name values checked b is ∙ some)) e)

-- what is reported of a run
module _ (drill : Option ℕ) (i : Image) (call : Call) (name : List ℕ) (values : List Given) (checked : Option NotRunnable) (b : Begun call name values) (none : checked ≡ None) (is : checked ≡ not_runnable i name (map type_of values)) where
  pub runs_as : (e : Export) (rs : List Reply) (line : Outcome) → export_named name i.exports ≡ Some e
      → AreOwn i.imports (λ q. (run_of_export i e (map value_of values) q call.steps).calls) rs
      → line_of_end drill call.peek (exit_code i.imports (run_of_export i e (map value_of values) rs call.steps).calls) (run_of_export i e (map value_of values) rs call.steps).end ≡ Some line
      → RunsAs drill i call (after (bytes_written i.imports (run_of_export i e (map value_of values) rs call.steps).calls) line)
  runs_as e rs line found own ends =
      let there : export_named call.export i.exports ≡ Some e = ap (λ (n : List ℕ). export_named n i.exports) (sym b.name_is) ∙ found in
      let told = after (bytes_written i.imports (run_of_export i e (map value_of values) rs call.steps).calls) line in
      let tells : TellsImageRun drill call.peek i.imports (λ q. run_of_export i e (map value_of values) q call.steps) told = (rs, own, line, ends, refl) in
      let here = subst (λ (l : List Value). TellsImageRun drill call.peek i.imports (λ q. run_of_export i e l q call.steps) told) (all_are call name values b) tells in
      (ranges_are call name values b, subst (λ (x : Option NotRunnable). ChecksAndCalls drill x i call told) (sym (checks_are i call name values checked b is ∙ none)) (e, there, here))

pushed_on : (items : List Given) (v : Given) → all_in_range (map value_of items) ≡ true → in_range (value_of v) ≡ true → all_in_range (map value_of (items ++ v ∷ [])) ≡ true
pushed_on [] v h g = rw g refl
pushed_on (x ∷ items) v h g =
    elim (cases_Bool (in_range (value_of x))) [
      | inl k ↦ let t : all_in_range (map value_of items) ≡ true = rw k at h in rw (k, pushed_on items v t g) refl
      | inr k ↦ absurd (let t : false ≡ true = rw k at h in cc)
    ]

pub pushed : (items now : List Given) (v : Given) → now ≡ items ++ v ∷ [] → all_in_range (map value_of items) ≡ true → in_range (value_of v) ≡ true → all_in_range (map value_of now) ≡ true
pushed items now v e h g = rw e (pushed_on items v h g)
