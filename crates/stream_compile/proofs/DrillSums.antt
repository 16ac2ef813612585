-- What a drill's run reports is its sum.
use Rattle.std.proofs.Common.{◌≡◌, ◌∙◌, ℕ, ◌+◌, ◌≤◌, true, List, [], ◌∷◌, Option, None, Some, refl, ap, sym, subst, inl, inr, pos, length, take}
use Rattle.std.specs.Prelude.{codes}
use Rattle.std.specs.Int.{w32}
use Rattle.std.proofs.lemmas.Int.{to_z_pos}
use Rattle.wasm_defs.specs.declared.types.ValType.TheVariants.{I32}
use Rattle.wasm_defs.specs.declared.types.FuncType.{FuncType}
use Rattle.wasm_defs.specs.Context.{context_of, declared_count, type_of_function}
use Rattle.wasm_defs.specs.Effects.{value}
use Rattle.wasm_defs.specs.Faults.{Accepted, Module, Rejected}
use Rattle.wasm_defs.specs.Host.{HostCall, Reply, are_of}
use Rattle.wasm_defs.specs.Instances.{exports_of, named}
use Rattle.wasm_defs.specs.ModuleRun.{module_run}
use Rattle.wasm_defs.specs.declared.fault.Refusal.{Refusal}
use Rattle.wasm_defs.specs.Values.{signed}
use Rattle.image_format.specs.declared.image.Import.{Import}
use Rattle.image_format.specs.ImageRun.{Ending, ImageRun}
use Rattle.image_linker.specs.ImageOf.{image_of, export_of, offset_of}
use Rattle.image_linker.specs.Judging.{IsModuleOf, IsVerdictOf}
use Rattle.image_linker.specs.Same.{Same}
use Rattle.image_run.specs.Ends.{run_of_export}
use Rattle.wasi_host.specs.Answers.{bytes_written}
use Rattle.wasi_host.specs.ExitCodes.{exit_code}
use Rattle.image_run.specs.declared.checks.NotRunnable.{NotRunnable}
use Rattle.command_words.specs.declared.command.Drill.{Drill}
use Rattle.module_gen.specs.Drill.{drill_bytes}
use Rattle.drill_laws.specs.Functions.{sum_below}
use Rattle.drill_laws.specs.Modules.{IsDrill}
use Rattle.drill_laws.proofs.Sums.{sum_small}
use Rattle.simulation.specs.SameRuns.{own_ending, own_run}
use Rattle.stream_compile.specs.Texts.{ChecksAndRuns, Outcome, TellsDrill, TellsModuleRun, TellsSum, after, drill_call, drill_line, drilled, line_of_end, steps_spent}
use Rattle.stream_compile.proofs.Calls.{Results, run_is}
use Rattle.stream_compile.proofs.DrillRuns.{DrillEnds, drill_ends, drill_fits, drill_runnable, drill_type, imports_nothing}
use Rattle.module_stream.proofs.Once.{verdict_once}

-- ---- the bytes are one module

accepted_one : (m n : Module) → Accepted m ≡ Accepted n → m ≡ n
accepted_one m n same = cc

pub is_drill : (n : ℕ) (m : Module) → n ≤ 50000 → IsModuleOf (drill_bytes n) m → IsDrill n m
is_drill n m most is =
    let (made, is_made, drill) = drill_fits n most in
    subst (IsDrill n) (accepted_one made m (verdict_once (drill_bytes n) (Accepted made) (Accepted m) is_made is)) drill

-- and have no error
pub not_refused : (n : ℕ) (r : Refusal) (X : Type 0) → n ≤ 50000 → IsVerdictOf (drill_bytes n) (Rejected r) → X
not_refused n r X most is =
    let (made, is_made, drill) = drill_fits n most in
    let same = verdict_once (drill_bytes n) (Accepted made) (Rejected r) is_made is in
    absurd (let no : Accepted made ≡ Rejected r = same in cc)

-- ---- the line

sum_line : (n functions : ℕ) → n ≤ 50000 → functions ≡ n + 1 → drilled functions (value I32 (sum_below n) ∷ []) ≡ drill_line (n + 1) (pos (sum_below n))
sum_line n functions most counted =
    let sum : signed I32 (sum_below n) ≡ pos (sum_below n) = to_z_pos w32 (sum_below n) (sum_small n most) in
    rw (sum, counted) refl

some_one : {A : Type 0} (x y : A) → Some x ≡ Some y → x ≡ y
some_one x y same = cc

line_told : (d : Drill) (functions : ℕ) (end : Ending) (o : Outcome) → d.count ≤ 50000 → functions ≡ d.count + 1 → DrillEnds d.count d.steps end → line_of_end (Some functions) None None end ≡ Some o → TellsSum d o
line_told d functions end o most counted (inl (memory, globals, is)) tells =
    let told : Some (drilled functions (value I32 (sum_below d.count) ∷ [])) ≡ Some o = subst (λ (e : Ending). line_of_end (Some functions) None None e ≡ Some o) is tells in
    inl (some_one o _ (sym told) ∙ sum_line d.count functions most counted)
line_told d functions end o most counted (inr (few, is)) tells =
    let told : Some steps_spent ≡ Some o = subst (λ (e : Ending). line_of_end (Some functions) None None e ≡ Some o) is tells in
    inr (few, some_one o _ (sym told))

-- where nothing is imported, nothing is written, and proc_exit isn't called
nothing_written : (calls : List HostCall) → bytes_written [] calls ≡ []
nothing_written [] = refl
nothing_written (c ∷ calls) = nothing_written calls

no_exit : (calls : List HostCall) → exit_code [] calls ≡ None
no_exit [] = refl
no_exit (c ∷ calls) = rw (no_exit calls) refl

-- ---- the run

own_drill : (g n steps : ℕ) (x : Ending) → DrillEnds n steps x → DrillEnds n steps (own_ending g x)
own_drill g n steps x (inl (memory, globals, is)) = inl (memory, take g globals, ap (own_ending g) is)
own_drill g n steps x (inr (few, is)) = inr (few, ap (own_ending g) is)

pub sum_told : (d : Drill) (m : Module) (o : Outcome) → d.count ≤ 50000 → IsModuleOf (drill_bytes d.count) m → Same m (image_of m) → TellsDrill d.steps m o → TellsSum d o
sum_told d m o most is same tells =
    let n = d.count in
    let i = image_of m in
    let g = length (context_of m.items).globals in
    let steps = d.steps in
    let functions = declared_count m.items in
    let drill = is_drill n m most is in
    let run : ℕ → List Reply → ImageRun = λ f rs. own_run g (run_of_export i (export_of m (codes "run", f)) [] rs steps) in
    let Runs : ℕ → Type 0 = λ f. TellsModuleRun (Some functions) None steps i.imports (run f) (module_run m f []) o in
    let (f, found, ran) = subst (λ (w : Option NotRunnable). ChecksAndRuns (Some functions) w m (drill_call steps) o) (drill_runnable n m drill) tells in
    let there : named (codes "run") (exports_of m.items) ≡ Some n = ap (named (codes "run")) drill.exports in
    let told : Runs n = subst Runs (some_one f n (sym found ∙ there)) ran in
    let rs = told.0 in
    let fit : are_of (type_of_function (context_of m.items) n).params [] ≡ true = ap (λ (t : FuncType). are_of t.params []) (drill_type n m drill) in
    let alike = same.runs drill.linkable (codes "run") n [] rs there fit in
    let ends = drill_ends n m most drill i (offset_of m n) (Results m n) rs g alike steps in
    let calls = (run n rs).calls in
    let end : DrillEnds n steps (run n rs).end = own_drill g n steps _ (subst (λ (r : ImageRun). DrillEnds n steps r.end) (sym (run_is m (codes "run") n [] rs steps)) ends) in
    let none : i.imports ≡ [] = imports_nothing m drill.imported in
    let nothing : bytes_written i.imports calls ≡ [] = ap (λ (l : List Import). bytes_written l calls) none ∙ nothing_written calls in
    let exit : exit_code i.imports calls ≡ None = ap (λ (l : List Import). exit_code l calls) none ∙ no_exit calls in
    let alone : o ≡ told.3 = told.5 ∙ ap (λ (l : List ℕ). after l told.3) nothing in
    let line : line_of_end (Some functions) None None (run n rs).end ≡ Some told.3 = subst (λ (x : Option ℕ). line_of_end (Some functions) None x (run n rs).end ≡ Some told.3) exit told.4 in
    subst (TellsSum d) (sym alone) (line_told d functions (run n rs).end told.3 most drill.declared end line)
