-- A call of an image's function is the call of its module's.
use Rattle.std.proofs.Common.{◌≡◌, ℕ, ℤ, arith, Bool, true, false, List, [], ◌∷◌, length, take, Option, Some, None, refl, sym, ap, ◌∙◌, subst, inl, inr, ◌≢◌, ◌+◌, ◌*◌, ◌≤◌}
use Rattle.std.specs.Prelude.{not, Result, Ok, Err, IfOk}
use Rattle.std.proofs.lemmas.Bool.{cases_Bool, lt-ltb}
use Rattle.std.proofs.Common.{w32, SFits, ◌^◌}
use Rattle.std.proofs.Math.Facts.{Fits-of_z}
use Rattle.wasm_defs.specs.declared.types.ValType.{ValType}
use Rattle.wasm_defs.specs.declared.types.ValType.TheVariants.{I32, I64}
use Rattle.wasm_defs.specs.declared.types.FuncType.{FuncType}
use Rattle.wasm_defs.specs.declared.value.Value.{Value as Given}
use Rattle.wasm_defs.specs.Typing.{same_types}
use Rattle.wasm_defs.specs.Values.{Value, unsigned}
use Rattle.wasm_defs.specs.Host.{HostCall, Reply, are_of, in_range}
use Rattle.wasm_defs.specs.Context.{context_of, type_of_function}
use Rattle.wasm_defs.specs.Faults.{Module}
use Rattle.wasm_defs.specs.Instances.{exports_of, is_linkable}
use Rattle.wasm_defs.specs.ModuleRun.{Run, End, Returns, Traps, Stops, Going, Fails, module_run}
use Rattle.image_format.specs.Contents.{Image}
use Rattle.image_format.specs.declared.image.Export.{Export}
use Rattle.image_format.specs.ImageRun.{Ending, As, ImageRun, image_run}
use Rattle.image_linker.specs.ImageOf.{image_of, offset_of}
use Rattle.image_linker.specs.Same.{Same}
use Rattle.simulation.specs.SameRuns.{SameRuns, IsOver, as_image, own_ending, own_run}
use Rattle.image_run.specs.declared.checks.NotRunnable.TheVariants.{Unlinkable, WrongArguments}
use Rattle.image_run.specs.declared.outcome.Outcome.{Outcome}
use Rattle.image_run.specs.declared.outcome.Outcome.TheVariants.{Returned, Trapped, StepsSpent, HostStopped, Fault}
use Rattle.image_run.specs.Checks.{export_named, unfit}
use Rattle.image_run.specs.Ends.{IsEnd, run_of_export}
use Rattle.embedding.specs.Lists.{replies_to}
use Rattle.stream_compile.proofs.Calls.{Exports, export_is}
use Rattle.stream_compile.proofs.Lasting.{Lasts, image_stays, own_lasts}
use Rattle.embedding.specs.declared.calling.Called.{Called}
use Rattle.embedding.specs.declared.calling.Called.TheVariants as called
use Rattle.embedding.specs.declared.compiling.Compiled.TheVariants as compiled
use Rattle.embedding.specs.Modules.{IsCompiled}
use Rattle.embedding.specs.Calls.{EndsSo, RunsImage, RunsModule, CallsImage, CallsModule, argument_of}

-- what the checks found of an export: it takes an i32 alone, and the image can be loaded
record Passed (i : Image) (e : Export) : Type 0 where
  fits : same_types (I32 ∷ []) e.signature.params ≡ true
  linkable : i.unlinkable ≡ false

passed : (i : Image) (e : Export) → unfit i (I32 ∷ []) (Some e) ≡ None → Passed i e
passed i e is =
    elim (cases_Bool (same_types (I32 ∷ []) e.signature.params)) [
      | inl h ↦
          elim (cases_Bool i.unlinkable) [
            | inl k ↦ absurd (let t : Some Unlinkable ≡ None = rw (h, k) at is in cc)
            | inr k ↦ record { fits = h; linkable = k }
          ]
      | inr h ↦ absurd (let t : Some WrongArguments ≡ None = rw h at is in cc)
    ]

turned : (ts : List ValType) → same_types (I32 ∷ []) ts ≡ true → same_types ts (I32 ∷ []) ≡ true
turned [] h = absurd cc
turned (I32 ∷ []) h = refl
turned (I64 ∷ []) h = absurd cc
turned (I32 ∷ t ∷ ts) h = absurd cc
turned (I64 ∷ t ∷ ts) h = absurd cc

links : (b : Bool) → not b ≡ false → b ≡ true
links true h = refl
links false h = absurd cc

argument_in_range : (n : ℤ) → SFits w32 n → in_range (argument_of n) ≡ true
argument_in_range n fits = lt-ltb (unsigned I32 n) (2 ^ 32) (omega (arith, Fits-of_z fits))

-- ---- ends

same_run : (r : Run) (calls : List HostCall) (end : End) → record { calls = calls; end = As end } ≡ as_image r → r ≡ record { calls = calls; end = end }
same_run r calls end is =
    let one : calls ≡ r.calls = ap (λ (x : ImageRun). x.calls) is in
    let two : As end ≡ As r.end = ap (λ (x : ImageRun). x.end) is in
    let three : end ≡ r.end = cc in
    sym (ap (λ (l : List HostCall). record { calls = l; end = end }) one ∙ ap (λ (x : End). record { calls = r.calls; end = x }) three)

ends_as : (r : ImageRun) (end : End) → r.end ≡ As end → record { calls = r.calls; end = As end } ≡ r
ends_as r end is = ap (λ (x : Ending). record { calls = r.calls; end = x }) (sym is)

-- where an image goes on after its steps, its module has no end at a weight that they were enough for
not_over : (runs : ℕ → Run) (image : ℕ → ImageRun) (n : ℕ) → SameRuns runs image → Lasts image → (image n).end ≡ As Going → (k : ℕ) → 128 * k + 64 ≤ n → IsOver (runs k).end → ⊥
not_over runs image n same stays going k enough over =
    let (j, short, alike) = same.ends k over in
    let later = stays j n (runs k).end (omega (arith, short, enough)) over (ap (λ (r : ImageRun). r.end) alike) in
    let both : As (runs k).end ≡ As Going = sym later ∙ going in
    let is : (runs k).end ≡ Going = cc in
    subst IsOver is over

goes_on : (end : End) → (IsOver end → ⊥) → end ≢ Fails → end ≡ Going
goes_on (Returns values memory globals) not_over never = absurd (not_over tt)
goes_on (Traps kind place memory globals) not_over never = absurd (not_over tt)
goes_on (Stops memory) not_over never = absurd (not_over tt)
goes_on Going not_over never = refl
goes_on Fails not_over never = absurd (never refl)

-- the end of an image's run is an end of its module's
ends_so : (outcome : Outcome) (memory : List ℕ) (results : List Value) (runs : ℕ → Run) (image : ℕ → ImageRun) (n : ℕ) → SameRuns runs image → Lasts image → IsEnd outcome memory results (image n).end
    → EndsSo n outcome (image n).calls memory results runs
ends_so (Returned count) memory results runs image n same stays (count_is, globals, is) =
    let (k, alike) = same.ends_only n (Returns results memory globals) is tt in
    (k, globals, same_run (runs k) (image n).calls (Returns results memory globals) (ends_as (image n) (Returns results memory globals) is ∙ alike))
ends_so (Trapped kind place) memory results runs image n same stays (globals, is) =
    let (k, alike) = same.ends_only n (Traps kind place memory globals) is tt in
    (k, globals, same_run (runs k) (image n).calls (Traps kind place memory globals) (ends_as (image n) (Traps kind place memory globals) is ∙ alike))
ends_so HostStopped memory results runs image n same stays is =
    let (k, alike) = same.ends_only n (Stops memory) is tt in
    (k, same_run (runs k) (image n).calls (Stops memory) (ends_as (image n) (Stops memory) is ∙ alike))
ends_so StepsSpent memory results runs image n same stays is =
    let (k, begins) = same.calls_lead n is in
    (k, begins, λ j enough. goes_on (runs j).end (not_over runs image n same stays is j enough) (same.never_fails j))
ends_so (Fault kind pc) memory results runs image n same stays is = same.never_faults n kind pc is

-- an end says nothing of the globals
own_is_end : (g : ℕ) (outcome : Outcome) (memory : List ℕ) (results : List Value) (x : Ending) → IsEnd outcome memory results x → IsEnd outcome memory results (own_ending g x)
own_is_end g (Returned count) memory results x (count_is, globals, is) = (count_is, take g globals, ap (own_ending g) is)
own_is_end g (Trapped kind place) memory results x (globals, is) = (take g globals, ap (own_ending g) is)
own_is_end g StepsSpent memory results x is = ap (own_ending g) is
own_is_end g HostStopped memory results x is = ap (own_ending g) is
own_is_end g (Fault kind pc) memory results x is = ap (own_ending g) is

-- ---- runs

run_is : (i : Image) (e : Export) (m : Module) (f : ℕ) (arguments : List Value) (replies : List Reply) (n : ℕ) → e.offset ≡ offset_of m f → e.signature ≡ type_of_function (context_of m.items) f
    → run_of_export i e arguments replies n ≡ image_run i (offset_of m f) (type_of_function (context_of m.items) f).results arguments replies n
unfolding run_of_export
run_is i e m f arguments replies n offset signature =
    ap (λ (o : ℕ). image_run i o e.signature.results arguments replies n) offset
    ∙ ap (λ (t : FuncType). image_run i (offset_of m f) t.results arguments replies n) signature

module _ (m : Module) (name : List ℕ) (argument : ℤ) (numbers : List ℤ) (steps : ℕ) (outcome : Outcome) (first : Option Given) (fits : SFits w32 argument) (same : Same m (image_of m))
    (fit : unfit (image_of m) (I32 ∷ []) (export_named name (image_of m).exports) ≡ None) (r : RunsImage (image_of m) name argument numbers steps outcome first) where
  abbrev found : Exports m name (exports_of m.items) r.export
  found = export_is m name (exports_of m.items) r.export r.exported

  checks : Passed (image_of m) r.export
  checks = passed (image_of m) r.export (rw r.exported at fit)

  abbrev arguments : List Value
  arguments = argument_of argument ∷ []

  abbrev image : ℕ → ImageRun
  image = image_run (image_of m) (offset_of m found.function) (type_of_function (context_of m.items) found.function).results arguments r.replies

  -- of the image's globals the module's alone
  abbrev g : ℕ
  g = length (context_of m.items).globals

  abbrev own_image : ℕ → ImageRun
  own_image n = own_run g (image n)

  alike : SameRuns (module_run m found.function arguments r.replies) own_image
  alike =
      let taken : same_types (I32 ∷ []) (type_of_function (context_of m.items) found.function).params ≡ true = subst (λ (t : FuncType). same_types (I32 ∷ []) t.params ≡ true) found.signature_is checks.fits in
      let are : are_of (type_of_function (context_of m.items) found.function).params arguments ≡ true = rw (turned _ taken, argument_in_range argument fits) refl in
      same.runs (links (is_linkable m) (sym same.unlinkable ∙ checks.linkable)) name found.function arguments r.replies found.named_is are

  here : run_of_export (image_of m) r.export arguments r.replies steps ≡ image steps
  here = run_is (image_of m) r.export m found.function arguments r.replies steps found.offset_is found.signature_is

  replies : r.replies ≡ replies_to numbers (image steps).calls
  replies = r.replies_are ∙ ap (λ (x : ImageRun). replies_to numbers x.calls) here

  ended : EndsSo steps outcome (image steps).calls r.memory r.results (module_run m found.function arguments r.replies)
  ended =
      let results = (type_of_function (context_of m.items) found.function).results in
      let end : IsEnd outcome r.memory r.results (image steps).end = subst (λ (x : ImageRun). IsEnd outcome r.memory r.results x.end) here r.end in
      ends_so outcome r.memory r.results (module_run m found.function arguments r.replies) own_image steps alike
      (own_lasts g image (image_stays (image_of m) (offset_of m found.function) results arguments r.replies)) (own_is_end g outcome r.memory r.results (image steps).end end)

  pub runs_module : RunsModule m name argument numbers steps outcome first
  runs_module = record {
    function = found.function;
    exported = found.named_is;
    calls = (image steps).calls;
    memory = r.memory;
    results = r.results;
    ends = subst (λ (l : List Reply). EndsSo steps outcome (image steps).calls r.memory r.results (module_run m found.function arguments l)) replies ended;
    first_is = r.first_is;
  }

-- ---- calls

pub called_module : (bytes name : List ℕ) (argument : ℤ) (numbers : List ℤ) (steps : ℕ) (i : Image) (c : Called) → SFits w32 argument → IsCompiled bytes (compiled.Image i) → CallsImage i name argument numbers steps c
    → CallsModule bytes name argument numbers steps c
called_module bytes name argument numbers steps i (called.Refused r) fits (m, is) h = absurd h
called_module bytes name argument numbers steps i (called.NotRunnable why) fits (m, is) h = (m, i, is, h)
called_module bytes name argument numbers steps i (called.Ended outcome first) fits (m, is) (fit, run) =
    let same = subst (Same m) is.image_is is.same in
    let passes = subst (λ (x : Image). unfit x (I32 ∷ []) (export_named name x.exports) ≡ None) is.image_is fit in
    let there = subst (λ (x : Image). RunsImage x name argument numbers steps outcome first) is.image_is run in
    (m, i, is, runs_module m name argument numbers steps outcome first fits same passes there)

pub with_ok : {A E : Type 0} (r : Result A E) (P Q : A → Type 0) → ((x : A) → P x → Q x) → IfOk r P → IfOk r Q
with_ok (Ok x) P Q f h = f x h
with_ok (Err e) P Q f h = h
