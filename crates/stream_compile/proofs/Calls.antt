-- A call of an image's function is the call of the module's.
use Rattle.std.proofs.Common.{◌≡◌, ℕ, ◌+◌, ◌*◌, ◌≤◌, arith, Bool, true, false, List, [], ◌∷◌, map, length, Option, Some, None, refl, sym, ap, ◌∙◌, subst, inl, inr}
use Rattle.std.specs.Prelude.{not}
use Rattle.std.specs.Str.{bytes_eq}
use Rattle.std.proofs.lemmas.Bool.{cases_Bool}
use Rattle.wasm_defs.specs.declared.types.ValType.{ValType}
use Rattle.wasm_defs.specs.declared.types.FuncType.{FuncType}
use Rattle.wasm_defs.specs.Typing.{same_types}
use Rattle.wasm_defs.specs.Values.{Value, types_of_values}
use Rattle.wasm_defs.specs.Host.{HostCall, Reply, are_of, all_in_range}
use Rattle.wasm_defs.specs.Context.{context_of, type_of_function}
use Rattle.wasm_defs.specs.Faults.{Module}
use Rattle.wasm_defs.specs.Instances.{exports_of, named, is_linkable}
use Rattle.wasm_defs.specs.ModuleRun.{End, Returns, Traps, Stops, Going, Fails, module_run}
use Rattle.wasm_defs.specs.ModuleRun as module_runs
use Rattle.body_validator.proofs.OperandLaws.{same_types-of, same_types-true}
use Rattle.image_format.specs.Contents.{Image}
use Rattle.image_format.specs.declared.image.Export.{Export}
use Rattle.image_format.specs.declared.image.Import.{Import}
use Rattle.image_format.specs.ImageRun.{Ending, As, Fault, ImageRun, image_run}
use Rattle.image_linker.specs.ImageOf.{image_of, export_of, offset_of}
use Rattle.image_linker.specs.Same.{Same}
use Rattle.simulation.specs.SameRuns.{SameRuns, BeginsWith, IsOver, as_image, own_ending, own_run}
use Rattle.image_run.specs.declared.checks.NotRunnable.{NotRunnable}
use Rattle.image_run.specs.declared.checks.NotRunnable.TheVariants.{UnknownImport, WrongArguments, Unlinkable}
use Rattle.image_run.specs.Checks.{export_named, not_runnable, unfit, has_unknown_import}
use Rattle.image_run.specs.Ends.{run_of_export}
use Rattle.wasi_host.specs.Answers.{bytes_written, replies}
use Rattle.wasi_host.specs.ExitCodes.{exit_code}
use Rattle.command_words.specs.declared.command.Call.{Call}
use Rattle.command_words.specs.declared.peek.Peek.{Peek}
use Rattle.stream_compile.specs.Texts.{Outcome, after, arguments_of, line_of_end, ChecksAndCalls, GoesOn, RunsAlike, TellsRun, ChecksAndRuns}
use Rattle.stream_compile.specs.Running.{RunsAs}
use Rattle.stream_compile.proofs.Lasting.{Lasts, image_stays, own_lasts}

-- ---- exports

-- the module's function that an export of its image is
pub record Exports (m : Module) (name : List ℕ) (es : List (List ℕ × ℕ)) (e : Export) : Type 0 where
  pub function : ℕ
  pub named_is : named name es ≡ Some function
  pub signature_is : e.signature ≡ type_of_function (context_of m.items) function
  pub offset_is : e.offset ≡ offset_of m function

pub export_is : (m : Module) (name : List ℕ) (es : List (List ℕ × ℕ)) (e : Export) → export_named name (map (export_of m) es) ≡ Some e → Exports m name es e
export_is m name [] e is = absurd cc
export_is m name (x ∷ es) e is =
    elim (cases_Bool (bytes_eq name x.0)) [
      | inl h ↦
          let t : Some (export_of m x) ≡ Some e = rw h at is in
          let same : export_of m x ≡ e = cc in
          record {
            function = x.1;
            named_is = rw h refl;
            signature_is = ap (λ (y : Export). y.signature) (sym same);
            offset_is = ap (λ (y : Export). y.offset) (sym same);
          }
      | inr h ↦
          let t : export_named name (map (export_of m) es) ≡ Some e = rw h at is in
          let found = export_is m name es e t in
          record { function = found.function; named_is = rw h found.named_is; signature_is = found.signature_is; offset_is = found.offset_is }
    ]

-- ---- what the checks found

pub record Passed (i : Image) (types : List ValType) (e : Export) : Type 0 where
  pub fit : same_types types e.signature.params ≡ true
  pub linkable : i.unlinkable ≡ false

unfit_not : (i : Image) (types : List ValType) (e : Export) → unfit i types (Some e) ≡ None → Passed i types e
unfit_not i types e is =
    elim (cases_Bool (same_types types e.signature.params)) [
      | inl h ↦
          elim (cases_Bool i.unlinkable) [
            | inl k ↦ absurd (let t : Some Unlinkable ≡ None = rw (h, k) at is in cc)
            | inr k ↦ record { fit = h; linkable = k }
          ]
      | inr h ↦ absurd (let t : Some WrongArguments ≡ None = rw h at is in cc)
    ]

pub passed : (i : Image) (name : List ℕ) (types : List ValType) (e : Export) → not_runnable i name types ≡ None → export_named name i.exports ≡ Some e → Passed i types e
passed i name types e is found =
    elim (cases_Bool (has_unknown_import i.imports)) [
      | inl h ↦ absurd (let t : Some UnknownImport ≡ None = rw h at is in cc)
      | inr h ↦ let t : unfit i types (export_named name i.exports) ≡ None = rw h at is in unfit_not i types e (rw found at t)
    ]

-- ---- runs

abbrev pub Results : Module → ℕ → List ValType
Results m f = (type_of_function (context_of m.items) f).results

runs_alike : (m : Module) (name : List ℕ) (arguments : List Value) (replies : List Reply) (e : Export) (found : Exports m name (exports_of m.items) e) → Same m (image_of m) → Passed (image_of m) (types_of_values arguments) e
    → all_in_range arguments ≡ true → SameRuns (module_run m found.function arguments replies) (λ n. own_run (length (context_of m.items).globals) (image_run (image_of m) (offset_of m found.function) (Results m found.function) arguments replies n))
runs_alike m name arguments replies e found same passed ranges =
    let params = (type_of_function (context_of m.items) found.function).params in
    let types = types_of_values arguments in
    let fit : same_types types params ≡ true = subst (λ (t : List ValType). same_types types t ≡ true) (ap (λ f. f.params) found.signature_is) passed.fit in
    let turned : same_types params types ≡ true = same_types-of params types (sym (same_types-true types params fit)) in
    let are : are_of params arguments ≡ true = rw (turned, ranges) refl in
    let linkable : is_linkable m ≡ true = links (is_linkable m) (sym same.unlinkable ∙ passed.linkable) in
    same.runs linkable name found.function arguments replies found.named_is are
  where
    links : (b : Bool) → not b ≡ false → b ≡ true
    links true h = refl
    links false h = absurd cc

-- the run of an export, where it is that of the module's function
runs_there : (m : Module) (name : List ℕ) (es : List (List ℕ × ℕ)) (e : Export) (found : Exports m name es e) (arguments : List Value) (rs : List Reply) (n : ℕ)
    → run_of_export (image_of m) e arguments rs n ≡ run_of_export (image_of m) (export_of m (name, found.function)) arguments rs n
unfolding run_of_export
runs_there m name es e found arguments rs n =
    ap (λ (offset : ℕ). image_run (image_of m) offset e.signature.results arguments rs n) found.offset_is
    ∙ ap (λ (f : FuncType). image_run (image_of m) (offset_of m found.function) f.results arguments rs n) found.signature_is

pub run_is : (m : Module) (name : List ℕ) (f : ℕ) (arguments : List Value) (rs : List Reply) (n : ℕ)
    → run_of_export (image_of m) (export_of m (name, f)) arguments rs n ≡ image_run (image_of m) (offset_of m f) (Results m f) arguments rs n
unfolding run_of_export
run_is m name f arguments rs n = refl

same_run : (r : module_runs.Run) (calls : List HostCall) (end : End) → as_image r ≡ record { calls = calls; end = As end } → r ≡ record { calls = calls; end = end }
same_run r calls end is =
    let one : r.calls ≡ calls = ap (λ (x : ImageRun). x.calls) is in
    let two : As r.end ≡ As end = ap (λ (x : ImageRun). x.end) is in
    let three : r.end ≡ end = cc in
    ap (λ (l : List HostCall). record r { calls = l }) one ∙ ap (λ (x : End). record { calls = calls; end = x }) three

-- where an image goes on after its steps, so does the module at each weight that these were enough for
module _ (runs : ℕ → module_runs.Run) (image : ℕ → ImageRun) (n : ℕ) (alike : SameRuns runs image) (stays : Lasts image) (going : (image n).end ≡ As Going) where
  not_over : (k : ℕ) → 128 * k + 64 ≤ n → IsOver (runs k).end → ⊥
  not_over k enough over =
      let (j, short, same) = alike.ends k over in
      let later : (image n).end ≡ As (runs k).end = stays j n (runs k).end (omega (arith, short, enough)) over (ap (λ (r : ImageRun). r.end) same) in
      let both : As (runs k).end ≡ As Going = sym later ∙ going in
      let is : (runs k).end ≡ Going = cc in
      subst IsOver is over

  goes_on : GoesOn n runs
  goes_on k enough = by_end (runs k).end refl
    where
      by_end : (end : End) → (runs k).end ≡ end → (runs k).end ≡ Going
      by_end (Returns values memory globals) is = absurd (not_over k enough (subst IsOver (sym is) tt))
      by_end (Traps kind place memory globals) is = absurd (not_over k enough (subst IsOver (sym is) tt))
      by_end (Stops memory) is = absurd (not_over k enough (subst IsOver (sym is) tt))
      by_end Going is = is
      by_end Fails is = absurd (alike.never_fails k is)

-- a run that no rule leads on has no line
fails_untold : (drill : Option ℕ) (peek : Option Peek) (exit : Option ℕ) (o : Outcome) → line_of_end drill peek exit (As Fails) ≡ Some o → ⊥
fails_untold drill peek None o h = cc
fails_untold drill peek (Some code) o h = cc

-- what an image's end says of its module
module _ (runs : ℕ → module_runs.Run) (image : ℕ → ImageRun) (n : ℕ) (calls : List HostCall) (alike : SameRuns runs image) (stays : Lasts image) where
  over_alike : (end : End) → IsOver end → image n ≡ record { calls = calls; end = As end } → (k : ℕ) × (runs k ≡ record { calls = calls; end = end })
  over_alike end over is =
      let k = alike.ends_only n end (ap (λ (r : ImageRun). r.end) is) over in
      (k.0, same_run (runs k.0) calls end (sym k.1 ∙ is))

  runs_on_alike : (drill : Option ℕ) (peek : Option Peek) (exit : Option ℕ) (end : Ending) (o : Outcome) → image n ≡ record { calls = calls; end = end } → line_of_end drill peek exit end ≡ Some o → RunsAlike n calls end runs
  runs_on_alike drill peek exit (As (Returns values memory globals)) o is told = over_alike (Returns values memory globals) tt is
  runs_on_alike drill peek exit (As (Traps kind place memory globals)) o is told = over_alike (Traps kind place memory globals) tt is
  runs_on_alike drill peek exit (As (Stops memory)) o is told = over_alike (Stops memory) tt is
  runs_on_alike drill peek exit (As Going) o is told =
      let going = ap (λ (r : ImageRun). r.end) is in
      let k = alike.calls_lead n going in
      (k.0, subst (λ (l : List HostCall). BeginsWith (runs k.0).calls l) (ap (λ (r : ImageRun). r.calls) is) k.1, goes_on runs image n alike stays going)
  runs_on_alike drill peek exit (As Fails) o is told = absurd (fails_untold drill peek exit o told)
  runs_on_alike drill peek exit (Fault kind pc) o is told = absurd (alike.never_faults n kind pc (ap (λ (r : ImageRun). r.end) is))

-- what is reported of one run, which has these replies
abbrev TellsOne : (drill : Option ℕ) → Option Peek → List Import → List Reply → Outcome → ImageRun → Type 0
TellsOne drill peek imports rs o run =
    (rs ≡ replies imports run.calls) × (line : Outcome) × (line_of_end drill peek (exit_code imports run.calls) run.end ≡ Some line) × (o ≡ after (bytes_written imports run.calls) line)

-- no line reports the globals
own_line : (g : ℕ) (drill : Option ℕ) (peek : Option Peek) (exit : Option ℕ) (end : Ending) → line_of_end drill peek exit (own_ending g end) ≡ line_of_end drill peek exit end
own_line g drill peek None (As (Returns values memory globals)) = refl
own_line g drill peek (Some code) (As (Stops memory)) = refl
own_line g drill peek exit end = refl

tells_run : (drill : Option ℕ) (m : Module) (r : Call) (o : Outcome) → Same m (image_of m) → all_in_range (arguments_of r.arguments) ≡ true → not_runnable (image_of m) r.export (types_of_values (arguments_of r.arguments)) ≡ None
    → ChecksAndCalls drill None (image_of m) r o → TellsRun drill m r o
tells_run drill m r o same ranges passes (e, is, tells) =
    let arguments = arguments_of r.arguments in
    let i = image_of m in
    let found = export_is m r.export (exports_of m.items) e is in
    let f = found.function in
    let g = length (context_of m.items).globals in
    let rs = tells.0 in
    let alike = runs_alike m r.export arguments rs e found same (passed i r.export (types_of_values arguments) e passes is) ranges in
    let image : ℕ → ImageRun = image_run i (offset_of m f) (Results m f) arguments rs in
    let run = run_of_export i (export_of m (r.export, f)) arguments rs r.steps in
    let exit = exit_code i.imports run.calls in
    let here : TellsOne drill r.peek i.imports rs o run = subst (λ (x : ImageRun). TellsOne drill r.peek i.imports rs o x) (runs_there m r.export (exports_of m.items) e found arguments rs r.steps) (tells.1, tells.2, tells.3, tells.4) in
    let told = own_line g drill r.peek exit run.end ∙ here.2 in
    let own = runs_on_alike (module_run m f arguments rs) (λ n. own_run g (image n)) r.steps run.calls alike (own_lasts g image (image_stays i (offset_of m f) (Results m f) arguments rs)) in
    (f, found.named_is, (rs, here.0, own drill r.peek exit (own_ending g run.end) here.1 (ap (own_run g) (sym (run_is m r.export f arguments rs r.steps))) told, here.1, told, here.3))

checked_done : (drill : Option ℕ) (m : Module) (r : Call) (o : Outcome) (why : Option NotRunnable) → Same m (image_of m) → all_in_range (arguments_of r.arguments) ≡ true → not_runnable (image_of m) r.export (types_of_values (arguments_of r.arguments)) ≡ why
    → ChecksAndCalls drill why (image_of m) r o → ChecksAndRuns drill why m r o
checked_done drill m r o (Some why) same ranges is h = h
checked_done drill m r o None same ranges is h = tells_run drill m r o same ranges is h

-- the line of the call of an image's function is the line of the call of the module's
pub run_done : (drill : Option ℕ) (m : Module) (i : Image) (r : Call) (o : Outcome) → i ≡ image_of m → Same m (image_of m) → RunsAs drill i r o
    → ChecksAndRuns drill (not_runnable (image_of m) r.export (types_of_values (arguments_of r.arguments))) m r o
run_done drill m i r o is same h =
    let here : RunsAs drill (image_of m) r o = subst (λ (x : Image). RunsAs drill x r o) is h in
    checked_done drill m r o (not_runnable (image_of m) r.export (types_of_values (arguments_of r.arguments))) same here.0 refl here.1
