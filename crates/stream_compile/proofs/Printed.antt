-- What is written of a run whose calls write, and of its lines.
use Rattle.std.proofs.Common.{◌≡◌, ℕ, ◌+◌, ◌-◌, ◌^◌, ◌<◌, Bool, true, false, List, [], ◌++◌, take, length, map, Option, None, Some, nat_lt, refl, sym, ap, ◌∙◌, subst, inl, inr, arith}
use Rattle.std.specs.Prelude.{IfOk, Result, Ok, Err}
use Rattle.std.specs.declared.alloc.AllocError.{AllocError}
use Rattle.std.specs.Io.KnownBytes.{append_known}
use Rattle.std.proofs.lemmas.Bool.{cases_Bool, lt-ltb, ltb-true, ltb-false}
use Rattle.std.proofs.lemmas.List.{take-append-le, take_all, take_at}
use Rattle.io_edges.specs.Causes.{Rose}
use Rattle.io_edges.proofs.Known.{append_more}
use Rattle.wasm_defs.specs.declared.value.Value.{Value as Given}
use Rattle.wasm_defs.specs.Values.{Value, type_of, value_of}
use Rattle.wasm_defs.specs.Host.{Reply}
use Rattle.wasm_defs.specs.ModuleRun.{Returns, Traps, Stops, Going, Fails}
use Rattle.image_format.specs.Contents.{Image}
use Rattle.image_format.specs.declared.image.Export.{Export}
use Rattle.image_format.specs.declared.image.Import.{Import}
use Rattle.image_format.specs.ImageRun.{Ending, As, Fault, ImageRun}
use Rattle.image_run.specs.declared.checks.NotRunnable.{NotRunnable}
use Rattle.image_run.specs.Checks.{export_named, not_runnable}
use Rattle.image_run.specs.Ends.{IsEnd, IsUnstopped, run_of_export}
use Rattle.image_run.proofs.PrintLaws.{past}
use Rattle.image_run.proofs.SignatureLaws.{all_known}
use Rattle.wasi_host.specs.declared.run_end.RunEnd.{RunEnd}
use Rattle.wasi_host.specs.declared.run_end.RunEnd.TheVariants as run_end
use Rattle.wasi_host.specs.Answers.{bytes_written}
use Rattle.wasi_host.specs.ExitCodes.{exit_code}
use Rattle.wasi_host.specs.Fitting.{StopsByExit}
use Rattle.wasi_host.specs.Hosted.{HostsRun, code_of_end, outcome_of}
use Rattle.wasi_host.proofs.HostedEnds.{stops_by_exit}
use Rattle.command_words.specs.declared.command.Call.{Call}
use Rattle.command_words.specs.declared.peek.Peek.{Peek}
use Rattle.stream_compile.specs.Texts.{Outcome, Told, after, exited, returned_by, showing, trapped, steps_spent, machine_fault, line_of_end}
use Rattle.stream_compile.specs.Running.{IsTold, RunsAs, lines_of}
use Rattle.stream_compile.proofs.ImageCalls.{Begun, runs_as}

-- the lines of an end that no reply stopped
unstopped_line : (drill : Option ℕ) (peek : Option Peek) (end : Ending) → IsUnstopped end → (line : Outcome) × (line_of_end drill peek None end ≡ Some line)
unstopped_line drill peek (As (Returns values memory globals)) h = (showing peek memory (returned_by drill values), refl)
unstopped_line drill peek (As (Traps kind place memory globals)) h = (showing peek memory (trapped kind place), refl)
unstopped_line drill peek (As (Stops memory)) h = absurd h
unstopped_line drill peek (As Going) h = (steps_spent, refl)
unstopped_line drill peek (As Fails) h = absurd h
unstopped_line drill peek (Fault kind pc) h = (machine_fault kind pc, refl)

-- and of one that proc_exit stopped
some_line : (drill : Option ℕ) (peek : Option Peek) (imports : List Import) (run : ImageRun) → StopsByExit imports run → (line : Outcome) × (line_of_end drill peek (exit_code imports run.calls) run.end ≡ Some line)
some_line drill peek imports run (inl (unstopped, none)) =
    let line = unstopped_line drill peek run.end unstopped in
    (line.0, subst (λ (exit : Option ℕ). line_of_end drill peek exit run.end ≡ Some line.0) (sym none) line.1)
some_line drill peek imports run (inr (code, some, memory, stops)) =
    let line = showing peek memory (exited code) in
    let here : line_of_end drill peek (Some code) run.end ≡ Some line = subst (λ (end : Ending). line_of_end drill peek (Some code) end ≡ Some line) (sym stops) refl in
    (line, subst (λ (exit : Option ℕ). line_of_end drill peek exit run.end ≡ Some line) (sym some) here)

-- the lines of a run's end are those of the end that its outcome and its exit code give
line_ends : (drill : Option ℕ) (peek : Option Peek) (end : RunEnd) (memory : List ℕ) (results : List Value) (ending : Ending) → IsEnd (outcome_of end) memory results ending → line_of_end drill peek (code_of_end end) ending ≡ Some (lines_of drill peek end memory results)
line_ends drill peek (run_end.Returned n) memory results ending h = subst (λ (e : Ending). line_of_end drill peek None e ≡ Some (lines_of drill peek (run_end.Returned n) memory results)) (sym h.2) refl
line_ends drill peek (run_end.Trapped kind place) memory results ending h = subst (λ (e : Ending). line_of_end drill peek None e ≡ Some (lines_of drill peek (run_end.Trapped kind place) memory results)) (sym h.1) refl
line_ends drill peek run_end.StepsSpent memory results ending h = subst (λ (e : Ending). line_of_end drill peek None e ≡ Some steps_spent) (sym h) refl
line_ends drill peek (run_end.Exited code) memory results ending h = subst (λ (e : Ending). line_of_end drill peek (Some code) e ≡ Some (lines_of drill peek (run_end.Exited code) memory results)) (sym h) refl
line_ends drill peek (run_end.Fault kind pc) memory results ending h = subst (λ (e : Ending). line_of_end drill peek None e ≡ Some (lines_of drill peek (run_end.Fault kind pc) memory results)) (sym h) refl

-- a prefix of a text is one of what begins with it
prefix_of_more : (n : ℕ) (text more : List ℕ) → (k : ℕ) × (take n text ≡ take k (text ++ more))
prefix_of_more n text more =
    elim (cases_Bool (nat_lt n (length text))) [
      | inl h ↦ (n, sym (take-append-le n text more (omega (arith, ltb-true n (length text) h))))
      | inr h ↦ (length text, take_all n text (ltb-false n (length text) h) ∙ sym (take_at text more (length text) refl))
    ]

module _ (drill : Option ℕ) (i : Image) (call : Call) (name : List ℕ) (values : List Given) (checked : Option NotRunnable) (b : Begun call name values) (none : checked ≡ None) (is : checked ≡ not_runnable i name (map type_of values)) where
  abbrev run : Export → List Reply → ImageRun
  run e rs = run_of_export i e (map value_of values) rs call.steps

  -- the sink failed before the run had ended
  pub failed_told : (e : Export) (before now : ℕ) (old new : Option (List ℕ)) → export_named name i.exports ≡ Some e → HostsRun None i.imports (run e) [] [] old new
      → before < 2 ^ 64 - 1 → Rose before now → IsTold (RunsAs drill i call) 7 (nat_lt before now) old new
  failed_told e before now old new found (rs, own, n, prefix) few rose =
      let failed : nat_lt before now ≡ true = lt-ltb before now (omega (arith, rose, few)) in
      let fine = stops_by_exit i e (map value_of values) call.steps rs (all_known i name (map type_of values) (sym is ∙ none)) own in
      let line = some_line drill call.peek i.imports (run e rs) fine in
      let bytes = bytes_written i.imports (run e rs).calls in
      let k = prefix_of_more n bytes line.0.text in
      rw failed (
        after bytes line.0,
        runs_as drill i call name values checked b none is e rs line.0 found own line.1,
        (refl, k.0, prefix ∙ ap (append_known old) k.1),
      )

  -- the lines were written, or a prefix of them
  lines_told : (e : Export) (end : RunEnd) (memory : List ℕ) (results : List Value) (status : ℕ) (failed : Bool) (old between new : Option (List ℕ)) → export_named name i.exports ≡ Some e → HostsRun (Some end) i.imports (run e) memory results old between
      → Told status (lines_of drill call.peek end memory results) failed between new → IsTold (RunsAs drill i call) status failed old new
  lines_told e end memory results status failed old between new found (rs, own, ends, code, text) told =
      let bytes = bytes_written i.imports (run e rs).calls in
      let line = lines_of drill call.peek end memory results in
      let here : line_of_end drill call.peek (exit_code i.imports (run e rs).calls) (run e rs).end ≡ Some line = subst (λ (exit : Option ℕ). line_of_end drill call.peek exit (run e rs).end ≡ Some line) (sym code) (line_ends drill call.peek end memory results (run e rs).end ends) in
      (after bytes line, runs_as drill i call name values checked b none is e rs line found own here, by_sink failed bytes line text told)
    where
      by_sink : (failed : Bool) (bytes : List ℕ) (line : Outcome) → between ≡ append_known old bytes → Told status line failed between new → Told status (after bytes line) failed old new
      by_sink true bytes line text told =
          (told.0, length bytes + told.1, told.2 ∙ ap (λ (k : Option (List ℕ)). append_known k (take told.1 line.text)) text ∙ append_more old bytes (take told.1 line.text) ∙ ap (append_known old) (sym (past bytes line.text told.1)))
      by_sink false bytes line text told = (told.0, told.1 ∙ ap (λ (k : Option (List ℕ)). append_known k line.text) text ∙ append_more old bytes line.text)

  -- the run has ended
  pub ended_told : (e : Export) (end : RunEnd) (memory : List ℕ) (results : List Value) (status before middle now : ℕ) (old between new : Option (List ℕ)) → export_named name i.exports ≡ Some e → HostsRun (Some end) i.imports (run e) memory results old between
      → middle ≡ before → Told status (lines_of drill call.peek end memory results) (nat_lt middle now) between new → IsTold (RunsAs drill i call) status (nat_lt before now) old new
  ended_told e end memory results status before middle now old between new found hosts same told =
      lines_told e end memory results status (nat_lt before now) old between new found hosts (subst (λ (k : ℕ). Told status (lines_of drill call.peek end memory results) (nat_lt k now) between new) same told)

-- what was reported of some outcomes is reported of others that they are among
pub told_as : (From To : Outcome → Type 0) (r : Result ℕ AllocError) (failed : Bool) (old new : Option (List ℕ)) → ((o : Outcome) → From o → To o)
    → IfOk r (λ status. IsTold From status failed old new) → IfOk r (λ status. IsTold To status failed old new)
told_as From To (Ok status) failed old new to (o, is, told) = (o, to o is, told)
told_as From To (Err x) failed old new to h = tt
