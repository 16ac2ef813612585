-- Runs whose host is a `WasiHost`.
use Rattle.std.proofs.Common.{◌≡◌, ℕ, true, false, List, Option, None, Some, refl, ap, ◌∙◌, subst}
use Rattle.std.specs.Prelude.{IsSome}
use Rattle.wasm_defs.specs.Values.{Value}
use Rattle.wasm_defs.specs.Host.{HostCall, Reply}
use Rattle.io_edges.specs.Causes.{Rose}
use Rattle.image_format.specs.Contents.{Image}
use Rattle.image_format.specs.declared.image.Export.{Export}
use Rattle.image_run.specs.declared.outcome.Outcome.{Outcome}
use Rattle.image_run.specs.declared.outcome.Outcome.TheVariants.{HostStopped}
use Rattle.image_run.specs.Checks.{has_unknown_import}
use Rattle.image_run.specs.Ends.{RunsTo, run_of_export}
use Rattle.wasi_host.specs.declared.wasi_host.WasiHost.{WasiHost}
use Rattle.wasi_host.specs.declared.run_end.RunEnd.{RunEnd}
use Rattle.wasi_host.specs.Answers.{answer_of}
use Rattle.wasi_host.specs.ExitCodes.{code_of_call, last_of}
use Rattle.wasi_host.specs.Hosted.{HostsRun, code_of_end, outcome_of}
use Rattle.wasi_host.specs.Sinks.{Answers}
use Rattle.wasi_host.proofs.HostedRuns.{Whole, agree, broken, still_of, whole, whole_hosts}

-- What a run came to whose host prints to this sink, from one state of the host to another.
pub record HostedRun (O : Type 0) (written_of : O → Option (List ℕ)) (faults_of : O → ℕ) (image : Image) (e : Export) (arguments : List Value) (n : ℕ)
    (from to : WasiHost O) (outcome : Outcome) (memory : List ℕ) (results : List Value) : Type 0 where
  -- the host still holds the sink
  pub still : to.out.ghost_name ≡ from.out.ghost_name
  -- proc_exit was called exactly where the host stopped the run
  pub exits_agree : has_unknown_import image.imports ≡ false → to.is_open ≡ true → (outcome ≡ HostStopped → IsSome to.exit) × (IsSome to.exit → outcome ≡ HostStopped)
  -- the sink took all
  pub hosts : to.is_open ≡ true → (end : RunEnd) → outcome_of end ≡ outcome → code_of_end end ≡ to.exit
      → HostsRun (Some end) image.imports (λ rs. run_of_export image e arguments rs n) memory results (written_of from.out.now) (written_of to.out.now) × (faults_of to.out.now ≡ faults_of from.out.now)
  -- the sink failed
  pub fails : to.is_open ≡ false
      → HostsRun None image.imports (λ rs. run_of_export image e arguments rs n) memory results (written_of from.out.now) (written_of to.out.now) × Rose (faults_of from.out.now) (faults_of to.out.now)

module _ (O : Type 0) (written_of : O → Option (List ℕ)) (faults_of : O → ℕ) (image : Image) where
  abbrev pub Rel : WasiHost O → HostCall → Reply → WasiHost O → Type 0
  Rel from call reply to =
      (to.image ≡ from.image) × (to.out.ghost_name ≡ from.out.ghost_name)
      × (to.exit ≡ last_of from.exit (code_of_call from.image.now.imports call))
      × Answers from.is_open to.is_open (answer_of from.image.now.imports call) reply (written_of from.out.now) (written_of to.out.now) (faults_of from.out.now) (faults_of to.out.now)

  -- a host of the image, over the sink of that name
  abbrev pub IsOver : ℕ → WasiHost O → Type 0
  IsOver name h = (h.image.now ≡ image) × (h.out.ghost_name ≡ name)

  abbrev Said : WasiHost O → WasiHost O → HostCall → Reply → Image → Type 0
  Said a b c r i = (b.exit ≡ last_of a.exit (code_of_call i.imports c)) × Answers a.is_open b.is_open (answer_of i.imports c) r (written_of a.out.now) (written_of b.out.now) (faults_of a.out.now) (faults_of b.out.now)

  says : (name : ℕ) (a b : WasiHost O) (c : HostCall) (r : Reply) → IsOver name a → Rel a c r b
      → IsOver name b × (b.exit ≡ last_of a.exit (code_of_call image.imports c)) × Answers a.is_open b.is_open (answer_of image.imports c) r (written_of a.out.now) (written_of b.out.now) (faults_of a.out.now) (faults_of b.out.now)
  says name a b c r over h =
      let same : b.image.now ≡ image = ap (λ x. x.now) h.0 ∙ over.0 in
      let said : Said a b c r image = subst (Said a b c r) over.0 (h.2, h.3) in
      ((same, h.1 ∙ over.1), said.0, said.1)

  module _ (e : Export) (arguments : List Value) (n : ℕ) (from to : WasiHost O) (of : from.image.now ≡ image) (open_now : from.is_open ≡ true) (fresh : from.exit ≡ None)
      (outcome : Outcome) (memory : List ℕ) (results : List Value) (h : RunsTo Rel image e arguments n from to outcome memory results) where
    abbrev IsWhole : Type 0
    IsWhole =
        Whole (WasiHost O) Rel image.imports (IsOver from.out.ghost_name) (λ x. x.is_open) (λ x. written_of x.out.now) (λ x. faults_of x.out.now) (λ x. x.exit) (says from.out.ghost_name) image e arguments n from to (of, refl) open_now fresh
        outcome memory results h

    is_whole : to.is_open ≡ true → IsWhole
    is_whole =
        whole (WasiHost O) Rel image.imports (IsOver from.out.ghost_name) (λ x. x.is_open) (λ x. written_of x.out.now) (λ x. faults_of x.out.now) (λ x. x.exit) (says from.out.ghost_name) image e arguments n from to (of, refl) open_now fresh
        outcome memory results h

    pub came : HostedRun O written_of faults_of image e arguments n from to outcome memory results
    came = record {
      still =
          (still_of (WasiHost O) Rel image.imports (IsOver from.out.ghost_name) (λ x. x.is_open) (λ x. written_of x.out.now) (λ x. faults_of x.out.now) (λ x. x.exit) (says from.out.ghost_name) image e arguments n from to (of, refl) open_now fresh
          outcome memory results h).1;
      exits_agree = λ known is.
          agree (WasiHost O) Rel image.imports (IsOver from.out.ghost_name) (λ x. x.is_open) (λ x. written_of x.out.now) (λ x. faults_of x.out.now) (λ x. x.exit) (says from.out.ghost_name) image e arguments n from to (of, refl) open_now fresh
          outcome memory results h refl known (is_whole is);
      hosts = λ is end same code. (
        whole_hosts (WasiHost O) Rel image.imports (IsOver from.out.ghost_name) (λ x. x.is_open) (λ x. written_of x.out.now) (λ x. faults_of x.out.now) (λ x. x.exit) (says from.out.ghost_name) image e arguments n from to (of, refl) open_now fresh
            outcome memory results h (is_whole is) end same code,
        (is_whole is).faults_are,
      );
      fails =
          broken (WasiHost O) Rel image.imports (IsOver from.out.ghost_name) (λ x. x.is_open) (λ x. written_of x.out.now) (λ x. faults_of x.out.now) (λ x. x.exit) (says from.out.ghost_name) image e arguments n from to (of, refl) open_now fresh
          outcome memory results h;
    }
