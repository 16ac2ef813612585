-- A run with the host's own replies is stopped by proc_exit alone, and by each call of it.
use Rattle.std.proofs.Common.{◌≡◌, ℕ, zero, suc, ◌+◌, ◌⊎◌, inl, inr, true, false, List, [], ◌∷◌, ◌++◌, drop, length, None, Some, refl, sym, ap, ◌∙◌, subst, append_assoc}
use Rattle.std.specs.Prelude.{slice_get}
use Rattle.std.proofs.lemmas.List.{drop_at}
use Rattle.wasm_defs.specs.declared.types.ValType.{ValType}
use Rattle.wasm_defs.specs.declared.types.ValType.TheVariants.{I32, I64}
use Rattle.wasm_defs.specs.Typing.{same_type, same_types}
use Rattle.wasm_defs.specs.Values.{Value, types_of_values}
use Rattle.wasm_defs.specs.Host.{HostCall, Reply, Taken, Goes, Stops, taken}
use Rattle.image_format.specs.Contents.{Image}
use Rattle.image_format.specs.declared.image.Import.{Import}
use Rattle.image_format.specs.declared.image.Export.{Export}
use Rattle.image_format.specs.ImageRun.{Running, Stepping, ImageRun, answered, await_reply, memory_of, on, run_of, steps, values_at}
use Rattle.image_run.specs.Checks.{has_unknown_import}
use Rattle.image_run.specs.Ends.{run_of_export}
use Rattle.image_run.proofs.SignatureLaws.{known_at}
use Rattle.image_run.proofs.ReplyLaws.{Turn, GoesOn, Ends, Asks, calls_grow, calls_of, goes, machine_behind, next_turn, over_on, reply_grows, with_replies}
use Rattle.image_run.proofs.ExportRuns.{first, first_calls, by_goes}
use Rattle.wasi_host.specs.Answers.{answer_of, replies}
use Rattle.wasi_host.specs.ExitCodes.{exit_code}
use Rattle.wasi_host.specs.Own.{AreOwn}
use Rattle.wasi_host.specs.Fitting as fitting
use Rattle.wasi_host.specs.Fitting.{IsCallOf, StopsByExit}
use Rattle.wasi_host.proofs.ExitLaws.{exit_code-last, exit_code-none}
use Rattle.wasi_host.proofs.FittingLaws.{answered_or_exits}

own_type : (t : ValType) → same_type t t ≡ true
own_type I32 = refl
own_type I64 = refl

own_types : (stack : List ℕ) (at : ℕ) (ts : List ValType) → same_types ts (types_of_values (values_at stack at ts)) ≡ true
own_types stack at [] = refl
own_types stack at (t ∷ ts) = rw (own_type t) (own_types stack (at + 8) ts)

module _ (i : Image) (known : has_unknown_import i.imports ≡ false) where
  abbrev pub Fine : Stepping → Type 0
  Fine done = StopsByExit i.imports (run_of done)

  -- these are the replies to the calls after the first ones
  abbrev pub OwnAfter : List HostCall → List Reply → Stepping → Type 0
  OwnAfter calls rs done = rs ≡ replies i.imports (drop (length calls) (calls_of i done))

  abbrev pub FineAll : ℕ → Type 0
  FineAll n = (r : Running) (rs : List Reply) → OwnAfter r.calls rs (goes i n r rs) → exit_code i.imports r.calls ≡ None → Fine (goes i n r rs)

  -- what a reply was taken as, and the exit code up to its call
  abbrev Fits : List HostCall → Taken → Type 0
  Fits calls t = (fitting.GoesOn t × (exit_code i.imports calls ≡ None)) ⊎ ((t ≡ Stops) × (code : ℕ) × (exit_code i.imports calls ≡ Some code))

  taken_fine : (n : ℕ) (r : Running) (before qs : List Reply) (at : ℕ) (t : Taken) → FineAll n → Fits r.calls t
      → OwnAfter r.calls qs (on (answered (with_replies r before) qs at t) (steps i n)) → Fine (on (answered (with_replies r before) qs at t) (steps i n))
  taken_fine n r before qs at Stops all (inl goes_on) own = absurd goes_on.0
  taken_fine n r before qs at Stops all (inr exit) own = inr (exit.1, exit.2, memory_of r, refl)
  taken_fine n r before qs at (Goes values memory) all (inl goes_on) own = all (record r { machine = machine_behind r at values memory }) qs own goes_on.1
  taken_fine n r before qs at (Goes values memory) all (inr exit) own = absurd (let t : Goes values memory ≡ Stops = exit.0 in cc)

  asks_fine : (n : ℕ) (r : Running) (made : HostCall) (number at : ℕ) (import : Import) (calls : List HostCall) (before rs : List Reply) → r.calls ≡ calls ++ made ∷ [] → slice_get i.imports number ≡ Some import
      → made ≡ record { number = number; arguments = values_at r.machine.bytes.stack at import.signature.params; memory = memory_of r } → FineAll n → exit_code i.imports calls ≡ None
      → OwnAfter calls rs (on (await_reply (with_replies r before) import.signature.results at rs) (steps i n)) → Fine (on (await_reply (with_replies r before) import.signature.results at rs) (steps i n))
  asks_fine n r made number at import calls before [] same there asks all none own =
      let one : [] ≡ replies i.imports (made ∷ []) = own ∙ ap (λ (l : List HostCall). replies i.imports (drop (length calls) l)) same ∙ ap (replies i.imports) (drop_at calls (made ∷ []) (length calls) refl) in
      absurd cc
  asks_fine n r made number at import calls before (q ∷ qs) same there asks all none own =
      let done = on (await_reply (with_replies r before) import.signature.results at (q ∷ qs)) (steps i n) in
      let grown = reply_grows i n r import.signature.results at (q ∷ qs) before (calls_grow i n) in
      let whole : calls_of i done ≡ calls ++ (made ∷ grown.0) = grown.1 ∙ ap (λ (l : List HostCall). l ++ grown.0) same ∙ append_assoc calls (made ∷ []) grown.0 in
      let after : drop (length calls) (calls_of i done) ≡ made ∷ grown.0 = ap (drop (length calls)) whole ∙ drop_at calls (made ∷ grown.0) (length calls) refl in
      let both : q ∷ qs ≡ (answer_of i.imports made).reply ∷ replies i.imports grown.0 = own ∙ ap (replies i.imports) after in
      let first : q ≡ (answer_of i.imports made).reply = cc in
      let rest : qs ≡ replies i.imports grown.0 = cc in
      let later_calls : drop (length r.calls) (calls_of i done) ≡ grown.0 = ap (drop (length r.calls)) grown.1 ∙ drop_at r.calls grown.0 (length r.calls) refl in
      let call : IsCallOf i.imports made import = (ap (λ (c : HostCall). slice_get i.imports c.number) asks ∙ there, subst (λ (vs : List Value). same_types import.signature.params (types_of_values vs) ≡ true) (sym (ap (λ (c : HostCall). c.arguments) asks)) (own_types r.machine.bytes.stack at import.signature.params)) in
      let taken_is : taken import.signature.results made.memory (answer_of i.imports made).reply ≡ taken import.signature.results (memory_of r) q =
      ap (λ (m : List ℕ). taken import.signature.results m (answer_of i.imports made).reply) (ap (λ (c : HostCall). c.memory) asks) ∙ ap (taken import.signature.results (memory_of r)) (sym first) in
      let fits : Fits r.calls (taken import.signature.results (memory_of r) q) =
      elim (answered_or_exits i.imports made import (known_at i.imports number import known there) call) [
        | inl h ↦ inl (subst fitting.GoesOn taken_is h.goes_on, ap (exit_code i.imports) same ∙ exit_code-none i.imports calls made none h.no_code)
        | inr h ↦ inr (ap (taken import.signature.results (memory_of r)) (first ∙ h.stops), h.code, ap (exit_code i.imports) same ∙ exit_code-last i.imports calls made h.code h.has_code)
      ] in
      taken_fine n r before qs at (taken import.signature.results (memory_of r) q) all fits (rest ∙ ap (replies i.imports) (sym later_calls))

  turn_fine : (n : ℕ) (calls : List HostCall) (f : List Reply → Stepping) (rs : List Reply) → Turn i calls f → FineAll n → exit_code i.imports calls ≡ None
      → OwnAfter calls rs (on (f rs) (steps i n)) → Fine (on (f rs) (steps i n))
  turn_fine n calls f rs (GoesOn r same is) all none own =
      let here : OwnAfter calls rs (goes i n r rs) = subst (λ (z : Stepping). OwnAfter calls rs (on z (steps i n))) (is rs) own in
      rw (is rs) (all r rs (subst (λ (l : List HostCall). OwnAfter l rs (goes i n r rs)) (sym same) here) (ap (exit_code i.imports) same ∙ none))
  turn_fine n calls f rs (Ends o same end over is) all none own =
      let fine : StopsByExit i.imports o = inl (end, ap (exit_code i.imports) same ∙ none) in
      rw (over_on i (f rs) (steps i n) (over rs)) (subst (StopsByExit i.imports) (sym (is rs)) fine)
  turn_fine n calls f rs (Asks r made number at import same there asks is) all none own =
      let here = subst (λ (z : Stepping). OwnAfter calls rs (on z (steps i n))) (is rs) own in
      rw (is rs) (asks_fine n r made number at import calls rs rs same there asks all none here)

  pub ends_fine : (n : ℕ) → FineAll n
  ends_fine zero r rs own none = inl (tt, none)
  ends_fine (suc n) r rs own none = turn_fine n r.calls _ rs (next_turn i r) (ends_fine n) none own

pub stops_by_exit : (i : Image) (e : Export) (arguments : List Value) (n : ℕ) (rs : List Reply) → has_unknown_import i.imports ≡ false → AreOwn i.imports (λ r. (run_of_export i e arguments r n).calls) rs
    → StopsByExit i.imports (run_of_export i e arguments rs n)
stops_by_exit i e arguments n rs known own =
    let is = by_goes i e arguments n rs in
    let done = goes i n (first i e arguments) rs in
    let here : OwnAfter i known (first i e arguments).calls rs done =
    own ∙ ap (λ (x : ImageRun). replies i.imports x.calls) is ∙ ap (λ (l : List HostCall). replies i.imports (drop (length l) (calls_of i done))) (sym (first_calls i e arguments)) in
    let fine : StopsByExit i.imports (run_of done) = ends_fine i known n (first i e arguments) rs here (ap (exit_code i.imports) (first_calls i e arguments)) in
    subst (StopsByExit i.imports) (sym is) fine
