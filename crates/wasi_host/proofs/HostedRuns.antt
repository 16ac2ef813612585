-- Runs with the host, over a sink.
use Rattle.std.proofs.Common.{◌≡◌, ℕ, ◌+◌, ◌≤◌, ◌<◌, ◌⊎◌, inl, inr, Bool, true, false, List, [], ◌∷◌, ◌++◌, take, drop, length, Option, None, Some, refl, sym, ap, ◌∙◌, subst, append_assoc, length-append, arith}
use Rattle.std.specs.Prelude.{IsSome}
use Rattle.std.proofs.lemmas.Bool.{cases_Bool}
use Rattle.std.proofs.lemmas.List.{take_at, take-append-le, take-append-drop, length-map, append-nil}
use Rattle.std.specs.Io.KnownBytes.{append_known}
use Rattle.wasm_defs.specs.Values.{Value}
use Rattle.wasm_defs.specs.Host.{HostCall, Reply, Stop}
use Rattle.wasm_defs.specs.ModuleRun.{Returns, Traps, Stops, Going}
use Rattle.io_edges.specs.Causes.{Rose}
use Rattle.io_edges.specs.Streams.{WritesText}
use Rattle.io_edges.proofs.Known.{append_more, append_nothing}
use Rattle.image_format.specs.Contents.{Image}
use Rattle.image_format.specs.declared.image.Export.{Export}
use Rattle.image_format.specs.declared.image.Import.{Import}
use Rattle.image_format.specs.ImageRun.{Ending, As, Fault, ImageRun}
use Rattle.image_run.specs.declared.outcome.Outcome.{Outcome}
use Rattle.image_run.specs.declared.outcome.Outcome.TheVariants as outcome
use Rattle.image_run.specs.declared.outcome.Outcome.TheVariants.{HostStopped}
use Rattle.image_run.specs.Hosts.{Leads}
use Rattle.image_run.specs.Checks.{has_unknown_import}
use Rattle.image_run.specs.Ends.{IsEnd, IsUnstopped, RunsTo, run_of_export}
use Rattle.image_run.proofs.PrintLaws.{past}
use Rattle.wasi_host.specs.declared.run_end.RunEnd.{RunEnd}
use Rattle.wasi_host.specs.Answers.{answer_of, bytes_written, replies}
use Rattle.wasi_host.specs.ExitCodes.{code_of_call, exit_code, last_of}
use Rattle.wasi_host.specs.Hosted.{HostsRun, code_of_end, outcome_of}
use Rattle.wasi_host.specs.Own.{AreOwn}
use Rattle.wasi_host.specs.Sinks.{Answers}
use Rattle.wasi_host.proofs.ExitLaws.{last_of-last_of, last_of-none}
use Rattle.wasi_host.proofs.HostedEnds.{stops_by_exit}
use Rattle.wasi_host.proofs.OwnReplies.{Completed, alike_calls, calls_with, completed, few_calls}

bytes_then : (imports : List Import) (front behind : List HostCall) → bytes_written imports (front ++ behind) ≡ bytes_written imports front ++ bytes_written imports behind
bytes_then imports [] behind = refl
bytes_then imports (c ∷ front) behind =
    ap (λ (l : List ℕ). (answer_of imports c).bytes ++ l) (bytes_then imports front behind)
    ∙ sym (append_assoc (answer_of imports c).bytes (bytes_written imports front) (bytes_written imports behind))

-- the text of calls up to one, and after it
bytes_up_to : (imports : List Import) (front : List HostCall) (call : HostCall) (calls behind : List HostCall) → calls ≡ (front ++ call ∷ []) ++ behind
    → bytes_written imports calls ≡ bytes_written imports front ++ ((answer_of imports call).bytes ++ bytes_written imports behind)
bytes_up_to imports front call calls behind is =
    ap (bytes_written imports) (is ∙ append_assoc front (call ∷ []) behind) ∙ bytes_then imports front (call ∷ behind)

front_cut : (front text behind : List ℕ) (n : ℕ) → n ≤ length text → take (length front + n) (front ++ (text ++ behind)) ≡ front ++ take n text
front_cut front text behind n inside = past front (text ++ behind) n ∙ ap (λ (l : List ℕ). front ++ l) (take-append-le n text behind inside)

stopped_by : (outcome : Outcome) (memory at_call : List ℕ) (results : List Value) (end : Ending) → IsEnd outcome memory results end → end ≡ As (Stops at_call) → outcome ≡ HostStopped
stopped_by (outcome.Returned n) memory at_call results end h e = absurd (let t : As (Stops at_call) ≡ As (Returns results memory h.1) = sym e ∙ h.2 in cc)
stopped_by (outcome.Trapped kind place) memory at_call results end h e = absurd (let t : As (Stops at_call) ≡ As (Traps kind place memory h.0) = sym e ∙ h.1 in cc)
stopped_by outcome.StepsSpent memory at_call results end h e = absurd (let t : As (Stops at_call) ≡ As Going = sym e ∙ h in cc)
stopped_by outcome.HostStopped memory at_call results end h e = refl
stopped_by (outcome.Fault kind pc) memory at_call results end h e = absurd (let t : As (Stops at_call) ≡ Fault kind pc = sym e ∙ h in cc)

-- a run that no reply stopped has another outcome
not_stopped : (outcome : Outcome) (memory : List ℕ) (results : List Value) (end : Ending) → IsEnd outcome memory results end → IsUnstopped end → outcome ≡ HostStopped → ⊥
not_stopped outcome memory results end h unstopped is =
    let stops : end ≡ As (Stops memory) = subst (λ (o : Outcome). IsEnd o memory results end) is h in
    subst IsUnstopped stops unstopped

module _ (H : Type 0) (Rel : H → HostCall → Reply → H → Type 0) (imports : List Import) (IsOf : H → Type 0) (is_open : H → Bool) (written : H → Option (List ℕ)) (faults : H → ℕ) (exit : H → Option ℕ)
    (says : (a b : H) (c : HostCall) (r : Reply) → IsOf a → Rel a c r b → IsOf b × (exit b ≡ last_of (exit a) (code_of_call imports c)) × Answers (is_open a) (is_open b) (answer_of imports c) r (written a) (written b) (faults a) (faults b)) where
  -- all calls were answered
  pub record AllAnswered (a b : H) (cs : List HostCall) (rs : List Reply) : Type 0 where
    pub replies_are : rs ≡ replies imports cs
    pub written_is : written b ≡ append_known (written a) (bytes_written imports cs)
    pub faults_are : faults b ≡ faults a
    pub open_is : is_open b ≡ true
    pub exit_is : exit b ≡ last_of (exit a) (exit_code imports cs)

  -- the sink took the bytes of those before a call, and failed at it
  pub record SomeAnswered (a b : H) (cs : List HostCall) (rs : List Reply) : Type 0 where
    pub front : List HostCall
    pub call : HostCall
    pub behind : List HostCall
    pub stops : List Reply
    pub calls : cs ≡ front ++ call ∷ behind
    pub replies_are : rs ≡ replies imports front ++ Stop ∷ stops
    pub count : ℕ
    pub inside : count < length (answer_of imports call).bytes
    pub written_is : written b ≡ append_known (written a) (bytes_written imports front ++ take count (answer_of imports call).bytes)
    pub failed : Rose (faults a) (faults b)
    pub shut : is_open b ≡ false

  -- a host stays one of these
  pub stays_of : (a b : H) (cs : List HostCall) (rs : List Reply) → IsOf a → Leads Rel a cs rs b → IsOf b
  stays_of a b [] [] of h = subst IsOf (sym h) of
  stays_of a b [] (r ∷ rs) of h = absurd h
  stays_of a b (c ∷ cs) [] of h = absurd h
  stays_of a b (c ∷ cs) (r ∷ rs) of h = stays_of h.0 b cs rs (says a h.0 c r of h.1).0 h.2

  -- a closed sink is left as it is
  closed : (a b : H) (cs : List HostCall) (rs : List Reply) → IsOf a → is_open a ≡ false → Leads Rel a cs rs b → (written b ≡ written a) × (faults b ≡ faults a) × (is_open b ≡ false)
  closed a b [] [] of shut h = (ap written h, ap faults h, ap is_open h ∙ shut)
  closed a b [] (r ∷ rs) of shut h = absurd h
  closed a b (c ∷ cs) [] of shut h = absurd h
  closed a b (c ∷ cs) (r ∷ rs) of shut h =
      let next = h.0 in
      let s = says a next c r of h.1 in
      let fact : Bool → Bool → Type 0 = λ before now. Answers before now (answer_of imports c) r (written a) (written next) (faults a) (faults next) in
      let p : fact false (is_open next) = subst (λ (o : Bool). fact o (is_open next)) shut s.2 in
      elim (cases_Bool (is_open next)) [
        | inl is ↦ absurd (subst (λ (o : Bool). fact false o) is p)
        | inr is ↦
            let q : fact false false = subst (λ (o : Bool). fact false o) is p in
            let rest = closed next b cs rs s.0 is h.2 in
            (rest.0 ∙ q.1, rest.1 ∙ q.2, rest.2)
      ]

  all_more : (a next b : H) (c : HostCall) (cs : List HostCall) (r : Reply) (rs : List Reply) → r ≡ (answer_of imports c).reply → WritesText true (answer_of imports c).bytes (written a) (written next) (faults a) (faults next)
      → exit next ≡ last_of (exit a) (code_of_call imports c) → AllAnswered next b cs rs → AllAnswered a b (c ∷ cs) (r ∷ rs)
  all_more a next b c cs r rs same w code h = record {
    replies_are = ap (λ (q : Reply). q ∷ rs) same ∙ ap (λ (qs : List Reply). (answer_of imports c).reply ∷ qs) h.replies_are;
    written_is = h.written_is ∙ ap (λ (k : Option (List ℕ)). append_known k (bytes_written imports cs)) w.0 ∙ append_more (written a) (answer_of imports c).bytes (bytes_written imports cs);
    faults_are = h.faults_are ∙ w.1;
    open_is = h.open_is;
    exit_is = h.exit_is ∙ ap (λ (x : Option ℕ). last_of x (exit_code imports cs)) code ∙ last_of-last_of (exit a) (code_of_call imports c) (exit_code imports cs);
  }

  some_more : (a next b : H) (c : HostCall) (cs : List HostCall) (r : Reply) (rs : List Reply) → r ≡ (answer_of imports c).reply → WritesText true (answer_of imports c).bytes (written a) (written next) (faults a) (faults next)
      → SomeAnswered next b cs rs → SomeAnswered a b (c ∷ cs) (r ∷ rs)
  some_more a next b c cs r rs same w h =
      let text = (answer_of imports c).bytes in
      let last = take h.count (answer_of imports h.call).bytes in
      record {
        front = c ∷ h.front;
        call = h.call;
        behind = h.behind;
        stops = h.stops;
        calls = ap (λ (l : List HostCall). c ∷ l) h.calls;
        replies_are = ap (λ (q : Reply). q ∷ rs) same ∙ ap (λ (qs : List Reply). (answer_of imports c).reply ∷ qs) h.replies_are;
        count = h.count;
        inside = h.inside;
        written_is = h.written_is ∙ ap (λ (k : Option (List ℕ)). append_known k (bytes_written imports h.front ++ last)) w.0
            ∙ append_more (written a) text (bytes_written imports h.front ++ last) ∙ ap (λ (l : List ℕ). append_known (written a) l) (sym (append_assoc text (bytes_written imports h.front) last));
        failed = subst (λ (n : ℕ). Rose n (faults b)) w.1 h.failed;
        shut = h.shut;
      }

  fails_at_once : (a next b : H) (c : HostCall) (cs : List HostCall) (r : Reply) (rs : List Reply) → r ≡ Stop → WritesText false (answer_of imports c).bytes (written a) (written next) (faults a) (faults next)
      → written b ≡ written next → faults b ≡ faults next → is_open b ≡ false → SomeAnswered a b (c ∷ cs) (r ∷ rs)
  fails_at_once a next b c cs r rs same w is are shut = record {
    front = [];
    call = c;
    behind = cs;
    stops = rs;
    calls = refl;
    replies_are = ap (λ (q : Reply). q ∷ rs) same;
    count = w.0;
    inside = w.3;
    written_is = is ∙ w.1;
    failed = subst (λ (n : ℕ). Rose (faults a) n) (sym are) w.2;
    shut = shut;
  }

  pub led : (a b : H) (cs : List HostCall) (rs : List Reply) → IsOf a → is_open a ≡ true → Leads Rel a cs rs b → AllAnswered a b cs rs ⊎ SomeAnswered a b cs rs
  led a b [] [] of open_now h = inl (record { replies_are = refl; written_is = ap written h ∙ sym (append_nothing (written a)); faults_are = ap faults h; open_is = ap is_open h ∙ open_now; exit_is = ap exit h })
  led a b [] (r ∷ rs) of open_now h = absurd h
  led a b (c ∷ cs) [] of open_now h = absurd h
  led a b (c ∷ cs) (r ∷ rs) of open_now h =
      let next = h.0 in
      let s = says a next c r of h.1 in
      let fact : Bool → Bool → Type 0 = λ before now. Answers before now (answer_of imports c) r (written a) (written next) (faults a) (faults next) in
      let p : fact true (is_open next) = subst (λ (o : Bool). fact o (is_open next)) open_now s.2 in
      elim (cases_Bool (is_open next)) [
        | inl is ↦
            let q : fact true true = subst (λ (o : Bool). fact true o) is p in
            elim (led next b cs rs s.0 is h.2) [
              | inl all ↦ inl (all_more a next b c cs r rs q.0 q.1 s.1 all)
              | inr some ↦ inr (some_more a next b c cs r rs q.0 q.1 some)
            ]
        | inr is ↦
            let q : fact true false = subst (λ (o : Bool). fact true o) is p in
            let rest = closed next b cs rs s.0 is h.2 in
            inr (fails_at_once a next b c cs r rs q.0 q.1 rest.0 rest.1 rest.2)
      ]

  -- ---- a whole run

  module _ (i : Image) (e : Export) (arguments : List Value) (n : ℕ) (from to : H) (of : IsOf from) (open_now : is_open from ≡ true) (fresh : exit from ≡ None)
      (outcome : Outcome) (memory : List ℕ) (results : List Value) (h : RunsTo Rel i e arguments n from to outcome memory results) where
    abbrev run : List Reply → ImageRun
    run rs = run_of_export i e arguments rs n

    abbrev real : ImageRun
    real = run h.replies

    -- the run, where the sink took all
    pub record Whole : Type 0 where
      pub replies_of : List Reply
      pub own : AreOwn imports (λ rs. (run rs).calls) replies_of
      pub end : IsEnd outcome memory results (run replies_of).end
      pub code_is : exit to ≡ exit_code imports (run replies_of).calls
      pub written_is : written to ≡ append_known (written from) (bytes_written imports (run replies_of).calls)
      pub faults_are : faults to ≡ faults from

    pub whole : is_open to ≡ true → Whole
    whole is =
        elim (led from to real.calls h.replies of open_now h.leads) [
          | inl p ↦ record {
            replies_of = h.replies;
            own = p.replies_are;
            end = h.end;
            code_is = p.exit_is ∙ ap (λ (x : Option ℕ). last_of x (exit_code imports real.calls)) fresh ∙ last_of-none (exit_code imports real.calls);
            written_is = p.written_is;
            faults_are = p.faults_are;
          }
          | inr q ↦ absurd (let t : true ≡ false = sym is ∙ q.shut in cc)
        ]

    pub whole_hosts : Whole → (end : RunEnd) → outcome_of end ≡ outcome → code_of_end end ≡ exit to → HostsRun (Some end) imports run memory results (written from) (written to)
    whole_hosts w end same code =
        (w.replies_of, w.own, subst (λ (o : Outcome). IsEnd o memory results (run w.replies_of).end) (sym same) w.end, sym w.code_is ∙ sym code, w.written_is)

    -- proc_exit was called exactly where the host stopped the run
    pub agree : i.imports ≡ imports → has_unknown_import imports ≡ false → Whole → (outcome ≡ HostStopped → IsSome (exit to)) × (IsSome (exit to) → outcome ≡ HostStopped)
    agree of_image known w =
        let fine = stops_by_exit i e arguments n w.replies_of (subst (λ (is : List Import). has_unknown_import is ≡ false) (sym of_image) known) (subst (λ (is : List Import). AreOwn is (λ rs. (run rs).calls) w.replies_of) (sym of_image) w.own) in
        let codes_are : exit_code i.imports (run w.replies_of).calls ≡ exit to = ap (λ (is : List Import). exit_code is (run w.replies_of).calls) of_image ∙ sym w.code_is in
        elim fine [
          | inl f ↦
              let none : exit to ≡ None = sym codes_are ∙ f.1 in (
                λ stopped. absurd (not_stopped outcome memory results (run w.replies_of).end w.end f.0 stopped),
                λ some. let t : false ≡ true = rw none at some in cc,
              )
          | inr f ↦
              let some : exit to ≡ Some f.0 = sym codes_are ∙ f.1 in
              (λ stopped. rw some refl, λ _. stopped_by outcome memory f.2 results (run w.replies_of).end w.end f.3)
        ]

    module _ (q : SomeAnswered from to real.calls h.replies) where
      abbrev front_replies : List Reply
      front_replies = replies imports q.front

      count_front : length front_replies ≡ length q.front
      count_front = length-map q.front (λ c. (answer_of imports c).reply)

      with_stop : run (front_replies ++ Stop ∷ q.stops) ≡ real
      with_stop = ap run (sym q.replies_are)

      -- the calls up to the one at which the sink failed
      up_to : (rest : List Reply) → take (length front_replies + 1) (run (front_replies ++ rest)).calls ≡ q.front ++ q.call ∷ []
      up_to rest =
          alike_calls i e arguments n front_replies rest (Stop ∷ q.stops) ∙ ap (λ (r : ImageRun). take (length front_replies + 1) r.calls) with_stop
          ∙ ap (take (length front_replies + 1)) (q.calls ∙ sym (append_assoc q.front (q.call ∷ []) q.behind))
          ∙ take_at (q.front ++ q.call ∷ []) q.behind (length front_replies + 1) (omega (arith, length-append q.front (q.call ∷ []), count_front))

      parts : (rest : List Reply) → (run (front_replies ++ rest)).calls ≡ (q.front ++ q.call ∷ []) ++ drop (length front_replies + 1) (run (front_replies ++ rest)).calls
      parts rest =
          sym (take-append-drop (length front_replies + 1) (run (front_replies ++ rest)).calls)
          ∙ ap (λ (l : List HostCall). l ++ drop (length front_replies + 1) (run (front_replies ++ rest)).calls) (up_to rest)

      first_front : front_replies ≡ take (length front_replies) (replies imports (run front_replies).calls)
      first_front =
          let calls = (run (front_replies ++ [])).calls in
          let more = drop (length front_replies + 1) calls in
          let is : calls ≡ q.front ++ (q.call ∷ more) = parts [] ∙ append_assoc q.front (q.call ∷ []) more in
          let same : replies imports calls ≡ front_replies ++ replies imports (q.call ∷ more) = ap (replies imports) is ∙ replies_then q.front (q.call ∷ more) in
          sym (take_at front_replies (replies imports (q.call ∷ more)) (length front_replies) refl) ∙ ap (take (length front_replies)) (sym same)
          ∙ ap (λ (rs : List Reply). take (length front_replies) (replies imports (run rs).calls)) (append-nil front_replies)
        where
          replies_then : (xs ys : List HostCall) → replies imports (xs ++ ys) ≡ replies imports xs ++ replies imports ys
          replies_then [] ys = refl
          replies_then (x ∷ xs) ys = ap (λ (l : List Reply). (answer_of imports x).reply ∷ l) (replies_then xs ys)

      ideal : Completed imports (calls_with i e arguments n) n (few_calls i e arguments n) (alike_calls i e arguments n) front_replies
      ideal = completed imports (calls_with i e arguments n) n (few_calls i e arguments n) (alike_calls i e arguments n) n front_replies (omega arith) first_front

      some_hosts : HostsRun None imports run memory results (written from) (written to)
      some_hosts =
          let k = length front_replies in
          let rest = ideal.rest in
          let calls = (run (front_replies ++ rest)).calls in
          let bytes = (answer_of imports q.call).bytes in
          let front = bytes_written imports q.front in
          let all : bytes_written imports calls ≡ front ++ (bytes ++ bytes_written imports (drop (k + 1) calls)) = bytes_up_to imports q.front q.call calls (drop (k + 1) calls) (parts rest) in
          let cut = front_cut front bytes (bytes_written imports (drop (k + 1) calls)) q.count (omega (arith, q.inside)) in
          (front_replies ++ rest, ideal.own, length front + q.count, q.written_is ∙ ap (append_known (written from)) (sym (ap (take (length front + q.count)) all ∙ cut)))

    -- where the sink failed, a prefix was written
    pub broken : is_open to ≡ false → HostsRun None imports run memory results (written from) (written to) × Rose (faults from) (faults to)
    broken is =
        elim (led from to real.calls h.replies of open_now h.leads) [
          | inl p ↦ absurd (let t : true ≡ false = sym p.open_is ∙ is in cc)
          | inr q ↦ (some_hosts q, q.failed)
        ]

    pub still_of : IsOf to
    still_of = stays_of from to real.calls h.replies of h.leads
