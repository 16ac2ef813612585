-- Runs of an exported function, after the start function.
use Rattle.std.proofs.Common.{◌≡◌, ℕ, ◌*◌, ◌==◌, if◌then◌else◌, [], ◌∷◌, ◌++◌, List, length, Option, None, Some, refl, sym, ap, ◌∙◌, subst}
use Rattle.std.specs.Prelude.{◌≢◌, take}
use Rattle.std.proofs.lemmas.Bool.{eq-eqb, ne_eqb}
use Rattle.std.proofs.lemmas.List.{append-nil}
use Rattle.rv_isa.specs.Steps.{Bytes, State}
use Rattle.wasm_defs.specs.declared.types.ValType.{ValType}
use Rattle.wasm_defs.specs.Values.{Value}
use Rattle.wasm_defs.specs.Memory.{page}
use Rattle.wasm_defs.specs.Host.{HostCall, Reply}
use Rattle.image_format.specs.Contents.{Image}
use Rattle.image_format.specs.declared.image.Export.{Export}
use Rattle.image_format.specs.Environment.{Entry, entered}
use Rattle.image_format.specs.ImageRun.{Running, Stepping, steps, run_of, begin, results_at, globals_of}
use Rattle.image_run.specs.declared.outcome.Outcome.{Outcome}
use Rattle.image_run.specs.declared.outcome.Outcome.TheVariants.{Returned}
use Rattle.image_run.specs.Hosts.{Leads}
use Rattle.image_run.specs.Ends.{IsEnd, RunsTo, run_of_export}
use Rattle.image_run.specs.States.{at, IsLoaded}
use Rattle.image_run.specs.Answers.{Comes, Runs, Begins, Starts, run_with}
use Rattle.image_run.proofs.LeadLaws.{leads_append}
use Rattle.image_run.proofs.ResultLaws.{results_counted}

if_zero : (n : ℕ) (x y : Running) → n ≡ 0 → (if n == 0 then x else y) ≡ x
if_zero n x y e = rw (eq-eqb n 0 e) refl

if_not : (n : ℕ) (x y : Running) → n ≢ 0 → (if n == 0 then x else y) ≡ y
if_not n x y ne = rw (ne_eqb n 0 ne) refl

abbrev start_of : Image → Entry
start_of i = record { offset = i.start; arguments = [] }

-- what is called first
begin_is : (i : Image) (bytes : Bytes) (pages : ℕ) (e : Entry × List ValType) (replies : List Reply) (later : List (Entry × List ValType)) → IsLoaded i bytes → pages ≡ i.pages → begin i replies e later ≡ at (entered pages bytes e.0) pages [] replies e.1 later
unfolding IsLoaded
begin_is i bytes pages e replies later is same =
    ap (λ (b : Bytes). at (entered i.pages b e.0) i.pages [] replies e.1 later) (sym is)
    ∙ ap (λ (n : ℕ). at (entered n bytes e.0) n [] replies e.1 later) (sym same)

module _ (i : Image) (bytes : Bytes) (pages n : ℕ) (is : IsLoaded i bytes) (same : pages ≡ i.pages) (e : Entry × List ValType) (replies : List Reply) where
  pub without_start : i.start ≡ 0 → run_with i n e replies ≡ steps i n (at (entered pages bytes e.0) pages [] replies e.1 [])
  unfolding run_with
  without_start none =
      ap (λ (r : Running). steps i n r) (if_zero i.start (begin i replies e []) (begin i replies (start_of i, []) (e ∷ [])) none ∙ begin_is i bytes pages e replies [] is same)

  pub with_start : i.start ≢ 0 → run_with i n e replies ≡ steps i n (at (entered pages bytes (start_of i)) pages [] replies [] (e ∷ []))
  unfolding run_with
  with_start some =
      ap (λ (r : Running). steps i n r) (if_not i.start (begin i replies e []) (begin i replies (start_of i, []) (e ∷ [])) some ∙ begin_is i bytes pages (start_of i, []) replies (e ∷ []) is same)

module _ (H : Type 0) (Calls : H → HostCall → Reply → H → Type 0) (i : Image) (from : H) (n : ℕ) where
  -- there is no start function
  pub starts_at_once : (s : State) (pages : ℕ) → IsLoaded i s.bytes → pages ≡ i.pages → i.start ≡ 0 → Starts Calls i from from s pages n n None
  starts_at_once s pages is same none = record {
    calls = [];
    replies = [];
    leads = refl;
    begins = λ more e. without_start i s.bytes pages n is same e more none;
  }

  -- the start function has run
  came : (ended : Option Outcome) (left : ℕ) (new : State) (pages : ℕ) (calls : List HostCall) (more : List Reply) (e : Entry × List ValType) (x y : Stepping) → x ≡ y
      → Comes ended i left (at new pages calls more [] (e ∷ [])) y → Begins ended i left new pages calls more e x
  came None left new pages calls more e x y same h = same ∙ h
  came (Some o) left new pages calls more e x y same h =
      subst (λ (z : Stepping). ((run_of z).calls ≡ calls) × IsEnd o (take (page * pages) new.bytes.memory) [] (run_of z).end) (sym same) h

  pub starts_by : (bytes : Bytes) (first new : State) (pages pages_now left : ℕ) (to : H) (ended : Option Outcome) → IsLoaded i bytes → pages ≡ i.pages → i.start ≢ 0 → first ≡ entered pages bytes (start_of i)
      → Runs Calls i from to first new pages pages_now n left ended → Starts Calls i from to new pages_now n left ended
  starts_by bytes first new pages pages_now left to ended is same some entry h = record {
    calls = h.calls;
    replies = h.replies;
    leads = h.leads;
    begins = λ more e.
        let begun = with_start i bytes pages n is same e (h.replies ++ more) some ∙ ap (λ (s : State). steps i n (at s pages [] (h.replies ++ more) [] (e ∷ []))) (sym entry) in
        came ended left new pages_now h.calls more e _ _ begun (h.comes [] more [] (e ∷ []));
  }

  -- ---- the exported function

  module _ (e : Export) (arguments : List Value) where
    abbrev called : Entry × List ValType
    called = (record { offset = e.offset; arguments = arguments }, e.signature.results)

    by_run : (replies : List Reply) → run_of_export i e arguments replies n ≡ run_of (run_with i n called replies)
    unfolding run_of_export run_with
    by_run replies = refl

    -- the run is over
    runs_to : (to : H) (outcome : Outcome) (memory : List ℕ) (results : List Value) (calls : List HostCall) (replies : List Reply) → Leads Calls from calls replies to
        → (run_of (run_with i n called replies)).calls ≡ calls → IsEnd outcome memory results (run_of (run_with i n called replies)).end → RunsTo Calls i e arguments n from to outcome memory results
    runs_to to outcome memory results calls replies leads are end = record {
      replies = replies;
      leads = rw (by_run replies) (subst (λ (l : List HostCall). Leads Calls from l replies to) (sym are) leads);
      end = rw (by_run replies) end;
    }

    -- it was over in the start function
    pub over_at_start : (s : State) (pages left : ℕ) (to : H) (outcome : Outcome) → Starts Calls i from to s pages n left (Some outcome) → RunsTo Calls i e arguments n from to outcome (take (page * pages) s.bytes.memory) []
    over_at_start s pages left to outcome h =
        let b = h.begins [] called in
        let all = append-nil h.replies in
        let fact : List Reply → Type 0 = λ rs. ((run_of (run_with i n called rs)).calls ≡ h.calls) × IsEnd outcome (take (page * pages) s.bytes.memory) [] (run_of (run_with i n called rs)).end in
        let c = subst fact all b in
        runs_to to outcome (take (page * pages) s.bytes.memory) [] h.calls h.replies h.leads c.0 c.1

    module _ (s first new : State) (pages pages_now left left_now : ℕ) (between to : H) (begun : Starts Calls i from between s pages n left None) (entry : first ≡ entered pages s.bytes called.0) where
      module _ (ended : Option Outcome) (h : Runs Calls i between to first new pages pages_now left left_now ended) where
        abbrev all_calls : List HostCall
        all_calls = begun.calls ++ h.calls

        led : Leads Calls from all_calls (begun.replies ++ (h.replies ++ [])) to
        led = leads_append H Calls from between to begun.calls h.calls begun.replies (h.replies ++ []) begun.leads (subst (λ (rs : List Reply). Leads Calls between h.calls rs to) (sym (append-nil h.replies)) h.leads)

        -- the steps after the start function
        goes : run_with i n called (begun.replies ++ (h.replies ++ [])) ≡ steps i left (at first pages begun.calls (h.replies ++ []) called.1 [])
        goes = begun.begins (h.replies ++ []) called ∙ ap (λ (t : State). steps i left (at t pages begun.calls (h.replies ++ []) called.1 [])) (sym entry)

        comes : Comes ended i left_now (at new pages_now all_calls [] called.1 []) (run_with i n called (begun.replies ++ (h.replies ++ [])))
        comes = subst (λ (x : Stepping). Comes ended i left_now (at new pages_now all_calls [] called.1 []) x) (sym goes) (h.comes begun.calls [] called.1 [])

      pub over_then : (outcome : Outcome) → Runs Calls i between to first new pages pages_now left left_now (Some outcome) → RunsTo Calls i e arguments n from to outcome (take (page * pages_now) new.bytes.memory) []
      over_then outcome h =
          let c = comes (Some outcome) h in
          runs_to to outcome (take (page * pages_now) new.bytes.memory) [] (all_calls (Some outcome) h) (begun.replies ++ (h.replies ++ [])) (led (Some outcome) h) c.0 c.1

      pub returns_then : (count : ℕ) → Runs Calls i between to first new pages pages_now left left_now None → count ≡ length e.signature.results
          → RunsTo Calls i e arguments n from to (Returned count) (take (page * pages_now) new.bytes.memory) (results_at new.bytes.stack 0 e.signature.results)
      returns_then count h is =
          let c = comes None h in
          let memory = take (page * pages_now) new.bytes.memory in
          let results = results_at new.bytes.stack 0 e.signature.results in
          let globals = globals_of (at new pages_now (all_calls None h) [] called.1 []) in
          runs_to to (Returned count) memory results (all_calls None h) (begun.replies ++ (h.replies ++ [])) (led None h)
          (ap (λ (x : Stepping). (run_of x).calls) c)
          (is ∙ sym (results_counted new.bytes.stack 0 e.signature.results), globals, ap (λ (x : Stepping). (run_of x).end) c)
