-- Bodies that are kept: what is left while none of them is validated.
use Rattle.std.proofs.Common.{◌≡◌, ◌≤◌, ◌<◌, ◌-◌, ◌^◌, ℕ, Bool, List, [], ◌∷◌, ◌++◌, length, drop, Option, Some, None, Ok, Err, refl, sym, ap, subst, ◌∙◌, arith, append_assoc}
use Rattle.std.proofs.lemmas.List.{append-nil}
use Rattle.std.specs.Arc.{arc_value}
use Rattle.std.specs.declared.alloc.Global.{Global}
use Rattle.std.specs.declared.sync.Arc.{Arc}
use Rattle.wasm_defs.specs.declared.fault.Refusal.{Refusal}
use Rattle.wasm_defs.specs.declared.front_stop.FrontStop.{FrontStop}
use Rattle.wasm_defs.specs.declared.front_stop.FrontStop.TheVariants as stop
use Rattle.body_cutter.specs.declared.batch.Batch.{Batch}
use Rattle.body_cutter.specs.Bodies.{Body}
use Rattle.body_cutter.specs.Cuttings.{Cutting, IsFed, IsRefused, Takes}
use Rattle.module_stream.specs.Limits.{max_read}
use Rattle.module_stream.specs.declared.compilation.Compilation.{Compilation}
use Rattle.source_reading.specs.declared.intake.Intake.{Intake}
use Rattle.source_reading.specs.Arriving.{IsArriving, has_failed}
use Rattle.source_reading.specs.Chunks.{Chunked}
use Rattle.module_stream.specs.Keeping.{with_kept}
use Rattle.module_stream.specs.Kept.{kept_bodies}
use Rattle.source_reading.specs.Keeping.{keeping, IsFaulty}
use Rattle.module_stream.specs.Progress.{CanTakeAll}
use Rattle.source_reading.specs.Reading.{Settled}
use Rattle.module_stream.specs.Streaming.{IsGoing, GoesOn, with_cutter}
use Rattle.source_reading.proofs.Arriving.{goes_on, few_all, stops_there}
use Rattle.module_stream.proofs.Cutting.{closed_taken}
use Rattle.module_stream.proofs.Keeping.{JudgesAll, keeping_fed, keeping_refused, keeping_can, keeping_judged, keeping_stops, faulty_can, faulty_body, section_refused}
use Rattle.module_stream.proofs.Streaming.{reading_of, going_reading, taken_out}

-- ---- bodies that are read

kept_push : (kept : List (Arc Batch Global)) (b : Arc Batch Global) → kept_bodies (kept ++ b ∷ []) ≡ kept_bodies kept ++ (arc_value b).bodies
kept_push [] b = append-nil (arc_value b).bodies
kept_push (x ∷ kept) b = ap (λ (l : List Body). (arc_value x).bodies ++ l) (kept_push kept b) ∙ sym (append_assoc (arc_value x).bodies (kept_bodies kept) (arc_value b).bodies)

-- a batch was taken out of the cutter, and its bodies are kept
pub kept_taken : (kept kept' : List (Arc Batch Global)) (b : Arc Batch Global) (batch : Batch) (old new : Cutting) (all : List Body) → kept' ≡ kept ++ b ∷ [] → (arc_value b).bodies ≡ batch.bodies
    → Takes old (Some batch) new → kept_bodies kept ++ old.queue.closed ≡ all → kept_bodies kept' ++ new.queue.closed ≡ all
kept_taken kept kept' b batch old new all more same takes e =
    ap (λ (l : List (Arc Batch Global)). kept_bodies l ++ new.queue.closed) more
    ∙ ap (λ (l : List Body). l ++ new.queue.closed) (kept_push kept b)
    ∙ append_assoc (kept_bodies kept) (arc_value b).bodies new.queue.closed
    ∙ ap (λ (l : List Body). kept_bodies kept ++ (l ++ new.queue.closed)) same
    ∙ sym (ap (λ (l : List Body). kept_bodies kept ++ l) (closed_taken old new batch takes))
    ∙ e

module _ (first : Option (List ℕ)) (before : ℕ) (left_now : Option (List ℕ)) (now : ℕ) (may_read : Bool) (s : Compilation) (i j : Intake) (mid : Cutting)
    (kept : kept_bodies j.kept.items ≡ kept_bodies i.kept.items ++ mid.queue.closed) (a : IsArriving None first before left_now now may_read (keeping s i) i.chunk) where
  pub piece_taken : (taken : ℕ) → IsFed i.cutter i.chunk.pending taken mid → j.cutter.place ≡ mid.place → j.cutter.queue.closed ≡ [] → j.cutter.queue.begun ≡ mid.queue.begun → j.cutter.queue.least ≡ mid.queue.least → j.chunk ≡ record i.chunk { pending = drop taken i.chunk.pending }
      → IsArriving None first before left_now now may_read (keeping s j) j.chunk
  piece_taken taken fed place closed begun least chunk =
      goes_on None first before left_now now may_read (keeping s i) i.chunk a (keeping s j) j.chunk refl (ap (λ (c : Chunked). c.count) chunk) (ap (λ (c : Chunked). c.came) chunk)
      (λ bytes more g. subst (λ (c : Chunked). IsGoing bytes (keeping s j) (c.pending ++ more)) (sym chunk)
      (keeping_fed bytes s (kept_bodies i.kept.items) (kept_bodies j.kept.items) i.cutter mid i.chunk.pending more kept g j.cutter taken fed place closed begun least))

  pub piece_refused : (r : Refusal) → IsRefused i.cutter i.chunk.pending r mid → j.chunk ≡ i.chunk → IsFaulty first before left_now now may_read s j r
  piece_refused r refused chunk = record {
    was = keeping s i;
    chunk = i.chunk;
    arrived = a;
    same = ap (λ (c : Chunked). c.came) (sym chunk);
    judging = λ more few. keeping_refused ((a.came ++ a.piece) ++ more) s (kept_bodies i.kept.items) (kept_bodies j.kept.items) i.cutter mid i.chunk.pending more kept (a.going more few) r refused;
  }

-- ---- the bodies were read in parallel with workers

module _ (first : Option (List ℕ)) (before : ℕ) (left_now : Option (List ℕ)) (now : ℕ) (may_read : Bool) where
  -- no body comes next
  pub none_kept : (s t : Compilation) (c : Chunked) → s.cutter ≡ None → t ≡ record s { cutter = None } → IsArriving None first before left_now now may_read s c → IsArriving None first before left_now now may_read t c
  none_kept s t c none is a = subst (λ (x : Compilation). IsArriving None first before left_now now may_read x c) (sym is)
      (goes_on None first before left_now now may_read s c a (record s { cutter = None }) c refl refl refl (λ bytes more g. going_reading bytes (record s { cutter = None }) (c.pending ++ more) refl (reading_of bytes s (c.pending ++ more) none g)))

  -- the cutter was taken out, and put back
  pub put_back : (s t u : Compilation) (k : Cutting) (c : Chunked) → s.cutter ≡ Some k → t ≡ record s { cutter = None } → u ≡ with_cutter t k → IsArriving None first before left_now now may_read s c
      → IsArriving None first before left_now now may_read u c
  put_back s t u k c some out back a =
      subst (λ (x : Compilation). IsArriving None first before left_now now may_read x c) (sym (back ∙ ap (λ (x : Compilation). with_cutter x k) out ∙ (λ i. record s { cutter = sym some i }))) a

  pub keeping_begins : (s t : Compilation) (i : Intake) → s.cutter ≡ Some i.cutter → t ≡ record s { cutter = None } → i.kept.items ≡ [] → IsArriving None first before left_now now may_read s i.chunk → IsArriving None first before left_now now may_read (keeping t i) i.chunk
  keeping_begins s t i some is none a = subst (λ (x : Compilation). IsArriving None first before left_now now may_read (keeping x i) i.chunk) (sym is)
      (goes_on None first before left_now now may_read s i.chunk a (keeping (record s { cutter = None }) i) i.chunk refl refl refl
      (λ bytes more g. subst (λ (l : List Body). IsGoing bytes (with_cutter s (with_kept l i.cutter)) (i.chunk.pending ++ more)) (sym (ap kept_bodies none))
      (taken_out bytes s s i.cutter (i.chunk.pending ++ more) some refl refl refl refl g)))

  module _ (s t : Compilation) (i : Intake) (batch : t.batch ≡ s.batch) (spaces : t.spaces ≡ s.spaces) (front : t.front ≡ s.front) where
    abbrev kept : List Body
    kept = kept_bodies i.kept.items

    module _ (a : IsArriving None first before left_now now may_read (keeping s i) i.chunk) where
      abbrev came : List ℕ
      came = a.came ++ a.piece

      pub can_judge : CanTakeAll s.spaces s.codes kept
      can_judge =
          let few = few_all None first before left_now now may_read (keeping s i) i.chunk a in
          let e = append-nil came in
          keeping_can (came ++ []) s s kept i.cutter (i.chunk.pending ++ []) (a.going [] (omega (arith, ap length e)))

      pub judged_on : JudgesAll s t kept (Ok tt) → IsArriving None first before left_now now may_read (with_cutter t i.cutter) i.chunk
      judged_on takes = goes_on None first before left_now now may_read (keeping s i) i.chunk a (with_cutter t i.cutter) i.chunk batch refl refl
          (λ bytes more g. keeping_judged bytes s t kept i.cutter (i.chunk.pending ++ more) g batch spaces front takes)

      pub judged_stops : (e : FrontStop) → JudgesAll s t kept (Err e) → before < 2 ^ 64 - 1 → Settled None (has_failed i.chunk.came) (Err e) t first left_now before now
      judged_stops e takes low = stops_there None first before left_now now may_read (keeping s i) i.chunk a e t
          (λ more few. keeping_stops (came ++ more) s t kept i.cutter (i.chunk.pending ++ more) (a.going more few) e more takes) low

    module _ (r : Refusal) (f : IsFaulty first before left_now now may_read s i r) where
      abbrev all_came : List ℕ
      all_came = f.arrived.came ++ f.arrived.piece

      pub can_judge_faulty : CanTakeAll s.spaces s.codes kept
      can_judge_faulty =
          let few = few_all None first before left_now now may_read f.was f.chunk f.arrived in
          let e = append-nil all_came in
          let short : length (all_came ++ []) ≤ max_read = omega (arith, ap length e) in
          faulty_can (all_came ++ []) s s kept r short (f.judging [] short)

      failed_same : has_failed f.chunk.came ≡ has_failed i.chunk.came
      failed_same = ap has_failed f.same

      pub faulty_stops : (e : FrontStop) → ((more : List ℕ) → length (all_came ++ more) ≤ max_read → GoesOn (all_came ++ more) (Err e) t more) → before < 2 ^ 64 - 1 → Settled None (has_failed i.chunk.came) (Err e) t first left_now before now
      faulty_stops e goes low = subst (λ (b : Bool). Settled None b (Err e) t first left_now before now) failed_same (stops_there None first before left_now now may_read f.was f.chunk f.arrived e t goes low)

      -- a body is wrong
      pub faulty_judged : (e : FrontStop) → JudgesAll s t kept (Err e) → before < 2 ^ 64 - 1 → Settled None (has_failed i.chunk.came) (Err e) t first left_now before now
      faulty_judged e takes low = faulty_stops e (λ more few. faulty_body (all_came ++ more) s t kept r few (f.judging more few) e more takes) low

      -- none is
      pub faulty_section : JudgesAll s t kept (Ok tt) → before < 2 ^ 64 - 1 → Settled None (has_failed i.chunk.came) (Err (stop.Refused r)) t first left_now before now
      faulty_section takes low = faulty_stops (stop.Refused r) (λ more few. section_refused (all_came ++ more) s t kept r few (f.judging more few) takes) low
