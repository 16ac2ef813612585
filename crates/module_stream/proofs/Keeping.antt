-- Bodies that are kept: what is left while none of them is validated.
use Rattle.std.proofs.Common.{◌≡◌, ◌≤◌, ◌+◌, ℕ, Bool, true, List, [], ◌++◌, length, drop, Some, Result, Ok, Err, refl, sym, ap, subst, ◌∙◌}
use Rattle.wasm_defs.specs.declared.fault.Refusal.{Refusal}
use Rattle.wasm_defs.specs.declared.front_stop.FrontStop.{FrontStop}
use Rattle.wasm_defs.specs.declared.front_stop.FrontStop.TheVariants as stop
use Rattle.wasm_defs.specs.Entries.{Seen}
use Rattle.wasm_defs.specs.Faults.{Rejected}
use Rattle.wasm_defs.specs.Outside.{Run, Refused, ends}
use Rattle.index_spaces.specs.Spaces.{Spaces}
use Rattle.section_reader.specs.declared.front.Front.{Front}
use Rattle.section_reader.specs.FrontLeft.{can_skip}
use Rattle.section_reader.specs.Onward.{after_parts}
use Rattle.body_cutter.specs.Bodies.{Body}
use Rattle.body_cutter.specs.Places.{Place}
use Rattle.body_cutter.specs.Cuttings.{Cutting, Handed, left, IsFed, IsRefused}
use Rattle.image_linker.specs.Judging.{IsVerdictOf}
use Rattle.module_stream.specs.Limits.{max_read}
use Rattle.module_stream.specs.declared.compilation.Compilation.{Compilation}
use Rattle.module_stream.specs.Codes.{Coding}
use Rattle.module_stream.specs.CutBodies.{counts_data, coded_all, cut_run, sections_behind}
use Rattle.module_stream.specs.Keeping.{with_kept, with_bodies, HasSectionError}
use Rattle.module_stream.specs.Progress.{IsJudging, CanTakeAll, TakesPart}
use Rattle.module_stream.specs.Streaming.{AreOpen, IsGoing, GoesOn, with_cutter}
use Rattle.module_stream.proofs.CutRuns.{cut_append}
use Rattle.module_stream.proofs.Cutting.{run_fed, count_fed, refused_run, rest_run, split_rest, rest_is}
use Rattle.module_stream.proofs.OpenBatches.{left_open}
use Rattle.module_stream.proofs.Streaming.{IsCutting, cutting_of, begun_of, going_cutting, taken_out, refused_at}
use Rattle.module_stream.proofs.Taking.{judging_on}

-- ---- what is left after bodies that were kept

kept_run : (seen : Seen) (kept : List Body) (c : Cutting) (more : List ℕ) → cut_run (counts_data seen) (left (with_kept kept c) more) (sections_behind seen c.place.at c.place.end more) ≡ after_parts (coded_all (counts_data seen) kept) (cut_run (counts_data seen) (left c more) (sections_behind seen c.place.at c.place.end more))
kept_run seen kept c more =
    split_rest seen (with_kept kept c) more
    ∙ cut_append (counts_data seen) kept c.queue.closed (rest_run seen c more)
    ∙ sym (ap (after_parts (coded_all (counts_data seen) kept)) (split_rest seen c more))

module _ (bytes : List ℕ) (f : Front) (kept : List Body) (spaces : Spaces) (codes : Coding) where
  module _ (old mid : Cutting) (piece more : List ℕ) (k : IsCutting bytes f (with_kept kept old) spaces codes (piece ++ more)) where
    pub kept_fed : (taken : ℕ) → IsFed old piece taken mid → IsCutting bytes f (with_kept kept mid) spaces codes (drop taken piece ++ more)
    kept_fed taken fed = record {
      few = k.few;
      judging = judging_on bytes (cut_run (counts_data f.steps.seen) (left (with_kept kept old) (piece ++ more)) (sections_behind f.steps.seen old.place.at old.place.end (piece ++ more)))
          (cut_run (counts_data f.steps.seen) (left (with_kept kept mid) (drop taken piece ++ more)) (sections_behind f.steps.seen mid.place.at mid.place.end (drop taken piece ++ more))) spaces codes
          (kept_run f.steps.seen kept old (piece ++ more) ∙ ap (after_parts (coded_all (counts_data f.steps.seen) kept)) (run_fed old mid piece taken fed f.steps.seen more) ∙ sym (kept_run f.steps.seen kept mid (drop taken piece ++ more)))
          k.judging;
      skips = subst (λ (n : ℕ). can_skip f n ≡ true) (sym fed.place.1) k.skips;
      count = count_fed old mid piece taken fed (length bytes) more k.count;
    }

    pub kept_refused : (r : Refusal) → IsRefused old piece r mid → IsJudging bytes (after_parts (coded_all (counts_data f.steps.seen) (kept ++ mid.queue.closed)) (ends (Refused r))) spaces codes
    kept_refused r refused =
        judging_on bytes (cut_run (counts_data f.steps.seen) (left (with_kept kept old) (piece ++ more)) (sections_behind f.steps.seen old.place.at old.place.end (piece ++ more))) (after_parts (coded_all (counts_data f.steps.seen) (kept ++ mid.queue.closed)) (ends (Refused r))) spaces codes
        (kept_run f.steps.seen kept old (piece ++ more)
        ∙ ap (after_parts (coded_all (counts_data f.steps.seen) kept)) (refused_run (counts_data f.steps.seen) old mid piece more r (sections_behind f.steps.seen old.place.at old.place.end (piece ++ more)) refused)
        ∙ sym (cut_append (counts_data f.steps.seen) kept mid.queue.closed (ends (Refused r))))
        k.judging

  module _ (old new : Cutting) (more : List ℕ) (k : IsCutting bytes f (with_kept kept old) spaces codes more) where
    -- the closed batches were taken out and kept
    pub kept_moved : (kept' : List Body) → new.place ≡ old.place → new.queue.closed ≡ [] → new.queue.begun ≡ old.queue.begun → kept' ≡ kept ++ old.queue.closed → IsCutting bytes f (with_kept kept' new) spaces codes more
    kept_moved kept' place closed begun is = record {
      few = k.few;
      judging = judging_on bytes (cut_run (counts_data f.steps.seen) (left (with_kept kept old) more) (sections_behind f.steps.seen old.place.at old.place.end more)) (cut_run (counts_data f.steps.seen) (left (with_kept kept' new) more) (sections_behind f.steps.seen new.place.at new.place.end more)) spaces codes
          (kept_run f.steps.seen kept old more
          ∙ ap (after_parts (coded_all (counts_data f.steps.seen) kept)) (split_rest f.steps.seen old more)
          ∙ sym (cut_append (counts_data f.steps.seen) kept old.queue.closed (rest_run f.steps.seen old more))
          ∙ ap (λ (l : List Body). after_parts (coded_all (counts_data f.steps.seen) l) (rest_run f.steps.seen old more)) (sym is)
          ∙ ap (after_parts (coded_all (counts_data f.steps.seen) kept')) (rest_is f.steps.seen old new more place closed begun)
          ∙ sym (kept_run f.steps.seen kept' new more))
          k.judging;
      skips = subst (λ (p : Place). can_skip f p.end ≡ true) (sym place) k.skips;
      count = subst (λ (p : Place). p.at + length more ≡ length bytes) (sym place) k.count;
    }

    -- the bodies that were kept come next
    pub kept_judging : IsJudging bytes (after_parts (coded_all (counts_data f.steps.seen) kept) (cut_run (counts_data f.steps.seen) (left old more) (sections_behind f.steps.seen old.place.at old.place.end more))) spaces codes
    kept_judging = judging_on bytes (cut_run (counts_data f.steps.seen) (left (with_kept kept old) more) (sections_behind f.steps.seen old.place.at old.place.end more))
        (after_parts (coded_all (counts_data f.steps.seen) kept) (cut_run (counts_data f.steps.seen) (left old more) (sections_behind f.steps.seen old.place.at old.place.end more))) spaces codes (kept_run f.steps.seen kept old more) k.judging

    -- and they were validated
    pub kept_judged : (later : Coding) → IsJudging bytes (cut_run (counts_data f.steps.seen) (left old more) (sections_behind f.steps.seen old.place.at old.place.end more)) spaces later → IsCutting bytes f old spaces later more
    kept_judged later j = record { few = k.few; judging = j; skips = k.skips; count = k.count }

-- the bodies of the batch that is begun are the same ones
kept_out : (least : ℕ) (kept : List Body) (c : Cutting) (more : List ℕ) → AreOpen least (left (with_kept kept c) more).queue.begun → AreOpen least (left c more).queue.begun
kept_out least kept c more begun = left_open least (with_kept kept c) c more refl refl refl begun

kept_begun : (least : ℕ) (kept kept' : List Body) (old mid new : Cutting) (piece more : List ℕ) (taken : ℕ) → IsFed old piece taken mid → new.place ≡ mid.place → new.queue.least ≡ mid.queue.least → new.queue.begun ≡ mid.queue.begun
    → AreOpen least (left (with_kept kept old) (piece ++ more)).queue.begun → AreOpen least (left (with_kept kept' new) (drop taken piece ++ more)).queue.begun
kept_begun least kept kept' old mid new piece more taken fed place same begun opens =
    left_open least mid (with_kept kept' new) (drop taken piece ++ more) place same begun
    (subst (λ (h : Handed). AreOpen least h.queue.begun) (fed.same more) (kept_out least kept old (piece ++ more) opens))

pub part_goes : (bytes : List ℕ) (run : Run) (e : FrontStop) (t : Compilation) (more : List ℕ) → TakesPart bytes (Err e) run t.spaces t.codes → GoesOn bytes (Err e) t more
part_goes bytes run (stop.Refused r) t more h = h
part_goes bytes run stop.NoMemory t more h = tt

-- ---- a compilation whose bodies are kept

module _ (bytes : List ℕ) (s : Compilation) where
  -- the cutter was taken out
  pub keeping_from : (t : Compilation) (c : Cutting) (more : List ℕ) → s.cutter ≡ Some c → t.batch ≡ s.batch → t.front ≡ s.front → t.spaces ≡ s.spaces → t.codes ≡ s.codes → IsGoing bytes s more → IsGoing bytes (with_bodies t [] c) more
  keeping_from t c more some batch front spaces codes g = taken_out bytes s t c more some batch front spaces codes g

  module _ (kept kept' : List Body) (old mid : Cutting) (piece more : List ℕ) (is : kept' ≡ kept ++ mid.queue.closed) (g : IsGoing bytes (with_bodies s kept old) (piece ++ more)) where
    cutting_now : IsCutting bytes s.front (with_kept kept old) s.spaces s.codes (piece ++ more)
    cutting_now = cutting_of bytes (with_bodies s kept old) (piece ++ more) (with_kept kept old) refl g

    -- bytes were cut, and the batches that closed were kept
    pub keeping_fed : (new : Cutting) (taken : ℕ) → IsFed old piece taken mid → new.place ≡ mid.place → new.queue.closed ≡ [] → new.queue.begun ≡ mid.queue.begun → new.queue.least ≡ mid.queue.least → IsGoing bytes (with_bodies s kept' new) (drop taken piece ++ more)
    keeping_fed new taken fed place closed begun least =
        going_cutting bytes (with_bodies s kept' new) (drop taken piece ++ more) (with_kept kept' new) refl
        (kept_moved bytes s.front kept s.spaces s.codes mid new (drop taken piece ++ more) (kept_fed bytes s.front kept s.spaces s.codes old mid piece more cutting_now taken fed) kept' place closed begun is)
        (kept_begun s.batch kept kept' old mid new piece more taken fed place least begun (begun_of bytes (with_bodies s kept old) (piece ++ more) (with_kept kept old) refl g))

    -- their section has an error
    pub keeping_refused : (r : Refusal) → IsRefused old piece r mid → HasSectionError bytes s kept' r
    keeping_refused r refused =
        subst (λ (l : List Body). HasSectionError bytes s l r) (sym is)
        (kept_refused bytes s.front kept s.spaces s.codes old mid piece more cutting_now r refused)

-- validating these bodies comes to this, whatever comes after them
abbrev pub JudgesAll : (s t : Compilation) → List Body → Result (Unit {0}) FrontStop → Type 0
JudgesAll s t kept r = (bytes : List ℕ) (run : Run) (counted : Bool) → length bytes ≤ max_read → IsJudging bytes (after_parts (coded_all counted kept) run) s.spaces s.codes → TakesPart bytes r run t.spaces t.codes

module _ (bytes : List ℕ) (s t : Compilation) (kept : List Body) where
  module _ (c : Cutting) (more : List ℕ) (g : IsGoing bytes (with_bodies s kept c) more) where
    abbrev behind_kept : Run
    behind_kept = cut_run (counts_data s.front.steps.seen) (left c more) (sections_behind s.front.steps.seen c.place.at c.place.end more)

    cutting_here : IsCutting bytes s.front (with_kept kept c) s.spaces s.codes more
    cutting_here = cutting_of bytes (with_bodies s kept c) more (with_kept kept c) refl g

    kept_next : IsJudging bytes (after_parts (coded_all (counts_data s.front.steps.seen) kept) behind_kept) s.spaces s.codes
    kept_next = kept_judging bytes s.front kept s.spaces s.codes c c more cutting_here

    -- the bodies can be validated
    pub keeping_can : CanTakeAll s.spaces s.codes kept
    keeping_can = (bytes, behind_kept, g.few, counts_data s.front.steps.seen, kept_next)

    -- they are valid
    pub keeping_judged : t.batch ≡ s.batch → t.spaces ≡ s.spaces → t.front ≡ s.front → JudgesAll s t kept (Ok tt) → IsGoing bytes (with_cutter t c) more
    keeping_judged batch spaces front takes =
        let j = subst (λ (x : Spaces). IsJudging bytes behind_kept x t.codes) spaces (takes bytes behind_kept (counts_data s.front.steps.seen) g.few kept_next) in
        going_cutting bytes (with_cutter t c) more c refl (rw (front, spaces) (kept_judged bytes s.front kept s.spaces s.codes c c more cutting_here t.codes j))
        (subst (λ (n : ℕ). AreOpen n (left c more).queue.begun) (sym batch) (kept_out s.batch kept c more (begun_of bytes (with_bodies s kept c) more (with_kept kept c) refl g)))

    -- one is not
    pub keeping_stops : (e : FrontStop) (later : List ℕ) → JudgesAll s t kept (Err e) → GoesOn bytes (Err e) t later
    keeping_stops e later takes = part_goes bytes behind_kept e t later (takes bytes behind_kept (counts_data s.front.steps.seen) g.few kept_next)

  module _ (r : Refusal) (few : length bytes ≤ max_read) (j : HasSectionError bytes s kept r) where
    pub faulty_can : CanTakeAll s.spaces s.codes kept
    faulty_can = (bytes, ends (Refused r), few, counts_data s.front.steps.seen, j)

    -- one of the bodies has an error, or else their section has
    pub faulty_body : (e : FrontStop) (more : List ℕ) → JudgesAll s t kept (Err e) → GoesOn bytes (Err e) t more
    faulty_body e more takes = part_goes bytes (ends (Refused r)) e t more (takes bytes (ends (Refused r)) (counts_data s.front.steps.seen) few j)

    pub section_refused : JudgesAll s t kept (Ok tt) → IsVerdictOf bytes (Rejected r)
    section_refused takes = refused_at bytes t.spaces t.codes (Refused r) r refl (takes bytes (ends (Refused r)) (counts_data s.front.steps.seen) few j)
