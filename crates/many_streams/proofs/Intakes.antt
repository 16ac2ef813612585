-- Bodies of a module that are kept: bytes are taken.
use Rattle.std.proofs.Common.{◌≡◌, ◌<◌, ℕ, true, false, List, [], ◌++◌, length, drop, Option, Some, None, Ok, Err, sym, ap, subst, ◌∙◌, arith, append_assoc, true≢false}
use Rattle.std.specs.Prelude.{is_some}
use Rattle.std.proofs.lemmas.List.{drop_all}
use Rattle.wasm_defs.specs.declared.fault.Refusal.{Refusal}
use Rattle.wasm_defs.specs.declared.front_stop.FrontStop.{FrontStop}
use Rattle.wasm_defs.specs.Faults.{Rejected}
use Rattle.body_cutter.specs.Bodies.{Body}
use Rattle.body_cutter.specs.Places.{Place}
use Rattle.body_cutter.specs.Cuttings.{Cutting, is_whole, IsFed, IsRefused}
use Rattle.image_linker.specs.Judging.{IsVerdictOf}
use Rattle.module_stream.specs.declared.compilation.Compilation.{Compilation}
use Rattle.module_stream.specs.Keeping.{with_bodies}
use Rattle.module_stream.specs.Kept.{kept_bodies}
use Rattle.module_stream.specs.Progress.{CanTakeAll}
use Rattle.module_stream.specs.Streaming.{IsGoing, GoesOn, with_cutter}
use Rattle.module_stream.proofs.Cutting.{all_taken}
use Rattle.module_stream.proofs.Keeping.{JudgesAll, keeping_from, keeping_fed, keeping_refused, keeping_can, keeping_judged, keeping_stops, faulty_can, faulty_body, section_refused}
use Rattle.module_stream.proofs.Sharing.{not_kept}
use Rattle.many_streams.specs.declared.intake.Intake.{Intake}
use Rattle.many_streams.specs.Intakes.{KeepsBy, Keeps}

module _ (bytes : List ℕ) (s : Compilation) (i : Intake) (piece more : List ℕ) where
  -- the section's error is known
  pub keeps_passed : is_some i.error ≡ true → Keeps bytes s i (piece ++ more) → Keeps bytes s i more
  keeps_passed some k = of i.error some k
    where
      of : (o : Option Refusal) → is_some o ≡ true → KeepsBy o bytes s i (piece ++ more) → KeepsBy o bytes s i more
      of None e k = absurd (true≢false (sym e))
      of (Some r) e k = k

  module _ (none : is_some i.error ≡ false) (k : Keeps bytes s i (piece ++ more)) where
    here : KeepsBy None bytes s i (piece ++ more)
    here = subst (λ (o : Option Refusal). KeepsBy o bytes s i (piece ++ more)) (not_kept i.error none) k

    -- the section is whole
    pub keeps_rest : (j : Intake) → is_whole i.cutter ≡ true → j.error ≡ i.error → j.cutter ≡ i.cutter → j.kept ≡ i.kept → j.rest.items ≡ i.rest.items ++ piece → Keeps bytes s j more
    keeps_rest j whole error cutter kept rest =
        subst (λ (o : Option Refusal). KeepsBy o bytes s j more) (sym (error ∙ not_kept i.error none)) (
          subst (λ (l : List ℕ). IsGoing bytes (with_bodies s (kept_bodies j.kept.items) j.cutter) (l ++ more)) (sym rest)
              (subst (λ (l : List ℕ). IsGoing bytes (with_bodies s (kept_bodies j.kept.items) j.cutter) l) (sym (append_assoc i.rest.items piece more))
              (rw (kept, cutter) here.0)),
          λ not. absurd (true≢false (sym whole ∙ (sym (ap is_whole cutter) ∙ not))),
        )

    module _ (owed : is_whole i.cutter ≡ false) (mid : Cutting) (j : Intake) (kept : kept_bodies j.kept.items ≡ kept_bodies i.kept.items ++ mid.queue.closed) where
      going : IsGoing bytes (with_bodies s (kept_bodies i.kept.items) i.cutter) (piece ++ more)
      going = subst (λ (l : List ℕ). IsGoing bytes (with_bodies s (kept_bodies i.kept.items) i.cutter) (l ++ (piece ++ more))) (here.1 owed) here.0

      module _ (taken : ℕ) (fed : IsFed i.cutter piece taken mid) (place : j.cutter.place ≡ mid.place) (closed : j.cutter.queue.closed ≡ []) (begun : j.cutter.queue.begun ≡ mid.queue.begun)
          (least : j.cutter.queue.least ≡ mid.queue.least) (error : j.error ≡ i.error) where
        now_going : IsGoing bytes (with_bodies s (kept_bodies j.kept.items) j.cutter) (drop taken piece ++ more)
        now_going = keeping_fed bytes s (kept_bodies i.kept.items) (kept_bodies j.kept.items) i.cutter mid piece more kept going j.cutter taken fed place closed begun least

        -- bytes came after the section
        pub keeps_behind : is_whole j.cutter ≡ true → j.rest.items ≡ i.rest.items ++ drop taken piece → Keeps bytes s j more
        keeps_behind whole rest =
            let is : j.rest.items ≡ drop taken piece = rest ∙ ap (λ (l : List ℕ). l ++ drop taken piece) (here.1 owed) in
            subst (λ (o : Option Refusal). KeepsBy o bytes s j more) (sym (error ∙ not_kept i.error none)) (
              subst (λ (l : List ℕ). IsGoing bytes (with_bodies s (kept_bodies j.kept.items) j.cutter) (l ++ more)) (sym is) now_going,
              λ not. absurd (true≢false (sym whole ∙ not)),
            )

        -- all bytes are in it
        pub keeps_inside : (j.cutter.place.stop ≡ None → j.cutter.place.at < j.cutter.place.end) → j.rest.items ≡ i.rest.items → Keeps bytes s j more
        keeps_inside inside rest =
            let none' : j.rest.items ≡ [] = rest ∙ here.1 owed in
            let there : mid.place.at < mid.place.end = subst (λ (p : Place). p.at < p.end) place (inside (ap (λ (p : Place). p.stop) place ∙ fed.going)) in
            let all : taken ≡ length piece = all_taken i.cutter mid piece taken fed there in
            let out : drop taken piece ≡ [] = drop_all taken piece (omega arith) in
            subst (λ (o : Option Refusal). KeepsBy o bytes s j more) (sym (error ∙ not_kept i.error none)) (
              subst (λ (l : List ℕ). IsGoing bytes (with_bodies s (kept_bodies j.kept.items) j.cutter) (l ++ more)) (out ∙ sym none') now_going,
              λ not. none',
            )

      -- the section has an error
      pub keeps_error : (r : Refusal) → IsRefused i.cutter piece r mid → j.error ≡ Some r → Keeps bytes s j more
      keeps_error r refused error =
          subst (λ (o : Option Refusal). KeepsBy o bytes s j more) (sym error)
          (going.few, keeping_refused bytes s (kept_bodies i.kept.items) (kept_bodies j.kept.items) i.cutter mid piece more kept going r refused)

-- bodies come next
pub keeps_begun : (bytes : List ℕ) (s t : Compilation) (i : Intake) (more : List ℕ) → s.cutter ≡ Some i.cutter → t ≡ record s { cutter = None } → i.kept.items ≡ [] → i.rest.items ≡ [] → i.error ≡ None → IsGoing bytes s more → Keeps bytes t i more
keeps_begun bytes s t i more some is kept rest error g =
    subst (λ (o : Option Refusal). KeepsBy o bytes t i more) (sym error) (
      subst (λ (l : List ℕ). IsGoing bytes (with_bodies t (kept_bodies i.kept.items) i.cutter) (l ++ more)) (sym rest)
          (subst (λ (l : List Body). IsGoing bytes (with_bodies t l i.cutter) more) (sym (ap kept_bodies kept))
          (keeping_from bytes s t i.cutter more some (ap (λ (x : Compilation). x.batch) is) (ap (λ (x : Compilation). x.front) is) (ap (λ (x : Compilation). x.spaces) is) (ap (λ (x : Compilation). x.codes) is) g)),
      λ not. rest,
    )

-- ---- the bodies that were kept are validated

module _ (bytes : List ℕ) (s : Compilation) (i : Intake) (more : List ℕ) (k : Keeps bytes s i more) where
  by_error : (o : Option Refusal) → i.error ≡ o → KeepsBy o bytes s i more
  by_error o e = subst (λ (x : Option Refusal). KeepsBy x bytes s i more) e k

  pub can_validate : CanTakeAll s.spaces s.codes (kept_bodies i.kept.items)
  can_validate = of i.error k
    where
      of : (o : Option Refusal) → KeepsBy o bytes s i more → CanTakeAll s.spaces s.codes (kept_bodies i.kept.items)
      of None h = keeping_can bytes s s (kept_bodies i.kept.items) i.cutter (i.rest.items ++ more) h.0
      of (Some r) h = faulty_can bytes s s (kept_bodies i.kept.items) r h.0 h.1

  module _ (t : Compilation) where
    -- a body has an error
    pub body_stops : (e : FrontStop) → JudgesAll s t (kept_bodies i.kept.items) (Err e) → GoesOn bytes (Err e) t more
    body_stops e takes = of i.error k
      where
        of : (o : Option Refusal) → KeepsBy o bytes s i more → GoesOn bytes (Err e) t more
        of None h = keeping_stops bytes s t (kept_bodies i.kept.items) i.cutter (i.rest.items ++ more) h.0 e more takes
        of (Some r) h = faulty_body bytes s t (kept_bodies i.kept.items) r h.0 h.1 e more takes

    module _ (takes : JudgesAll s t (kept_bodies i.kept.items) (Ok tt)) where
      -- or else their section has
      pub section_stops : (r : Refusal) → i.error ≡ Some r → IsVerdictOf bytes (Rejected r)
      section_stops r e = let h = by_error (Some r) e in section_refused bytes s t (kept_bodies i.kept.items) r h.0 h.1 takes

      -- or none is there
      pub validated : t.batch ≡ s.batch → t.spaces ≡ s.spaces → t.front ≡ s.front → i.error ≡ None → IsGoing bytes (with_cutter t i.cutter) (i.rest.items ++ more)
      validated batch spaces front none = keeping_judged bytes s t (kept_bodies i.kept.items) i.cutter (i.rest.items ++ more) (by_error None none).0 batch spaces front takes
