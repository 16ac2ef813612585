-- Bytes of the bodies' section: what is left before and after a call of the cutter.
use Rattle.std.proofs.Common.{◌≡◌, ℕ, zero, suc, ◌+◌, ◌-◌, ◌≤◌, ◌<◌, inl, inr, Bool, true, false, not, ◌&&◌, eqb, List, [], ◌∷◌, ◌++◌, length, drop, Option, Some, None, refl, sym, ap, subst, ◌∙◌, arith, append_assoc, length-append}
use Rattle.std.specs.Prelude.{min, is_some}
use Rattle.std.proofs.lemmas.Bool.{cases_lt, cases_Bool, eqb-true}
use Rattle.std.proofs.lemmas.List.{append-nil, drop-append-le, take-append-drop}
use Rattle.std.proofs.Math.Seq.{drop-append-add, drop-length}
use Rattle.wasm_defs.specs.declared.fault.Refusal.{Refusal}
use Rattle.wasm_defs.specs.Entries.{Seen}
use Rattle.wasm_defs.specs.Outside.{Run, ends, sections, no_end}
use Rattle.wasm_defs.specs.Outside as outside
use Rattle.section_reader.specs.Onward.{after_parts}
use Rattle.body_cutter.specs.Bodies.{Body}
use Rattle.body_cutter.specs.Sections.{End, Whole, Faulty, Owed}
use Rattle.body_cutter.specs.Places.{Place, still}
use Rattle.body_cutter.specs.declared.batch.Batch.{Batch}
use Rattle.body_cutter.specs.Queues.{Queue, bodies_in, with_bodies, all_closed, batch_length}
use Rattle.body_cutter.specs.Cuttings.{Cutting, Handed, left, finished, is_whole, IsFed, IsRefused, Takes}
use Rattle.body_cutter.proofs.Joined.{handed_join}
use Rattle.module_stream.specs.CutBodies.{counts_data, coded_all, behind, cut_run, sections_behind}
use Rattle.module_stream.proofs.CutRuns.{cut_append}

-- ---- what a cutter hands over

left_bodies : (c : Cutting) (more : List ℕ) → bodies_in (left c more).queue ≡ c.queue.closed ++ (c.queue.begun ++ (still c.place more).bodies)
unfolding left
left_bodies c more = handed_join c.queue (still c.place more) ∙ append_assoc c.queue.closed c.queue.begun (still c.place more).bodies

pub left_ending : (c : Cutting) (more : List ℕ) → (left c more).ending ≡ (still c.place more).ending
unfolding left
left_ending c more = refl

-- those of the closed batches first
pub split_run : (counted : Bool) (c : Cutting) (more : List ℕ) (next : Run) → cut_run counted (left c more) next ≡ after_parts (coded_all counted c.queue.closed) (after_parts (coded_all counted (c.queue.begun ++ (still c.place more).bodies)) (behind (still c.place more).ending next))
split_run counted c more next =
    ap (λ (l : List Body). after_parts (coded_all counted l) (behind (left c more).ending next)) (left_bodies c more)
    ∙ ap (λ (e : End). after_parts (coded_all counted (c.queue.closed ++ (c.queue.begun ++ (still c.place more).bodies))) (behind e next)) (left_ending c more)
    ∙ cut_append counted c.queue.closed (c.queue.begun ++ (still c.place more).bodies) (behind (still c.place more).ending next)

-- and after them
pub behind_closed : (counted : Bool) (old new : Cutting) (more : List ℕ) (next : Run) → new.place ≡ old.place → new.queue.closed ≡ [] → new.queue.begun ≡ old.queue.begun
    → after_parts (coded_all counted (old.queue.begun ++ (still old.place more).bodies)) (behind (still old.place more).ending next) ≡ cut_run counted (left new more) next
behind_closed counted old new more next place closed begun =
    sym (split_run counted new more next
    ∙ ap (λ (l : List Body). after_parts (coded_all counted l) (after_parts (coded_all counted (new.queue.begun ++ (still new.place more).bodies)) (behind (still new.place more).ending next))) closed
    ∙ ap (λ (l : List Body). after_parts (coded_all counted (l ++ (still new.place more).bodies)) (behind (still new.place more).ending next)) begun
    ∙ ap (λ (p : Place). after_parts (coded_all counted (old.queue.begun ++ (still p more).bodies)) (behind (still p more).ending next)) place)

finished_begun : (q : Queue) (e : End) → (e ≡ Owed → ⊥) → (finished e q).begun ≡ []
finished_begun q Whole h = refl
finished_begun q (Faulty r) h = refl
finished_begun q Owed h = absurd (h refl)

pub left_begun : (c : Cutting) (more : List ℕ) → ((left c more).ending ≡ Owed → ⊥) → (left c more).queue.begun ≡ []
unfolding left
left_begun c more h = finished_begun (with_bodies c.queue (still c.place more).bodies) (still c.place more).ending h

whole_not_owed : (h : Handed) (q : Queue) → h ≡ record { queue = q; ending = Whole } → h.ending ≡ Owed → ⊥
whole_not_owed h q e f = let t : Whole ≡ Owed = sym (ap (λ (x : Handed). x.ending) e) ∙ f in absurd cc

fault_not_owed : (h : Handed) (q : Queue) (r : Refusal) → h ≡ record { queue = q; ending = Faulty r } → h.ending ≡ Owed → ⊥
fault_not_owed h q r e f = let t : Faulty r ≡ Owed = sym (ap (λ (x : Handed). x.ending) e) ∙ f in absurd cc

-- ---- bytes that were fed

module _ (old mid : Cutting) (piece : List ℕ) (taken : ℕ) (fed : IsFed old piece taken mid) where
  least : taken ≡ min (length piece) (old.place.end - old.place.at)
  least = fed.all

  room : mid.place.end - mid.place.at ≡ old.place.end - old.place.at - taken
  room = omega (arith, fed.place.0, fed.place.1)

  rest_same : (more : List ℕ) → drop (old.place.end - old.place.at) (piece ++ more) ≡ drop (mid.place.end - mid.place.at) (drop taken piece ++ more)
  rest_same more =
      elim (cases_lt (old.place.end - old.place.at) (length piece)) [
        | inl over ↦
            let t : taken ≡ old.place.end - old.place.at = omega (arith, fed.all) in
            let none : mid.place.end - mid.place.at ≡ 0 = omega (arith, room) in
            ap (λ (n : ℕ). drop n (piece ++ more)) (sym t)
            ∙ drop-append-le taken piece more (omega arith)
            ∙ sym (ap (λ (n : ℕ). drop n (drop taken piece ++ more)) none)
        | inr fits ↦
            let t : taken ≡ length piece = omega (arith, fed.all) in
            let e : old.place.end - old.place.at ≡ length piece + (mid.place.end - mid.place.at) = omega (arith, room) in
            ap (λ (n : ℕ). drop n (piece ++ more)) e
            ∙ drop-append-add piece more (mid.place.end - mid.place.at)
            ∙ sym (ap (λ (l : List ℕ). drop (mid.place.end - mid.place.at) (l ++ more)) (ap (λ (n : ℕ). drop n piece) t ∙ drop-length piece))
      ]

  pub run_fed : (seen : Seen) (more : List ℕ) → cut_run (counts_data seen) (left old (piece ++ more)) (sections_behind seen old.place.at old.place.end (piece ++ more)) ≡ cut_run (counts_data seen) (left mid (drop taken piece ++ more)) (sections_behind seen mid.place.at mid.place.end (drop taken piece ++ more))
  run_fed seen more =
      ap (λ (h : Handed). cut_run (counts_data seen) h (sections_behind seen old.place.at old.place.end (piece ++ more))) (fed.same more)
      ∙ ap (λ (n : ℕ). cut_run (counts_data seen) (left mid (drop taken piece ++ more)) (sections seen (record { at = n; rest = drop (old.place.end - old.place.at) (piece ++ more); end = no_end }))) (sym fed.place.1)
      ∙ ap (λ (l : List ℕ). cut_run (counts_data seen) (left mid (drop taken piece ++ more)) (sections seen (record { at = mid.place.end; rest = l; end = no_end }))) (rest_same more)

  pub few_taken : taken ≤ length piece
  few_taken = omega (arith, fed.all)

  -- where bytes of the section are still owed all were taken
  pub all_taken : mid.place.at < mid.place.end → taken ≡ length piece
  all_taken owed = omega (arith, fed.all, fed.place.0, fed.place.1)

  pub count_fed : (len : ℕ) (more : List ℕ) → old.place.at + length (piece ++ more) ≡ len → mid.place.at + length (drop taken piece ++ more) ≡ len
  count_fed len more e = omega (arith, e, length-append piece more, length-append (drop taken piece) more, length_left taken piece few_taken, fed.place.0)
    where
      length_left : (n : ℕ) (xs : List ℕ) → n ≤ length xs → n + length (drop n xs) ≡ length xs
      length_left zero xs h = omega arith
      length_left (suc n) [] h = absurd (omega arith)
      length_left (suc n) (x ∷ xs) h = omega (arith, length_left n xs (omega arith))

-- ---- the section is whole

whole_place : (stop : Option Refusal) (count at end : ℕ) → (not (is_some stop) && (eqb count 0 && eqb at end)) ≡ true → at ≡ end
whole_place stop count at end e =
    elim (cases_Bool (eqb at end)) [
      | inl h ↦ eqb-true at end h
      | inr h ↦ absurd (none stop count (subst (λ (b : Bool). (not (is_some stop) && (eqb count 0 && b)) ≡ true) h e))
    ]
  where
    none : (s : Option Refusal) (n : ℕ) → (not (is_some s) && (eqb n 0 && false)) ≡ true → ⊥
    none (Some r) n t = absurd cc
    none None n t = elim (cases_Bool (eqb n 0)) [ inl h ↦ (let u = rw h at t in absurd cc) | inr h ↦ (let u = rw h at t in absurd cc) ]

pub whole_run : (seen : Seen) (c : Cutting) (more : List ℕ) → is_whole c ≡ true → left c more ≡ record { queue = c.queue; ending = Whole } → c.queue.closed ≡ []
    → cut_run (counts_data seen) (left c more) (sections_behind seen c.place.at c.place.end more) ≡ sections seen (record { at = c.place.end; rest = more; end = no_end })
whole_run seen c more whole is closed =
    let none : c.queue.begun ≡ [] = sym (ap (λ (h : Handed). h.queue.begun) is) ∙ left_begun c more (whole_not_owed (left c more) c.queue is) in
    let all : bodies_in c.queue ≡ [] = ap (λ (l : List Body). l ++ c.queue.begun) closed ∙ none in
    let at : c.place.at ≡ c.place.end = whole_place c.place.stop c.place.count c.place.at c.place.end whole in
    let nothing : c.place.end - c.place.at ≡ 0 = omega arith in
    ap (λ (h : Handed). cut_run (counts_data seen) h (sections_behind seen c.place.at c.place.end more)) is
    ∙ ap (λ (l : List Body). after_parts (coded_all (counts_data seen) l) (sections_behind seen c.place.at c.place.end more)) all
    ∙ ap (λ (n : ℕ). sections seen (record { at = c.place.end; rest = drop n more; end = no_end })) nothing

pub whole_at : (c : Cutting) → is_whole c ≡ true → c.place.at ≡ c.place.end
whole_at c whole = whole_place c.place.stop c.place.count c.place.at c.place.end whole

-- ---- the section is wrong

pub refused_run : (counted : Bool) (old mid : Cutting) (piece more : List ℕ) (r : Refusal) (next : Run) → IsRefused old piece r mid → cut_run counted (left old (piece ++ more)) next ≡ after_parts (coded_all counted mid.queue.closed) (ends (outside.Refused r))
refused_run counted old mid piece more r next refused =
    let is = refused.same more in
    let none : mid.queue.begun ≡ [] = sym (ap (λ (h : Handed). h.queue.begun) is) ∙ left_begun old (piece ++ more) (fault_not_owed (left old (piece ++ more)) mid.queue r is) in
    ap (λ (h : Handed). cut_run counted h next) is
    ∙ ap (λ (l : List Body). after_parts (coded_all counted l) (ends (outside.Refused r))) (ap (λ (l : List Body). mid.queue.closed ++ l) none ∙ append-nil mid.queue.closed)

-- ---- the bytes end

pub ended_run : (counted : Bool) (old new : Cutting) (next : Run) → (left old []).queue ≡ old.queue → (left old []).ending ≡ Owed → new.queue ≡ all_closed old.queue
    → cut_run counted (left old []) next ≡ after_parts (coded_all counted new.queue.closed) (ends outside.Owed)
ended_run counted old new next prompt owed closed =
    ap (λ (q : Queue). after_parts (coded_all counted (bodies_in q)) (behind (left old []).ending next)) prompt
    ∙ ap (λ (e : End). after_parts (coded_all counted (bodies_in old.queue)) (behind e next)) owed
    ∙ ap (λ (q : Queue). after_parts (coded_all counted q.closed) (ends outside.Owed)) (sym closed)

-- ---- what came completes no further body, and closes no batch

no_bodies : (xs ys : List Body) → xs ++ ys ≡ xs → ys ≡ []
no_bodies xs [] e = refl
no_bodies xs (y ∷ ys) e = absurd (let t = ap length e in omega (arith, t, length-append xs (y ∷ ys)))

-- where no body is to come
closed_there : (q : Queue) → q.begun ≡ [] → all_closed q ≡ q
closed_there q h = λ i. record { least = q.least; number = q.number; closed = (ap (λ (l : List Body). q.closed ++ l) h ∙ append-nil q.closed) i; begun = sym h i }

finished_there : (e : End) (q : Queue) → ((e ≡ Owed → ⊥) → q.begun ≡ []) → finished e q ≡ q
finished_there Whole q none = closed_there q (none (λ f. cc))
finished_there (Faulty r) q none = closed_there q (none (λ f. cc))
finished_there Owed q none = refl

left_there : (c : Cutting) → (still c.place []).bodies ≡ [] → (left c []).queue ≡ finished (still c.place []).ending c.queue
unfolding left
left_there c none = ap (λ (l : List Body). finished (still c.place []).ending (with_bodies c.queue l)) none

pub prompt_on : (mid new : Cutting) → (left mid []).queue ≡ mid.queue → new.place ≡ mid.place → new.queue.begun ≡ mid.queue.begun → (left new []).queue ≡ new.queue
prompt_on mid new is place begun =
    let all : (mid.queue.closed ++ mid.queue.begun) ++ (still mid.place []).bodies ≡ mid.queue.closed ++ mid.queue.begun = append_assoc mid.queue.closed mid.queue.begun (still mid.place []).bodies ∙ sym (left_bodies mid []) ∙ ap bodies_in is in
    let none : (still new.place []).bodies ≡ [] = ap (λ (p : Place). (still p []).bodies) place ∙ no_bodies (bodies_in mid.queue) (still mid.place []).bodies all in
    let ending : (left mid []).ending ≡ (still new.place []).ending = left_ending mid [] ∙ sym (ap (λ (p : Place). (still p []).ending) place) in
    left_there new none
    ∙ finished_there (still new.place []).ending new.queue
    (λ over. begun ∙ sym (ap (λ (q : Queue). q.begun) is) ∙ left_begun mid [] (λ owed. over (sym ending ∙ owed)))

-- ---- batches that are taken

pub closed_taken : (old new : Cutting) (b : Batch) → Takes old (Some b) new → old.queue.closed ≡ b.bodies ++ new.queue.closed
closed_taken old new b (number, bodies, start, is) =
    let n = batch_length old.queue.least old.queue.closed in
    sym (take-append-drop n old.queue.closed)
    ∙ ap (λ (l : List Body). l ++ drop n old.queue.closed) (sym bodies)
    ∙ ap (λ (l : List Body). b.bodies ++ l) (sym (ap (λ (k : Cutting). k.queue.closed) is))

-- what is after the closed batches
abbrev pub rest_run : Seen → Cutting → List ℕ → Run
rest_run seen c more = after_parts (coded_all (counts_data seen) (c.queue.begun ++ (still c.place more).bodies)) (behind (still c.place more).ending (sections_behind seen c.place.at c.place.end more))

pub split_rest : (seen : Seen) (c : Cutting) (more : List ℕ) → cut_run (counts_data seen) (left c more) (sections_behind seen c.place.at c.place.end more) ≡ after_parts (coded_all (counts_data seen) c.queue.closed) (rest_run seen c more)
split_rest seen c more = split_run (counts_data seen) c more (sections_behind seen c.place.at c.place.end more)

pub rest_is : (seen : Seen) (old new : Cutting) (more : List ℕ) → new.place ≡ old.place → new.queue.closed ≡ [] → new.queue.begun ≡ old.queue.begun
    → rest_run seen old more ≡ cut_run (counts_data seen) (left new more) (sections_behind seen new.place.at new.place.end more)
rest_is seen old new more place closed begun =
    behind_closed (counts_data seen) old new more (sections_behind seen old.place.at old.place.end more) place closed begun
    ∙ sym (ap (λ (p : Place). cut_run (counts_data seen) (left new more) (sections_behind seen p.at p.end more)) place)
