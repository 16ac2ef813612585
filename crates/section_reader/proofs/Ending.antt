-- How a push reader ends, and how it skips.
use Rattle.std.proofs.Common.{◌≡◌, ℕ, ◌+◌, ◌-◌, ◌≤◌, true, eqb, List, [], ◌++◌, length, Option, Some, None, refl, ap, ◌∙◌, arith, add-zero, not}
use Rattle.std.specs.Prelude.{is_some}
use Rattle.std.proofs.lemmas.Bool.{and_parts, eqb-true, le-leb}
use Rattle.std.proofs.lemmas.List.{nil_from_length}
use Rattle.wasm_defs.specs.declared.fault.Refusal.{Refusal}
use Rattle.wasm_defs.specs.declared.item.Item.{Item}
use Rattle.wasm_defs.specs.Entries.{Seen}
use Rattle.wasm_defs.specs.Faults.{ending_fault}
use Rattle.wasm_defs.specs.Fields.{Read, Got}
use Rattle.wasm_defs.specs.Outside.{Nothing, rest_of_section, Run, runs_on, section_end, no_end, sections}
use Rattle.wasm_laws.specs.Steadiness.{with_more}
use Rattle.section_reader.specs.declared.stage.Stage.{Stage}
use Rattle.section_reader.specs.declared.stage.Stage.TheVariants.{Preamble, Between, Contents, Entries}
use Rattle.section_reader.specs.declared.front.Front.{Front}
use Rattle.section_reader.specs.Outline.{outline_sections}
use Rattle.section_reader.specs.Stages.{proceed, prepend, silent, is_at_bodies}
use Rattle.section_reader.specs.FrontLeft.{left, total, from_there, cursor_of, can_skip}
use Rattle.section_reader.proofs.Leading.{at_bytes, rest_is, pass_leads}
use Rattle.section_reader.proofs.Silence.{silent_is}

prepend_ending : (x : Option Item) (r : Run) → (prepend x r).ending ≡ r.ending
prepend_ending None r = refl
prepend_ending (Some x) r = refl

pub ending_empty : (f : Front) → f.refusal ≡ None → f.kept.items ≡ [] → f.at ≤ f.end → ending_fault (total f) (left f []).ending ≡ silent f.steps.stage f.steps.seen f.at f.end
ending_empty f none kept le =
    ap (ending_fault (total f)) (prepend_ending f.waiting (from_there f.refusal (proceed f.steps.stage f.steps.seen (with_more (cursor_of f) []))))
    ∙ ap (λ (x : Option Refusal). ending_fault (total f) (from_there x (proceed f.steps.stage f.steps.seen (with_more (cursor_of f) []))).ending) none
    ∙ ap (λ (l : List ℕ). ending_fault (f.at + length l) (proceed f.steps.stage f.steps.seen (at_bytes f.at f.end (l ++ []))).ending) kept
    ∙ ap (λ (n : ℕ). ending_fault n (proceed f.steps.stage f.steps.seen (at_bytes f.at f.end [])).ending) (add-zero f.at)
    ∙ silent_is f.steps.seen f.at f.end le f.steps.stage

-- ---- skipping

at_bodies : (stage : Stage) → is_at_bodies stage ≡ true → stage ≡ Entries 11 0
at_bodies Preamble e = absurd cc
at_bodies Between e = absurd cc
at_bodies (Contents id) e = absurd cc
at_bodies (Entries id n) e =
    let p = and_parts (eqb id 11) (eqb n 0) e in
    rw (eqb-true id 11 p.0, eqb-true n 0 p.1) refl

-- what `can_skip` tests
pub record Skips (f : Front) (end : ℕ) : Type 0 where
  pub stage : f.steps.stage ≡ Entries 11 0
  pub kept : f.kept.items ≡ []
  pub waiting : f.waiting ≡ None
  pub refusal : f.refusal ≡ None
  pub there : end ≡ f.end

none_there : {A : Type 0} (x : Option A) → not (is_some x) ≡ true → x ≡ None
none_there None e = refl
none_there (Some x) e = absurd cc

pub skips : (f : Front) (end : ℕ) → can_skip f end ≡ true → Skips f end
skips f end can =
    let p = and_parts _ (eqb end f.end) can in
    let q = and_parts _ (not (is_some f.refusal)) p.0 in
    let r = and_parts _ (not (is_some f.waiting)) q.0 in
    let s = and_parts (is_at_bodies f.steps.stage) (eqb (length f.kept.items) 0) r.0 in
    record {
      stage = at_bodies f.steps.stage s.0;
      kept = nil_from_length f.kept.items (eqb-true (length f.kept.items) 0 s.1);
      waiting = none_there f.waiting r.1;
      refusal = none_there f.refusal q.1;
      there = eqb-true end f.end p.1;
    }

-- where all of the code section is passed over, the next section comes
over_there : (seen : Seen) (end : ℕ) (more : List ℕ) → proceed (Entries 11 0) seen (at_bytes end end more) ≡ outline_sections seen (at_bytes end no_end more)
unfolding section_end
over_there seen end more =
    let none : end - end ≡ 0 = omega arith in
    let back : rest_of_section (at_bytes end end more) ≡ Got tt (at_bytes end end more) =
    rest_is (at_bytes end end more) ∙ rw (none, le-leb 0 (length more) (omega arith)) (ap (λ (n : ℕ). Got tt (at_bytes n end more)) (add-zero end)) in
    ap (λ (r : Read Nothing). runs_on r (λ x d. runs_on (section_end d) (λ y e. outline_sections seen e))) back
    ∙ rw none refl

pub skip_same : (f : Front) (end : ℕ) → can_skip f end ≡ true → (bytes more : List ℕ) → total f + length bytes ≡ end
    → left f (bytes ++ more) ≡ prepend f.waiting (from_there f.refusal (outline_sections f.steps.seen (at_bytes end no_end (f.kept.items ++ more))))
skip_same f end can bytes more sum =
    let h = skips f end can in
    let before : f.at + length bytes ≡ end = omega (arith, sum, ap length h.kept) in
    ap (λ (r : Run). prepend f.waiting (from_there f.refusal r)) (
    rw (h.stage, h.kept) (
    pass_leads f.steps.seen f.at f.end 11 bytes refl (omega (arith, before, h.there)) more
    ∙ rw (before, ← h.there) (over_there f.steps.seen end more)))

pub skip_onward : (f : Front) (end : ℕ) → can_skip f end ≡ true → (more : List ℕ)
    → prepend f.waiting (from_there f.refusal (sections f.steps.seen (at_bytes end no_end (f.kept.items ++ more)))) ≡ sections f.steps.seen (at_bytes end no_end more)
skip_onward f end can more = let h = skips f end can in rw (h.waiting, h.refusal, h.kept) refl

pub skip_total : (f : Front) (end : ℕ) → can_skip f end ≡ true → end + length f.kept.items ≡ end
skip_total f end can = omega (arith, ap length (skips f end can).kept)
