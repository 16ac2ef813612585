-- How a module ends where no byte is there, and how a push reader ends.
use Rattle.std.proofs.Common.{◌≡◌, ℕ, zero, suc, ◌+◌, ◌-◌, ◌<◌, Bool, true, false, leb, eqb, inl, inr, List, [], length, drop, Some, None, refl, sym, ap, subst, ◌∙◌, arith, add-zero}
use Rattle.std.proofs.lemmas.Bool.{cases_Bool, cases_eq, cases_lt, ne_eqb}
use Rattle.std.proofs.lemmas.List.{append-nil}
use Rattle.wasm_defs.specs.declared.fault.Kind.TheVariants.{Ended}
use Rattle.wasm_defs.specs.declared.fault.Refusal.{Refusal}
use Rattle.wasm_defs.specs.Fields.{Cursor, Read, Got, cut, past, room_of}
use Rattle.wasm_defs.specs.Entries.{Seen}
use Rattle.wasm_defs.specs.Faults.{ending_fault}
use Rattle.wasm_defs.specs.Outside.{Nothing, Refused, Owed, Run, Next, ends, after_part, runs_on, noted, preamble, entries, sections, or_section, section_end, no_end, owes, at_the_end}
use Rattle.section_reader.specs.declared.stage.Stage.{Stage}
use Rattle.section_reader.specs.declared.stage.Stage.TheVariants.{Preamble, Between, Contents, Entries}
use Rattle.section_reader.specs.declared.front.Front.{Front}
use Rattle.section_reader.specs.Outline.{outline_row, or_outline, outline_sections}
use Rattle.section_reader.specs.Stages.{proceed, passes, silent, is_at_bodies}
use Rattle.section_reader.specs.Onward.{onward, begun_section, IsOrdered}
use Rattle.section_reader.specs.FrontLeft.{cursor_of, total}
use Rattle.section_reader.specs.FrontOnward.{remaining_parts, EndsOnward}
use Rattle.section_reader.proofs.Runs.{sections_are}
use Rattle.section_reader.proofs.OutlineRuns.{outline_is}
use Rattle.section_reader.proofs.Leading as leading
use Rattle.section_reader.proofs.Leading.{at_bytes, rest_is, over_if}
use Rattle.section_reader.proofs.Going.{nothing_back, rest_back}
use Rattle.section_reader.proofs.Silence.{preamble_needs, row_needs, silent_is}
use Rattle.section_reader.proofs.Telling.{begun_is_section, apart_other, contents_are, entries_are, entry_is, front_run, front_ordered}
use Rattle.section_reader.proofs.FrontTelling.{stalled_is}

-- it ends at once, as the outline does
abbrev EndsAlike : Run → Run → Type 0
EndsAlike module_there outline_there = module_there ≡ ends outline_there.ending

cut_alike : {A : Type 0} (c : Cursor) (x : Read A) (f g : A → Cursor → Run) → x ≡ cut c → EndsAlike (runs_on x f) (runs_on x g)
cut_alike c x f g e =
    elim (cases_Bool (leb (room_of c) (length c.rest))) [
      | inl there ↦ rw (e, there) refl
      | inr short ↦ rw (e, short) refl
    ]

end_alike : (seen : Seen) → EndsAlike (at_the_end seen) (at_the_end seen)
end_alike seen =
    elim (cases_Bool (owes seen)) [
      | inl owes ↦ rw owes refl
      | inr none ↦ rw none refl
    ]

between_alike : (seen : Seen) (c : Cursor) → c.rest ≡ [] → EndsAlike (sections seen c) (outline_sections seen c)
between_alike seen c none =
    sections_are seen c
    ∙ ap (or_section sections seen c) none
    ∙ end_alike seen
    ∙ sym (ap (λ (r : Run). ends r.ending) (outline_is seen c ∙ ap (or_outline outline_sections seen c) none))

-- at a section's end
abbrev leaving : Next → Seen → Nothing → Cursor → Run
leaving next seen = λ x d. runs_on (section_end d) (λ y e. next seen e)

leaving_alike : (seen : Seen) (at end : ℕ) → EndsAlike (leaving sections seen tt (at_bytes at end [])) (leaving outline_sections seen tt (at_bytes at end []))
unfolding section_end
leaving_alike seen at end =
    elim (cases_Bool (eqb (end - at) 0)) [
      | inl over ↦ rw over (between_alike seen (at_bytes at no_end []) refl)
      | inr more ↦ rw more refl
    ]

drop_none : (n : ℕ) → drop {A = ℕ} n [] ≡ []
drop_none zero = refl
drop_none (suc n) = refl

over_alike : (seen : Seen) (at end : ℕ) (b : Bool) → EndsAlike (runs_on (over_if b (past (at_bytes at end []) (end - at))) (leaving sections seen)) (runs_on (over_if b (past (at_bytes at end []) (end - at))) (leaving outline_sections seen))
over_alike seen at end true =
    subst (λ (l : List ℕ). EndsAlike (leaving sections seen tt (at_bytes (at + (end - at)) end l)) (leaving outline_sections seen tt (at_bytes (at + (end - at)) end l))) (sym (drop_none (end - at)))
    (leaving_alike seen (at + (end - at)) end)
over_alike seen at end false = refl

module _ (seen : Seen) (at end : ℕ) where
  abbrev there : Cursor
  there = at_bytes at end []

  back_alike : (id : ℕ) → is_at_bodies (Entries id 0) ≡ false → EndsAlike (onward (Entries id 0) seen there) (proceed (Entries id 0) seen there)
  back_alike id apart =
      entries_are id 0 seen there (apart_other id apart)
      ∙ elim (cases_Bool (passes id)) [
        | inl passing ↦ let e = rest_back id there passing ∙ rest_is there in rw e (over_alike seen at end (leb (end - at) 0))
        | inr listing ↦ rw (nothing_back id there listing) (leaving_alike seen at end)
      ]

  entries_alike : (id n : ℕ) → IsOrdered (Entries id n) seen → is_at_bodies (Entries id n) ≡ false → EndsAlike (onward (Entries id n) seen there) (proceed (Entries id n) seen there)
  entries_alike id n o apart =
      elim (cases_lt 0 n) [
        | inl some ↦
            entry_is id n seen there some o
            ∙ cut_alike there ((outline_row id).entry seen there) _ (λ x d. after_part x (entries (n - 1) (outline_row id) outline_sections (noted seen x) d)) ((row_needs id).entry seen at end)
            ∙ sym (ap (λ (r : Run). ends r.ending) (leading.entries_are seen there id n there some))
        | inr none ↦
            let zero_left : n ≡ 0 = omega arith in
            let apart_there : is_at_bodies (Entries id 0) ≡ false = rw zero_left at apart in
            rw zero_left (back_alike id apart_there)
      ]

  given_alike : (id n : ℕ) → (outline_row id).front seen there ≡ Got (suc n) there → IsOrdered (Contents id) seen → EndsAlike (onward (Contents id) seen there) (proceed (Contents id) seen there)
  given_alike id n e o =
      front_run seen there there id (suc n) e []
      ∙ entries_alike id (suc n) (front_ordered seen there there id (suc n) e o) (not_there id n)
      ∙ sym (ap (λ (r : Run). ends r.ending) (leading.front_leads seen there there id (suc n) e []))
    where
      not_there : (id n : ℕ) → is_at_bodies (Entries id (suc n)) ≡ false
      not_there id n =
          elim (cases_Bool (eqb id 11)) [
            | inl code ↦ rw (code, ne_eqb (suc n) 0 (λ e. omega (arith, e))) refl
            | inr other ↦ rw other refl
          ]

  contents_alike : (id : ℕ) → IsOrdered (Contents id) seen → EndsAlike (onward (Contents id) seen there) (proceed (Contents id) seen there)
  contents_alike id o =
      elim (cases_eq id 11) [
        | inl code ↦ given_alike id 0 (rw code refl) o
        | inr other ↦ elim ((row_needs id).front seen) [
          | inl field ↦ contents_are id seen there other ∙ cut_alike there ((outline_row id).front seen there) _ (λ n d. entries n (outline_row id) outline_sections seen d) (field at end)
          | inr given ↦ given_alike id given.0 (ap (λ p. p there) given.1) o
        ]
      ]

  silent_alike : (stage : Stage) → IsOrdered stage seen → is_at_bodies stage ≡ false → EndsAlike (onward stage seen there) (proceed stage seen there)
  silent_alike Preamble o apart = cut_alike there (preamble there) (λ x d. sections seen d) (λ x d. outline_sections seen d) (preamble_needs at end)
  silent_alike Between o apart = between_alike seen there refl
  silent_alike (Contents id) o apart = contents_alike id o
  silent_alike (Entries id n) o apart = entries_alike id n o apart

-- ---- the end of a push reader

pub refused_ends : (f : Front) (r : Refusal) → f.waiting ≡ None → f.refusal ≡ Some r → EndsOnward f (Some r)
refused_ends f r waits some = record { told = []; sections = tt; ending = Refused r; run = rw (waits, some) refl; fault = refl }

module _ (f : Front) (waits : f.waiting ≡ None) (none : f.refusal ≡ None) (apart : is_at_bodies f.steps.stage ≡ false) where
  left_is : remaining_parts f [] ≡ onward f.steps.stage f.steps.seen (cursor_of f)
  left_is = rw (waits, none) (ap (λ (l : List ℕ). onward f.steps.stage f.steps.seen (at_bytes f.at f.end l)) (append-nil f.kept.items))

  pub kept_ends : 0 < length f.kept.items → EndsOnward f (Some (record { offset = total f; kind = Ended }))
  kept_ends some = record {
    told = begun_section f.steps.stage (cursor_of f);
    sections = begun_is_section f.steps.stage (cursor_of f);
    ending = Owed;
    run = left_is ∙ stalled_is f.steps.stage f.steps.seen (cursor_of f) some (f.stalled some apart);
    fault = refl;
  }

  pub silent_ends : f.kept.items ≡ [] → EndsOnward f (silent f.steps.stage f.steps.seen f.at f.end)
  silent_ends kept =
      let run = proceed f.steps.stage f.steps.seen (at_bytes f.at f.end []) in
      record {
        told = [];
        sections = tt;
        ending = run.ending;
        run =
            left_is
            ∙ ap (λ (l : List ℕ). onward f.steps.stage f.steps.seen (at_bytes f.at f.end l)) kept
            ∙ silent_alike f.steps.seen f.at f.end f.steps.stage f.ordered apart;
        fault =
            ap (λ (l : List ℕ). ending_fault (f.at + length l) run.ending) kept
            ∙ ap (λ (n : ℕ). ending_fault n run.ending) (add-zero f.at)
            ∙ silent_is f.steps.seen f.at f.end f.ahead f.steps.stage;
      }
