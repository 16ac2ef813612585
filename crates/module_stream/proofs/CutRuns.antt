-- Bodies that are cut, as the definition of modules reads them.
use Rattle.std.proofs.Common.{◌≡◌, ℕ, zero, suc, ◌+◌, ◌-◌, ◌≤◌, inl, inr, Bool, true, false, cond, ltb, ◌||◌, List, [], ◌∷◌, ◌++◌, length, drop, refl, sym, ap, ◌∙◌, arith}
use Rattle.std.proofs.lemmas.Bool.{cases_Bool}
use Rattle.std.proofs.Math.Seq.{drop-append-add}
use Rattle.wasm_defs.specs.Limits.{max_body}
use Rattle.wasm_defs.specs.Fields.{Cursor, Read, Reader, Got, Fault, Wants, then_go, u32, room, here, run}
use Rattle.wasm_defs.specs.Entries.{Seen, code}
use Rattle.wasm_defs.specs.Outside.{Part, Section, Listed, Coded, Nothing, Run, after_part, runs_on, row, entries, listed, noted, body, section_end, no_end, sections}
use Rattle.wasm_laws.specs.Steadiness.{IfGot, Advance, Advances, Leaves}
use Rattle.wasm_laws.proofs.EntryLaws.{body_steady}
use Rattle.wasm_laws.proofs.RowLaws.{end_steady}
use Rattle.wasm_laws.proofs.Sorts.{IsBody, body_yields}
use Rattle.section_reader.specs.Onward.{after_parts}
use Rattle.section_reader.proofs.Telling.{after_append}
use Rattle.body_cutter.specs.Bodies.{Body}
use Rattle.body_cutter.specs.Sections.{Whole, Given, goes_on, with_part, bodies_from}
use Rattle.body_cutter.specs.Sections as cut
use Rattle.body_cutter.specs.Cuttings.{handed, no_batch}
use Rattle.body_cutter.proofs.Joined.{handed_join}
use Rattle.module_stream.specs.CutBodies.{counts_data, coded, coded_all, behind, given_run, cut_run, sections_behind}

-- ---- parts in a row

pub coded_append : (counted : Bool) (xs ys : List Body) → coded_all counted (xs ++ ys) ≡ coded_all counted xs ++ coded_all counted ys
coded_append counted [] ys = refl
coded_append counted (b ∷ xs) ys = ap (λ (l : List Part). coded counted b ∷ l) (coded_append counted xs ys)

pub cut_append : (counted : Bool) (xs ys : List Body) (r : Run) → after_parts (coded_all counted (xs ++ ys)) r ≡ after_parts (coded_all counted xs) (after_parts (coded_all counted ys) r)
cut_append counted xs ys r = ap (λ (l : List Part). after_parts l r) (coded_append counted xs ys) ∙ after_append (coded_all counted xs) (coded_all counted ys) r

pub parts_after : (xs : List Part) (r : Run) → (after_parts xs r).parts ≡ xs ++ r.parts
parts_after [] r = refl
parts_after (x ∷ xs) r = ap (λ (l : List Part). x ∷ l) (parts_after xs r)

-- ---- the code section's bodies

-- the section's end
end_cut : (seen : Seen) (c : Cursor) (r : Read Nothing) → c.at ≤ c.end → Leaves c r
    → runs_on r (λ y e. sections seen e) ≡ given_run (counts_data seen) (goes_on r (λ x d. cut.ends Whole)) (sections_behind seen c.at c.end c.rest)
end_cut seen c (Got y e) le h =
    let at : c.at ≡ c.end = omega (arith, h.0) in
    let none : c.end - c.at ≡ 0 = omega arith in
    ap (sections seen) h.1
    ∙ ap (λ (n : ℕ). sections seen (record { at = n; rest = c.rest; end = no_end })) at
    ∙ sym (ap (λ (n : ℕ). sections seen (record { at = c.end; rest = drop n c.rest; end = no_end })) none)
end_cut seen c (Fault r) le h = refl
end_cut seen c Wants le h = refl

-- after one body the section goes on
behind_same : (seen : Seen) (c d : Cursor) → Advance c d → sections_behind seen d.at d.end d.rest ≡ sections_behind seen c.at c.end c.rest
behind_same seen c d p =
    let room : c.end - c.at ≡ length p.taken + (d.end - d.at) = omega (arith, p.at, p.end, p.fits) in
    ap (λ (n : ℕ). sections seen (record { at = n; rest = drop (d.end - d.at) d.rest; end = no_end })) p.end
    ∙ ap (λ (l : List ℕ). sections seen (record { at = c.end; rest = l; end = no_end }))
    (sym (drop-append-add p.taken d.rest (d.end - d.at)) ∙ ap (λ (n : ℕ). drop n (p.taken ++ d.rest)) (sym room) ∙ ap (drop (c.end - c.at)) (sym p.parts))

-- with another flag of whether the data segments were counted
abbrev told : (counted : Bool) → Part → Part
told counted (Section at position) = Section at position
told counted (Listed x) = Listed x
told counted (Coded b) = Coded (record b { counted = counted })

abbrev got_told : (counted : Bool) → Read Part → Read Part
got_told counted (Got x d) = Got (told counted x) d
got_told counted (Fault r) = Fault r
got_told counted Wants = Wants

then_told : {A : Type 0} (counted : Bool) (x : Read A) (f g : A → Reader Part) → ((a : A) (d : Cursor) → f a d ≡ got_told counted (g a d)) → then_go x f ≡ got_told counted (then_go x g)
then_told counted (Got a d) f g p = p a d
then_told counted (Fault r) f g p = refl
then_told counted Wants f g p = refl

-- the bodies are the same ones
body_told : (counted : Bool) (c : Cursor) → body counted c ≡ got_told counted (body false c)
unfolding body room here
body_told counted c =
    then_told counted (u32 c) _ _
    (λ n d.
    elim (cases_Bool (ltb n.1 2 || ltb (d.end - d.at) n.1)) [
      | inl wrong ↦ rw wrong refl
      | inr right ↦ rw right (elim (cases_Bool (ltb max_body n.1)) [
        | inl large ↦ rw large refl
        | inr small ↦ rw small (then_told counted (run n.1 d) _ _ (λ bytes e. refl))
      ])
    ])

abbrev Rest : ℕ → ℕ → Seen → Type 0
Rest n index seen = (d : Cursor) → d.at ≤ d.end → entries n (row 11) sections seen d ≡ given_run (counts_data seen) (bodies_from index n d) (sections_behind seen d.at d.end d.rest)

one_cut : (n index : ℕ) (seen : Seen) (c : Cursor) (r : Read Part) → c.at ≤ c.end → IfGot (λ x d. IsBody x) r → Advances c r → Rest n (suc index) seen
    → runs_on (got_told (counts_data seen) r) (λ x d. after_part x (entries n (row 11) sections (noted seen x) d)) ≡ given_run (counts_data seen) (goes_on r (λ part d. with_part index part (bodies_from (suc index) n d))) (sections_behind seen c.at c.end c.rest)
one_cut n index seen c (Got (Coded b) d) le is p rest =
    ap (after_part (told (counts_data seen) (Coded b))) (rest d (omega (arith, p.at, p.end, p.fits)) ∙ ap (given_run (counts_data seen) (bodies_from (suc index) n d)) (behind_same seen c d p))
one_cut n index seen c (Got (Listed x) d) le is p rest = absurd is
one_cut n index seen c (Got (Section at position) d) le is p rest = absurd is
one_cut n index seen c (Fault r) le is p rest = refl
one_cut n index seen c Wants le is p rest = refl

-- so many bodies, and what is after their section
pub entries_cut : (n index : ℕ) (seen : Seen) → seen.counted ≡ true → (c : Cursor) → c.at ≤ c.end
    → entries n (row 11) sections seen c ≡ given_run (counts_data seen) (bodies_from index n c) (sections_behind seen c.at c.end c.rest)
unfolding bodies_from
entries_cut zero index seen counted c le = end_cut seen c (section_end c) le (end_steady.leaves c)
entries_cut (suc n) index seen counted c le =
    ap (λ (b : Bool). runs_on ((cond b (body (counts_data seen)) (listed (code seen))) c) (λ x d. after_part x (entries n (row 11) sections (noted seen x) d))) counted
    ∙ ap (λ (r : Read Part). runs_on r (λ x d. after_part x (entries n (row 11) sections (noted seen x) d))) (body_told (counts_data seen) c)
    ∙ one_cut n index seen c (body false c) le ((body_yields false).got c) ((body_steady [] false).moves c) (λ d l. entries_cut n (suc index) seen counted d l)

-- what a cutter hands over that has just begun
pub handed_run : (counted : Bool) (least : ℕ) (g : Given) (next : Run) → cut_run counted (handed (no_batch least) g) next ≡ given_run counted g next
handed_run counted least g next = ap (λ (l : List Body). after_parts (coded_all counted l) (behind g.ending next)) (handed_join (no_batch least) g)
