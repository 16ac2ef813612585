-- Of each section but that of code, so many entries come at most: it comes once, and its count has that limit.
use Rattle.std.proofs.Common.{◌≡◌, ◌≢◌, ℕ, zero, suc, ◌+◌, ◌≤◌, ◌<◌, Bool, true, false, cond, eqb, List, [], ◌∷◌, length, refl, sym, subst, ◌∙◌, arith, inl, inr, is_some}
use Rattle.std.proofs.lemmas.Bool.{cases_Bool, cases_eq, cases_lt, ne_eqb, lt-ltb, le-ltb}
use Rattle.wasm_defs.specs.declared.item.Item.{Item}
use Rattle.wasm_defs.specs.Fields.{Cursor, Read, Got, Fault, Wants, u32, count}
use Rattle.wasm_defs.specs.Entries.{Seen, nothing, code}
use Rattle.wasm_defs.specs.Limits.{max_entries}
use Rattle.wasm_defs.specs.Outside.{Part, Section, Listed, Coded, listed, body, number_of, at_most_one, function_count, agrees, segment_count, custom_name, code_entry, Row, row, header, entered, noted, inside, section_end, Ending, Run, ends, after_part, runs_on, Next, finish, entries, contents, section, position_of, owes, at_the_end, or_section, sections_up_to, preamble, beginning, module_read}
use Rattle.wasm_defs.specs.Items.{section_of}
use Rattle.wasm_defs.specs.Faults.{items_of}
use Rattle.wasm_laws.proofs.Steady.{IfGot, always}
use Rattle.wasm_laws.proofs.Sorts.{IsItem, IsBody, listed_yields, body_yields, notes}
use Rattle.wasm_laws.proofs.Parts.{then_got, got_map, either_got}
use Rattle.wasm_laws.proofs.Headers.{Follows, header_tells}
use Rattle.wasm_laws.proofs.Kept.{count_up_to}
use Rattle.wasm_laws.proofs.Sorted.{IsOf, row_is_sorted, code_sort, no_entries}

-- items of the section of that id
abbrev pub entries_in : ℕ → List Item → ℕ
entries_in id [] = 0
entries_in id (x ∷ xs) = cond (eqb (section_of x) id) (suc (entries_in id xs)) (entries_in id xs)

-- ---- counts

number_few : (c : Cursor) → IfGot (λ n d. n ≤ max_entries) (number_of max_entries c)
unfolding number_of
number_few c = then_got (λ n d. n.1 ≤ max_entries) (λ n d. n ≤ max_entries) (count max_entries c) _ (count_up_to max_entries c) (λ n d le. le)

one_few : (c : Cursor) → IfGot (λ n d. n ≤ max_entries) (at_most_one c)
unfolding at_most_one
one_few c =
    then_got (λ n d. Unit {0}) (λ n d. n ≤ max_entries) (u32 c) _ (always (u32 c))
    (λ n d t.
    elim (cases_lt 1 n.1) [
      | inl over ↦ rw (lt-ltb 1 n.1 over) tt
      | inr fits ↦ rw (le-ltb 1 n.1 fits) (omega (arith, fits))
    ])

functions_few : (seen : Seen) (c : Cursor) → IfGot (λ n d. n ≤ max_entries) (function_count seen c)
unfolding function_count
functions_few seen c =
    then_got (λ n d. Unit {0}) (λ n d. n ≤ max_entries) (u32 c) _ (always (u32 c))
    (λ n d t.
    elim (cases_lt max_entries (seen.functions + n.1)) [
      | inl over ↦ rw (lt-ltb max_entries (seen.functions + n.1) over) tt
      | inr fits ↦ rw (le-ltb max_entries (seen.functions + n.1) fits) (omega (arith, fits))
    ])

segments_few : (seen : Seen) (c : Cursor) → IfGot (λ n d. n ≤ max_entries) (segment_count seen c)
unfolding segment_count
segments_few seen c =
    then_got (λ n d. Unit {0}) (λ n d. n ≤ max_entries) (u32 c) _ (always (u32 c))
    (λ n d t.
    elim (cases_Bool (agrees seen.data_count n.1)) [
      | inr other ↦ rw other tt
      | inl same ↦ rw same (elim (cases_lt max_entries n.1) [
        | inl over ↦ rw (lt-ltb max_entries n.1 over) tt
        | inr fits ↦ rw (le-ltb max_entries n.1 fits) (omega (arith, fits))
      ])
    ])

custom_few : (c : Cursor) → IfGot (λ n d. n ≤ max_entries) (custom_name c)
custom_few c = got_map (λ n d. n ≡ 0) (λ n d. n ≤ max_entries) (custom_name c) (λ n d e. omega (arith, e)) (no_entries c)

record FewRow (r : Row) : Type 0 where
  front : (seen : Seen) (c : Cursor) → IfGot (λ n d. n ≤ max_entries) (r.front seen c)

either_row : (b : Bool) (p q : Row) → FewRow p → FewRow q → FewRow (cond b p q)
either_row true p q hp hq = hp
either_row false p q hp hq = hq

row_is_few : (id : ℕ) → id ≢ 11 → FewRow (row id)
row_is_few id not_code =
    either_row (eqb id 1) _ _ (record { front = λ s c. number_few c })
    (either_row (eqb id 2) _ _ (record { front = λ s c. number_few c })
    (either_row (eqb id 3) _ _ (record { front = functions_few })
    (either_row (eqb id 4) _ _ (record { front = λ s c. one_few c })
    (either_row (eqb id 5) _ _ (record { front = λ s c. one_few c })
    (either_row (eqb id 6) _ _ (record { front = λ s c. number_few c })
    (either_row (eqb id 7) _ _ (record { front = λ s c. number_few c })
    (either_row (eqb id 8) _ _ (record { front = λ s c. omega arith })
    (either_row (eqb id 9) _ _ (record { front = λ s c. number_few c })
    (either_row (eqb id 10) _ _ (record { front = λ s c. omega arith })
    (rw (ne_eqb id 11 not_code)
    (either_row (eqb id 12) _ _ (record { front = segments_few })
    (record { front = λ s c. custom_few c }))))))))))))

-- ---- runs

-- items of the section of that id: so many at most where the section may still come, and none after it
record AreFew (id last : ℕ) (r : Run) : Type 0 where
  all : entries_in id (items_of r.parts) ≤ max_entries
  later : id ≤ last → entries_in id (items_of r.parts) ≡ 0

-- so many at most
record UpTo (id n : ℕ) (r : Run) : Type 0 where
  few : entries_in id (items_of r.parts) ≤ n

module _ (id : ℕ) (not_code : id ≢ 11) where
  abbrev CountsFew : Next → Type 0
  CountsFew next = (seen : Seen) (c : Cursor) → AreFew id seen.last (next seen c)

  runs_few : {A : Type 0} (P : A → Cursor → Type 0) (last : ℕ) (x : Read A) (f : A → Cursor → Run) → IfGot P x → ((a : A) (d : Cursor) → P a d → AreFew id last (f a d)) → AreFew id last (runs_on x f)
  runs_few P last (Got a d) f p h = h a d p
  runs_few P last (Fault r) f p h = record { all = omega arith; later = λ le. refl }
  runs_few P last Wants f p h = record { all = omega arith; later = λ le. refl }

  runs_up_to : {A : Type 0} (P : A → Cursor → Type 0) (n : ℕ) (x : Read A) (f : A → Cursor → Run) → IfGot P x → ((a : A) (d : Cursor) → P a d → UpTo id n (f a d)) → UpTo id n (runs_on x f)
  runs_up_to P n (Got a d) f p h = h a d p
  runs_up_to P n (Fault r) f p h = record { few = omega arith }
  runs_up_to P n Wants f p h = record { few = omega arith }

  last_of_noted : (seen : Seen) (x : Part) → (noted seen x).last ≡ seen.last
  last_of_noted seen (Section at k) = refl
  last_of_noted seen (Listed x) = (notes seen x).last
  last_of_noted seen (Coded b) = refl

  finish_few : (r : Row) (next : Next) → CountsFew next → CountsFew (finish r next)
  finish_few r next few seen c =
      runs_few (λ x d. Unit {0}) seen.last (r.back c) _ (always (r.back c)) (λ x d t. runs_few (λ y e. Unit {0}) seen.last (section_end d) _ (always (section_end d)) (λ y e t. few seen e))

  -- ---- the section itself

  one_more : (n : ℕ) (x : Part) (r : Run) → UpTo id n r → UpTo id (suc n) (after_part x r)
  one_more n (Section at k) r h = record { few = omega (arith, h.few) }
  one_more n (Coded b) r h = record { few = omega (arith, h.few) }
  one_more n (Listed x) r h =
      elim (cases_Bool (eqb (section_of x) id)) [
        | inl is ↦ record { few = rw is (omega (arith, h.few)) }
        | inr other ↦ record { few = rw other (omega (arith, h.few)) }
      ]

  module _ (r : Row) (next : Next) (few : CountsFew next) where
    counted : (n : ℕ) (seen : Seen) (c : Cursor) → seen.last ≡ id → UpTo id n (entries n r next seen c)
    counted zero seen c last = let h = finish_few r next few seen c in record { few = omega (arith, h.later (omega (arith, last))) }
    counted (suc n) seen c last =
        runs_up_to (λ x d. Unit {0}) (suc n) (r.entry seen c) _ (always (r.entry seen c)) (λ x d t. one_more n x _ (counted n (noted seen x) d (last_of_noted seen x ∙ last)))

  -- ---- other sections

  abbrev IsOther : Part → Type 0
  IsOther (Section at k) = Unit {0}
  IsOther (Listed x) = section_of x ≢ id
  IsOther (Coded b) = Unit {0}

  after_other : (last : ℕ) (x : Part) (r : Run) → IsOther x → AreFew id last r → AreFew id last (after_part x r)
  after_other last (Section at k) r p h = record { all = h.all; later = h.later }
  after_other last (Coded b) r p h = record { all = h.all; later = h.later }
  after_other last (Listed x) r p h = record { all = rw (ne_eqb (section_of x) id p) h.all; later = λ le. rw (ne_eqb (section_of x) id p) (h.later le) }

  module _ (r : Row) (others : (seen : Seen) (c : Cursor) → IfGot (λ x d. IsOther x) (r.entry seen c)) (next : Next) (few : CountsFew next) where
    others_few : (n : ℕ) → CountsFew (entries n r next)
    others_few zero seen c = finish_few r next few seen c
    others_few (suc n) seen c =
        runs_few (λ x d. IsOther x) seen.last (r.entry seen c) _ (others seen c)
        (λ x d p. after_other seen.last x _ p (subst (λ (l : ℕ). AreFew id l (entries n r next (noted seen x) d)) (last_of_noted seen x) (others_few n (noted seen x) d)))

  item_is_other : (k : ℕ) (x : Part) → k ≢ id → IsItem (IsOf k) x → IsOther x
  item_is_other k (Section at j) ne p = tt
  item_is_other k (Listed x) ne p = λ e. ne (sym p ∙ e)
  item_is_other k (Coded b) ne p = tt

  body_is_other : (x : Part) → IsBody x → IsOther x
  body_is_other (Section at j) p = tt
  body_is_other (Listed x) p = absurd p
  body_is_other (Coded b) p = tt

  code_is_other : (seen : Seen) (c : Cursor) → IfGot (λ x d. IsOther x) (code_entry seen c)
  code_is_other seen c =
      either_got (λ x d. IsOther x) seen.counted (body (is_some seen.data_count)) (listed (code seen)) c
      (λ e. got_map (λ x d. IsBody x) (λ x d. IsOther x) (body (is_some seen.data_count) c) (λ x d p. body_is_other x p) ((body_yields (is_some seen.data_count)).got c))
      (λ e. got_map (λ x d. IsItem (IsOf 11) x) (λ x d. IsOther x) (listed (code seen) c) (λ x d p. item_is_other 11 x (λ ten. not_code (sym ten)) p) ((listed_yields (IsOf 11) (code seen) (code_sort seen)).got c))

  row_is_other : (k : ℕ) → k < 13 → k ≢ 0 → k ≢ id → (seen : Seen) (c : Cursor) → IfGot (λ x d. IsOther x) ((row k).entry seen c)
  row_is_other k known some other seen c =
      elim (cases_eq k 11) [
        | inl ten ↦ subst (λ (n : ℕ). IfGot (λ x d. IsOther x) ((row n).entry seen c)) (sym ten) (code_is_other seen c)
        | inr items ↦ got_map (λ x d. IsItem (IsOf k) x) (λ x d. IsOther x) ((row k).entry seen c) (λ x d p. item_is_other k x other p) (((row_is_sorted k known some items).entry seen).got c)
      ]

  -- ---- sections

  contents_few : (next : Next) → CountsFew next → (seen : Seen) (k : ℕ) (d : Cursor) → Follows seen k → AreFew id seen.last (contents (row k) next (entered seen k) d)
  contents_few next few seen k d f =
      elim (cases_eq k 0) [
        | inl custom ↦ subst (λ (n : ℕ). AreFew id seen.last (contents (row n) next (entered seen n) d)) (sym custom) of_custom
        | inr some ↦
            let t : Seen = record seen { last = k } in
            let same : entered seen k ≡ t = rw (ne_eqb k 0 some) refl in
            subst (λ (s : Seen). AreFew id seen.last (contents (row k) next s d)) (sym same)
            (elim (cases_eq k id) [
              | inl is ↦ of_itself some is
              | inr other ↦ of_other some other
            ])
      ]
    where
      of_custom : AreFew id seen.last (contents (row 0) next seen d)
      of_custom =
          runs_few (λ n e. n ≡ 0) seen.last (custom_name d) _ (no_entries d)
          (λ n e zero_is. subst (λ (m : ℕ). AreFew id seen.last (entries m (row 0) next seen e)) (sym zero_is) (finish_few (row 0) next few seen e))

      of_itself : k ≢ 0 → k ≡ id → AreFew id seen.last (contents (row k) next (record seen { last = k }) d)
      of_itself some is =
          let front = (row_is_few k (λ ten. not_code (sym is ∙ ten))).front (record seen { last = k }) d in
          runs_few (λ n e. n ≤ max_entries) seen.last ((row k).front (record seen { last = k }) d) _ front
          (λ n e le.
          let h = counted (row k) next few n (record seen { last = k }) e is in
          record { all = omega (arith, h.few, le); later = λ before. absurd (omega (arith, before, is, f.later some)) })

      of_other : k ≢ 0 → k ≢ id → AreFew id seen.last (contents (row k) next (record seen { last = k }) d)
      of_other some other =
          runs_few (λ n e. Unit {0}) seen.last ((row k).front (record seen { last = k }) d) _ (always ((row k).front (record seen { last = k }) d))
          (λ n e u.
          let h = others_few (row k) (row_is_other k f.known some other) next few n (record seen { last = k }) e in
          record { all = h.all; later = λ before. h.later (omega (arith, before, f.later some)) })

  section_few : (next : Next) → CountsFew next → CountsFew (section next)
  section_few next few seen c =
      runs_few (λ h d. Follows seen h.0) seen.last (header seen c) _ (header_tells seen c) (λ h d f. contents_few next few seen h.0 (inside d h.1) f)

  ends_few : (seen : Seen) → AreFew id seen.last (at_the_end seen)
  ends_few seen = elim (cases_Bool (owes seen)) [ inl code ↦ rw code none_more | inr none ↦ rw none none_more ]
    where
      none_more : {ending : Ending} → AreFew id seen.last (ends ending)
      none_more = record { all = omega arith; later = λ le. refl }

  or_few : (next : Next) → CountsFew next → (seen : Seen) (c : Cursor) (rest : List ℕ) → AreFew id seen.last (or_section next seen c rest)
  or_few next few seen c [] = ends_few seen
  or_few next few seen c (b ∷ rest) = after_other seen.last (Section c.at (position_of b)) (section next seen c) tt (section_few next few seen c)

  up_to_few : (n : ℕ) → CountsFew (sections_up_to n)
  unfolding sections_up_to
  up_to_few zero seen c = record { all = omega arith; later = λ le. refl }
  up_to_few (suc n) seen c = or_few (sections_up_to n) (up_to_few n) seen c c.rest

  pub entries_are_few : (bytes : List ℕ) → entries_in id (items_of (module_read bytes).parts) ≤ max_entries
  entries_are_few bytes =
      (runs_few (λ v c. Unit {0}) 0 (preamble (beginning bytes)) _ (always (preamble (beginning bytes)))
      (λ v c t. up_to_few (length c.rest + 1) nothing c)).all
