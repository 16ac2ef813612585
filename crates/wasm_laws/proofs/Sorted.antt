-- Items are in the sections of their sort, in order, and the code section ends with its bodies.
use Rattle.std.proofs.Common.{◌≡◌, ◌≢◌, ℕ, zero, suc, ◌+◌, ◌≤◌, ◌<◌, ◌⊎◌, true, false, is_some, cond, eqb, leb, ltb, List, [], ◌∷◌, length, take, max, refl, ap, sym, subst, ◌∙◌, arith, add-one, inl, inr}
use Rattle.std.proofs.lemmas.Bool.{cases_Bool, cases_eq, eqb-true, eqb-false, ne_eqb}
use Rattle.wasm_defs.specs.declared.item.Item.{Item}
use Rattle.wasm_defs.specs.declared.item.Item.TheVariants.{Code}
use Rattle.wasm_defs.specs.Fields.{Cursor, Read, Got, Fault, Wants, Reader, window, room_of, first_of, byte, u32, here, name}
use Rattle.wasm_defs.specs.Entries.{Seen, nothing, note, signature, imported, function, table, memory, global, exported, start, element, code, data_count, passive, segment}
use Rattle.wasm_defs.specs.Limits.{max_module}
use Rattle.wasm_defs.specs.Outside.{Part, Section, Listed, Coded, listed, body, custom_name, entries_of, code_entry, Row, row, is_misplaced, header, entered, noted, inside, section_end, Run, after_part, runs_on, Next, finish, entries, contents, section, position_of, owes, at_the_end, or_section, sections_up_to, preamble, beginning, module_read}
use Rattle.wasm_defs.specs.Items.{section_of}
use Rattle.wasm_laws.proofs.Steady.{IfGot, always}
use Rattle.wasm_laws.proofs.Windows.{cut_got}
use Rattle.wasm_laws.proofs.Sorts.{IsItem, IsBody, Yields, yielding, listed_yields, body_yields, notes}
use Rattle.wasm_laws.proofs.Parts.{then_got, got_both, got_map, either_got}
use Rattle.wasm_laws.proofs.Headers.{Follows, header_tells}
use Rattle.wasm_laws.proofs.Lasts.{note_counted}

-- parts in a section of that position, after sections whose positions are up to before: an item is in a section of its sort, after none
-- of a later sort, and after no body
abbrev pub AreSorted : ℕ → ℕ → List Part → Type 0
AreSorted before id [] = Unit {0}
AreSorted before id (Section at next ∷ parts) = AreSorted (max before id) next parts
AreSorted before id (Listed x ∷ parts) = (section_of x ≡ id) × (before < id) × AreSorted before id parts
AreSorted before id (Coded b ∷ parts) = (id ≡ 11) × (before ≤ 11) × AreSorted 11 11 parts

-- ---- items of a section

abbrev pub IsOf : ℕ → Item → Type 0
IsOf id x = section_of x ≡ id

pub code_sort : (seen : Seen) → Yields (IsOf 11) (code seen)
unfolding code
code_sort seen = search yielding depth 40

pub data_count_sort : (seen : Seen) → Yields (IsOf 10) (data_count seen)
unfolding data_count
data_count_sort seen = search yielding depth 40

pub segment_sort : (seen : Seen) → Yields (IsOf 12) (segment seen)
unfolding segment passive
segment_sort seen = search yielding depth 40

-- ---- rows

pub record SortedRow (id : ℕ) (r : Row) : Type 0 where
  pub entry : (seen : Seen) → Yields (IsItem (IsOf id)) (r.entry seen)

sorted_items : (id k : ℕ) (front : Seen → Reader ℕ) (entry : Seen → Reader Item) → ((seen : Seen) → Yields (IsOf k) (entry seen)) → id ≡ k → SortedRow id (entries_of front entry)
sorted_items id k front entry h e = subst (λ (n : ℕ). SortedRow n (entries_of front entry)) (sym e) (record { entry = λ s. listed_yields (IsOf k) (entry s) (h s) })

either_row : (id k : ℕ) (p q : Row) → (id ≡ k → SortedRow id p) → (id ≢ k → SortedRow id q) → SortedRow id (cond (eqb id k) p q)
either_row id k p q hp hq = by (cases_Bool (eqb id k))
  where
    by : (eqb id k ≡ true) ⊎ (eqb id k ≡ false) → SortedRow id (cond (eqb id k) p q)
    by (inl e) = rw e (hp (eqb-true id k e))
    by (inr e) = rw e (hq (eqb-false id k e))

-- a section that is neither custom nor of code holds items of its sort
pub row_is_sorted : (id : ℕ) → id < 13 → id ≢ 0 → id ≢ 11 → SortedRow id (row id)
unfolding signature imported function table memory global exported start element
row_is_sorted id known not_custom not_code =
    either_row id 1 _ _ (sorted_items id 1 _ signature (λ seen. search yielding depth 40)) (λ n1.
    either_row id 2 _ _ (sorted_items id 2 _ imported (λ seen. search yielding depth 40)) (λ n2.
    either_row id 3 _ _ (sorted_items id 3 _ function (λ seen. search yielding depth 40)) (λ n3.
    either_row id 4 _ _ (sorted_items id 4 _ table (λ seen. search yielding depth 40)) (λ n4.
    either_row id 5 _ _ (sorted_items id 5 _ memory (λ seen. search yielding depth 40)) (λ n5.
    either_row id 6 _ _ (sorted_items id 6 _ global (λ seen. search yielding depth 40)) (λ n6.
    either_row id 7 _ _ (sorted_items id 7 _ exported (λ seen. search yielding depth 40)) (λ n7.
    either_row id 8 _ _ (sorted_items id 8 _ start (λ seen. search yielding depth 40)) (λ n8.
    either_row id 9 _ _ (sorted_items id 9 _ element (λ seen. search yielding depth 40)) (λ n9.
    either_row id 10 _ _ (sorted_items id 10 _ _ data_count_sort) (λ n10.
    either_row id 11 _ _ (λ e. absurd (not_code e)) (λ n11.
    either_row id 12 _ _ (sorted_items id 12 _ _ segment_sort) (λ n12.
    absurd (omega arith)))))))))))))

pub no_entries : (c : Cursor) → IfGot (λ n d. n ≡ 0) (custom_name c)
unfolding custom_name
no_entries c = then_got (λ x d. Unit {0}) (λ n d. n ≡ 0) (name c) _ (always (name c)) (λ x d t. refl)

-- ---- runs

record Sorted (before id : ℕ) (r : Run) : Type 0 where
  parts : AreSorted before id r.parts

runs_sorted : {A : Type 0} (P : A → Cursor → Type 0) (before id : ℕ) (x : Read A) (f : A → Cursor → Run) → IfGot P x → ((a : A) (d : Cursor) → P a d → Sorted before id (f a d)) → Sorted before id (runs_on x f)
runs_sorted P before id (Got a d) f p h = h a d p
runs_sorted P before id (Fault r) f p h = record { parts = tt }
runs_sorted P before id Wants f p h = record { parts = tt }

-- between two sections, or in one: no bodies were counted before the code section
record Stays (seen : Seen) (before id : ℕ) : Type 0 where
  last : max before id ≡ seen.last
  uncounted : seen.last < 11 → seen.counted ≡ false

abbrev Sorts : Next → Type 0
Sorts next = (seen : Seen) (c : Cursor) (before id : ℕ) → Stays seen before id → Sorted before id (next seen c)

finish_sorted : (r : Row) (next : Next) → Sorts next → Sorts (finish r next)
finish_sorted r next sorts seen c before id h =
    runs_sorted (λ x d. Unit {0}) before id (r.back c) _ (always (r.back c)) (λ x d t. runs_sorted (λ y e. Unit {0}) before id (section_end d) _ (always (section_end d)) (λ y e t. sorts seen e before id h))

-- ---- sections of items

module _ (id : ℕ) (r : Row) (sorted : SortedRow id r) (other : id ≢ 11) (next : Next) (sorts : Sorts next) where
  item_sorted : (before : ℕ) (f : Next) → ((s : Seen) (d : Cursor) → Stays s before id → Sorted before id (f s d)) → (seen : Seen) (d : Cursor) (x : Part) → before < id → Stays seen before id → IsItem (IsOf id) x → Sorted before id (after_part x (f (noted seen x) d))
  item_sorted before f h seen d (Section at k) lt s p = absurd p
  item_sorted before f h seen d (Listed x) lt s p =
      let n = notes seen x in
      let later = h (note seen x) d (record { last = s.last ∙ sym n.last; uncounted = λ early. note_counted seen x (λ e. other (sym p ∙ e)) ∙ s.uncounted (omega (arith, n.last)) }) in
      record { parts = (p, lt, later.parts) }
  item_sorted before f h seen d (Coded b) lt s p = absurd p

  items_sorted : (n : ℕ) (seen : Seen) (c : Cursor) (before : ℕ) → before < id → Stays seen before id → Sorted before id (entries n r next seen c)
  items_sorted zero seen c before lt s = finish_sorted r next sorts seen c before id s
  items_sorted (suc n) seen c before lt s =
      runs_sorted (λ x d. IsItem (IsOf id) x) before id _ _ ((sorted.entry seen).got c)
      (λ x d p. item_sorted before (entries n r next) (λ t e u. items_sorted n t e before lt u) seen d x lt s p)

  contents_sorted : (seen : Seen) (c : Cursor) (before : ℕ) → before < id → Stays seen before id → Sorted before id (contents r next seen c)
  contents_sorted seen c before lt s = runs_sorted (λ n d. Unit {0}) before id (r.front seen c) _ (always (r.front seen c)) (λ n d t. items_sorted n seen d before lt s)

-- ---- custom sections

custom_sorted : (next : Next) → Sorts next → (seen : Seen) (c : Cursor) (before : ℕ) → Stays seen before 0 → Sorted before 0 (contents (row 0) next seen c)
custom_sorted next sorts seen c before s =
    runs_sorted (λ n d. n ≡ 0) before 0 (custom_name c) _ (no_entries c)
    (λ n d e. subst (λ (k : ℕ). Sorted before 0 (entries k (row 0) next seen d)) (sym e) (finish_sorted (row 0) next sorts seen d before 0 s))

-- ---- the code section

module _ (next : Next) (sorts : Sorts next) where
  body_sorted : (before : ℕ) (f : Next) (seen : Seen) (d : Cursor) (x : Part) → before ≤ 11 → Sorted 11 11 (f seen d) → IsBody x → Sorted before 11 (after_part x (f (noted seen x) d))
  body_sorted before f seen d (Section at k) le h p = absurd p
  body_sorted before f seen d (Listed x) le h p = absurd p
  body_sorted before f seen d (Coded b) le h p = record { parts = (refl, le, h.parts) }

  bodies_sorted : (n : ℕ) (seen : Seen) (c : Cursor) (before : ℕ) → before ≤ 11 → seen.last ≡ 11 → seen.counted ≡ true → Sorted before 11 (entries n (row 11) next seen c)
  bodies_sorted zero seen c before le last counted = finish_sorted (row 11) next sorts seen c before 11 (record { last = omega arith; uncounted = λ lt. absurd (omega arith) })
  bodies_sorted (suc n) seen c before le last counted =
      runs_sorted (λ x d. IsBody x) before 11 (code_entry seen c) _ (either_got (λ x d. IsBody x) seen.counted (body (is_some seen.data_count)) (listed (code seen)) c (λ e. (body_yields (is_some seen.data_count)).got c) (λ e. absurd cc))
      (λ x d p. body_sorted before (entries n (row 11) next) seen d x le (bodies_sorted n seen d 11 (omega arith) last counted) p)

  count_sorted : (seen : Seen) (d : Cursor) (before : ℕ) (x : Part) → before < 11 → seen.last ≡ 11 → IsItem (IsOf 11) x → Sorted before 11 (after_part x (entries seen.declared (row 11) next (noted seen x) d))
  count_sorted seen d before (Section at k) lt last p = absurd p
  count_sorted seen d before (Listed (Code count end)) lt last p =
      let later = bodies_sorted seen.declared (record seen { counted = true }) d before (omega arith) last refl in
      record { parts = (refl, lt, later.parts) }
  count_sorted seen d before (Listed x) lt last p = absurd (omega arith)
  count_sorted seen d before (Coded b) lt last p = absurd p

  code_sorted : (seen : Seen) (c : Cursor) (before : ℕ) → before < 11 → seen.last ≡ 11 → seen.counted ≡ false → Sorted before 11 (contents (row 11) next seen c)
  code_sorted seen c before lt last uncounted =
      rw add-one (runs_sorted (λ x d. IsItem (IsOf 11) x) before 11 (code_entry seen c) _ (either_got (λ x d. IsItem (IsOf 11) x) seen.counted (body (is_some seen.data_count)) (listed (code seen)) c (λ e. absurd cc) (λ e. (listed_yields (IsOf 11) (code seen) (code_sort seen)).got c))
      (λ x d p. count_sorted seen d before x lt last p))

-- ---- the first byte of a section determines its position

abbrev BeginsWith : ℕ → List ℕ → Type 0
BeginsWith b [] = ⊥
BeginsWith b (x ∷ xs) = b ≡ x

begins_so : (n b : ℕ) (xs : List ℕ) → BeginsWith b (take n xs) → BeginsWith b xs
begins_so zero b xs h = absurd h
begins_so (suc n) b [] h = absurd h
begins_so (suc n) b (x ∷ xs) h = h

first_begins : (c : Cursor) (w : List ℕ) → IfGot (λ b d. BeginsWith b.1 w) (first_of c w)
first_begins c [] = cut_got _ _ c
first_begins c (b ∷ w) = refl

byte_begins : (c : Cursor) → IfGot (λ b d. BeginsWith b.1 c.rest) (byte c)
unfolding byte
byte_begins c = got_map (λ b d. BeginsWith b.1 (window c)) (λ b d. BeginsWith b.1 c.rest) (first_of c (window c)) (λ b d h. begins_so (room_of c) b.1 c.rest h) (first_begins c (window c))

-- a position is that of the first byte
abbrev BeginsAt : ℕ → List ℕ → Type 0
BeginsAt position [] = ⊥
BeginsAt position (x ∷ xs) = position ≡ position_of x

begins_at : (b : ℕ) (xs : List ℕ) → BeginsWith b xs → BeginsAt (position_of b) xs
begins_at b [] h = h
begins_at b (x ∷ xs) h = ap position_of h

header_begins : (seen : Seen) (c : Cursor) → IfGot (λ h d. BeginsAt h.0 c.rest) (header seen c)
unfolding header here
header_begins seen c =
    then_got (λ b d. BeginsWith b.1 c.rest) (λ h d. BeginsAt h.0 c.rest) (byte c) _ (byte_begins c)
    (λ b d t.
    elim (cases_Bool (is_misplaced seen (position_of b.1))) [
      | inl wrong ↦ rw wrong tt
      | inr right ↦ rw right (elim (cases_Bool (leb max_module b.0)) [
        | inl late ↦ rw late tt
        | inr early ↦ rw early (then_got (λ n e. Unit {0}) (λ h e. BeginsAt h.0 c.rest) (u32 d) _ (always (u32 d))
            (λ n e u.
            elim (cases_Bool (ltb max_module (e.at + n.1))) [
              | inl over ↦ rw over tt
              | inr fits ↦ rw fits (begins_at b.1 c.rest t)
            ]))
      ])
    ])

-- ---- sections

-- the section of that id, after what was read
id_sorted : (next : Next) → Sorts next → (seen : Seen) (d : Cursor) (before id : ℕ) → Follows seen id → before ≡ seen.last → (seen.last < 11 → seen.counted ≡ false) → Sorted before id (contents (row id) next (entered seen id) d)
id_sorted next sorts seen d before id f e uncounted =
    elim (cases_eq id 0) [
      | inl custom ↦ at_id 0 custom (custom_sorted next sorts seen d before (record { last = omega arith; uncounted = uncounted }))
      | inr some ↦
          elim (cases_eq id 11) [
            | inl is_code ↦ at_id 11 is_code (code_sorted next sorts (record seen { last = 11 }) d before (omega (arith, f.later some)) refl (uncounted (omega (arith, f.later some))))
            | inr other ↦
                let t : Seen = record seen { last = id } in
                let same : entered seen id ≡ t = rw (ne_eqb id 0 some) refl in
                subst (λ (s : Seen). Sorted before id (contents (row id) next s d)) (sym same)
                (contents_sorted id (row id) (row_is_sorted id f.known some other) other next sorts t d before (omega (arith, f.later some)) (record { last = omega (arith, f.later some); uncounted = λ lt. uncounted (omega (arith, f.later some)) }))
          ]
    ]
  where
    at_id : (k : ℕ) → id ≡ k → Sorted before k (contents (row k) next (entered seen k) d) → Sorted before id (contents (row id) next (entered seen id) d)
    at_id k e h = subst (λ (n : ℕ). Sorted before n (contents (row n) next (entered seen n) d)) (sym e) h

section_sorted : (next : Next) → Sorts next → (seen : Seen) (c : Cursor) (before id b : ℕ) (rest : List ℕ) → c.rest ≡ b ∷ rest → Stays seen before id → Sorted (max before id) (position_of b) (section next seen c)
section_sorted next sorts seen c before id b rest e s =
    runs_sorted (λ h d. Follows seen h.0 × BeginsAt h.0 c.rest) (max before id) (position_of b) (header seen c) _ (got_both (λ h d. Follows seen h.0) (λ h d. BeginsAt h.0 c.rest) (header seen c) (header_tells seen c) (header_begins seen c))
    (λ h d p.
    let same : h.0 ≡ position_of b = subst (λ (l : List ℕ). BeginsAt h.0 l) e p.1 in
    subst (λ (n : ℕ). Sorted (max before id) n (contents (row h.0) next (entered seen h.0) (inside d h.1))) same
    (id_sorted next sorts seen (inside d h.1) (max before id) h.0 p.0 s.last s.uncounted))

ends_sorted : (seen : Seen) (before id : ℕ) → Sorted before id (at_the_end seen)
ends_sorted seen before id = elim (cases_Bool (owes seen)) [ inl code ↦ rw code (record { parts = tt }) | inr none ↦ rw none (record { parts = tt }) ]

or_sorted : (next : Next) → Sorts next → (seen : Seen) (c : Cursor) (before id : ℕ) (rest : List ℕ) → c.rest ≡ rest → Stays seen before id → Sorted before id (or_section next seen c rest)
or_sorted next sorts seen c before id [] e s = ends_sorted seen before id
or_sorted next sorts seen c before id (b ∷ rest) e s = let later = section_sorted next sorts seen c before id b rest e s in record { parts = later.parts }

up_to_sorted : (n : ℕ) → Sorts (sections_up_to n)
unfolding sections_up_to
up_to_sorted zero seen c before id s = record { parts = tt }
up_to_sorted (suc n) seen c before id s = or_sorted (sections_up_to n) (up_to_sorted n) seen c before id c.rest refl s

pub parts_are_sorted : (bytes : List ℕ) → AreSorted 0 0 (module_read bytes).parts
parts_are_sorted bytes =
    (runs_sorted (λ v c. Unit {0}) 0 0 (preamble (beginning bytes)) _ (always (preamble (beginning bytes)))
    (λ v c t. up_to_sorted (length c.rest + 1) nothing c 0 0 (record { last = refl; uncounted = λ lt. refl }))).parts
