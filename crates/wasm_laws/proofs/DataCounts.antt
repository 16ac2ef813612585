-- As many data segments come as the data count says, where there is one, and each body says whether there is one.
use Rattle.std.proofs.Common.{◌≡◌, ◌≢◌, ℕ, zero, suc, ◌+◌, ◌≤◌, ◌<◌, Bool, true, false, is_some, ◌&&◌, ltb, List, [], ◌∷◌, ◌++◌, length, Option, Some, None, refl, ap, sym, subst, ◌∙◌, arith, add-one, inl, inr}
use Rattle.std.specs.List.{All}
use Rattle.std.proofs.lemmas.Bool.{cases_Bool, cases_eq, ne_eqb, lt-ltb}
use Rattle.std.proofs.lemmas.List.Elements.{All-nil, All-cons, All-head, All-tail}
use Rattle.wasm_defs.specs.declared.item.Item.{Item}
use Rattle.wasm_defs.specs.declared.item.Item.TheVariants.{Code, DataCount, Passive, Segment}
use Rattle.wasm_defs.specs.Limits.{max_entries}
use Rattle.wasm_defs.specs.Fields.{Cursor, Read, Got, Fault, Wants, u32}
use Rattle.wasm_defs.specs.Entries.{Seen, nothing, or_zero, note, code, data_count}
use Rattle.wasm_defs.specs.Outside.{Body, Part, Section, Listed, Coded, listed, body, agrees, segment_count, custom_name, code_entry, Row, row, header, entered, noted, inside, section_end, position_of, owes, Ending, Whole, Refused, Owed, Run, ends, after_part, runs_on, Next, finish, entries, contents, section, at_the_end, or_section, sections_up_to, preamble, beginning, module_read}
use Rattle.wasm_defs.specs.Context.{data_count_of, segment_count_of}
use Rattle.wasm_defs.specs.Items.{section_of, AllOf}
use Rattle.wasm_defs.specs.Rules.{all_noted}
use Rattle.wasm_defs.specs.Faults.{items_of, bodies_of}
use Rattle.wasm_laws.proofs.Steady.{IfGot, always}
use Rattle.wasm_laws.proofs.Sorts.{IsItem, Yields, yielding, listed_yields, notes}
use Rattle.wasm_laws.proofs.Parts.{then_got, either_got}
use Rattle.wasm_laws.proofs.Headers.{Follows, header_tells, owes_parts}
use Rattle.wasm_laws.proofs.Lasts.{note_counted}
use Rattle.wasm_laws.proofs.Sorted.{IsOf, SortedRow, row_is_sorted, code_sort, data_count_sort, no_entries}

-- ---- lists

pub all_front : {A : Type 0} (P : A → Type 0) (xs ys : List A) → All P (xs ++ ys) → All P xs
all_front P [] ys h = All-nil P
all_front P (x ∷ xs) ys h = All-cons P x xs (All-head P x (xs ++ ys) h) (all_front P xs ys (All-tail P x (xs ++ ys) h))

pub all_back : {A : Type 0} (P : A → Type 0) (xs ys : List A) → All P (xs ++ ys) → All P ys
all_back P [] ys h = h
all_back P (x ∷ xs) ys h = all_back P xs ys (All-tail P x (xs ++ ys) h)

-- ---- what items add

pub count_cons : (x : Item) (xs : List Item) → section_of x ≢ 10 → data_count_of (x ∷ xs) ≡ data_count_of xs
count_cons (DataCount count) xs other = absurd (other refl)
count_cons p xs other = refl

pub segments_cons : (x : Item) (xs : List Item) → section_of x ≢ 12 → segment_count_of (x ∷ xs) ≡ segment_count_of xs
segments_cons (Passive form bytes) xs other = absurd (other refl)
segments_cons (Segment form memory place bytes) xs other = absurd (other refl)
segments_cons p xs other = refl

pub segments_more : (x : Item) (xs : List Item) → section_of x ≡ 12 → segment_count_of (x ∷ xs) ≡ suc (segment_count_of xs)
segments_more (Passive form bytes) xs e = refl
segments_more (Segment form memory place bytes) xs e = refl
segments_more p xs e = absurd (omega (arith, e))

pub note_count : (s : Seen) (x : Item) → section_of x ≢ 10 → (note s x).data_count ≡ s.data_count
note_count s (DataCount count) other = absurd (other refl)
note_count s p other = refl

pub all_noted_count : (id : ℕ) (s : Seen) (xs : List Item) → id ≢ 10 → AllOf id xs → (all_noted s xs).data_count ≡ s.data_count
all_noted_count id s [] other h = refl
all_noted_count id s (x ∷ xs) other h = all_noted_count id (note s x) xs other h.1 ∙ note_count s x (λ e. other (sym h.0 ∙ e))

pub counts_skip : (id : ℕ) (xs ys : List Item) → id ≢ 10 → AllOf id xs → data_count_of (xs ++ ys) ≡ data_count_of ys
counts_skip id [] ys other h = refl
counts_skip id (x ∷ xs) ys other h = count_cons x (xs ++ ys) (λ e. other (sym h.0 ∙ e)) ∙ counts_skip id xs ys other h.1

pub segments_skip : (id : ℕ) (xs ys : List Item) → id ≢ 12 → AllOf id xs → segment_count_of (xs ++ ys) ≡ segment_count_of ys
segments_skip id [] ys other h = refl
segments_skip id (x ∷ xs) ys other h = segments_cons x (xs ++ ys) (λ e. other (sym h.0 ∙ e)) ∙ segments_skip id xs ys other h.1

pub segments_all : (id : ℕ) (xs ys : List Item) → id ≡ 12 → AllOf id xs → segment_count_of (xs ++ ys) ≡ length xs + segment_count_of ys
segments_all id [] ys is h = omega arith
segments_all id (x ∷ xs) ys is h = omega (arith, segments_more x (xs ++ ys) (h.0 ∙ is), segments_all id xs ys is h.1)

-- the data count that is known, or else the first that comes
abbrev pub count_with : Option ℕ → List Item → Option ℕ
count_with None xs = data_count_of xs
count_with (Some n) xs = Some n

pub with_same : (count : Option ℕ) (xs ys : List Item) → data_count_of xs ≡ data_count_of ys → count_with count xs ≡ count_with count ys
with_same None xs ys e = e
with_same (Some n) xs ys e = refl

pub with_none : (count : Option ℕ) (xs : List Item) → data_count_of xs ≡ None → count_with count xs ≡ count
with_none None xs e = e
with_none (Some n) xs e = refl

-- bodies say whether there is such a count
abbrev pub AreToldOf : Option ℕ → List Body → Type 0
AreToldOf count bodies = All (λ b. b.counted ≡ is_some count) bodies

pub told_same : (c d : Option ℕ) (bodies : List Body) → c ≡ d → AreToldOf c bodies → AreToldOf d bodies
told_same c d bodies e h = subst (λ (k : Option ℕ). AreToldOf k bodies) e h

pub agrees_same : (c d : Option ℕ) (m n : ℕ) → c ≡ d → m ≡ n → agrees c m ≡ true → agrees d n ≡ true
agrees_same c d m n e f h = sym (ap (λ (k : Option ℕ). agrees k m) e ∙ ap (agrees d) f) ∙ h

-- ---- runs

-- what comes after a section of position last, where that count is known
record Tells (last : ℕ) (count : Option ℕ) (r : Run) : Type 0 where
  none : 10 ≤ last → data_count_of (items_of r.parts) ≡ None
  told : AreToldOf (count_with count (items_of r.parts)) (bodies_of r.parts)
  over : 12 ≤ last → segment_count_of (items_of r.parts) ≡ 0
  whole : (s : Seen) → r.ending ≡ Whole s → last < 12 → agrees (count_with count (items_of r.parts)) (segment_count_of (items_of r.parts)) ≡ true

refused_tells : (last : ℕ) (count : Option ℕ) (ending : Ending) → ((s : Seen) → ending ≡ Whole s → ⊥) → Tells last count (ends ending)
refused_tells last count ending h = record { none = λ le. refl; told = All-nil _; over = λ le. refl; whole = λ s e. absurd (h s e) }

runs_tell : {A : Type 0} (P : A → Cursor → Type 0) (last : ℕ) (count : Option ℕ) (x : Read A) (f : A → Cursor → Run) → IfGot P x → ((a : A) (d : Cursor) → P a d → Tells last count (f a d)) → Tells last count (runs_on x f)
runs_tell P last count (Got a d) f p h = h a d p
runs_tell P last count (Fault r) f p h = refused_tells last count (Refused r) (λ s e. cc)
runs_tell P last count Wants f p h = refused_tells last count Owed (λ s e. cc)

-- between two sections, or in one
record Fresh (seen : Seen) : Type 0 where
  count : seen.last < 10 → seen.data_count ≡ None
  code : seen.last < 11 → seen.counted ≡ false

abbrev TellsNext : Next → Type 0
TellsNext next = (seen : Seen) (c : Cursor) → Fresh seen → Tells seen.last seen.data_count (next seen c)

earlier : (before last : ℕ) (count : Option ℕ) (r : Run) → before ≤ last → last < 12 → Tells last count r → Tells before count r
earlier before last count r le lt h = record { none = λ k. h.none (omega arith); told = h.told; over = λ k. absurd (omega arith); whole = λ s e k. h.whole s e lt }

finish_tells : (r : Row) (next : Next) → TellsNext next → TellsNext (finish r next)
finish_tells r next tells seen c h =
    runs_tell (λ x d. Unit {0}) seen.last seen.data_count (r.back c) _ (always (r.back c))
    (λ x d t. runs_tell (λ y e. Unit {0}) seen.last seen.data_count (section_end d) _ (always (section_end d)) (λ y e t. tells seen e h))

-- an item that is neither a data count nor a segment
with_item : (last : ℕ) (count : Option ℕ) (x : Item) (r : Run) → section_of x ≢ 10 → section_of x ≢ 12 → Tells last count r → Tells last count (after_part (Listed x) r)
with_item last count x r no_count no_segment h =
    let items = items_of r.parts in
    let counts = count_cons x items no_count in
    let same = with_same count (x ∷ items) items counts in
    let segments = segments_cons x items no_segment in
    record {
      none = λ le. counts ∙ h.none le;
      told = told_same _ _ (bodies_of r.parts) (sym same) h.told;
      over = λ le. segments ∙ h.over le;
      whole = λ s e lt. agrees_same _ _ _ _ (sym same) (sym segments) (h.whole s e lt);
    }

-- ---- sections of other items

module _ (id : ℕ) (r : Row) (sorted : SortedRow id r) (no_count : id ≢ 10) (no_code : id ≢ 11) (no_segment : id ≢ 12) (next : Next) (tells : TellsNext next) where
  item_tells : (f : Next) → ((s : Seen) (d : Cursor) → s.last ≡ id → Fresh s → Tells s.last s.data_count (f s d)) → (seen : Seen) (d : Cursor) (x : Part) → seen.last ≡ id → Fresh seen → IsItem (IsOf id) x → Tells seen.last seen.data_count (after_part x (f (noted seen x) d))
  item_tells f h seen d (Section at k) last fresh p = absurd p
  item_tells f h seen d (Listed x) last fresh p =
      let n = notes seen x in
      let same = note_count seen x (λ e. no_count (sym p ∙ e)) in
      let later = h (note seen x) d (n.last ∙ last) (record {
        count = λ lt. same ∙ fresh.count (omega (arith, n.last));
        code = λ lt. note_counted seen x (λ e. no_code (sym p ∙ e)) ∙ fresh.code (omega (arith, n.last));
      }) in
      with_item seen.last seen.data_count x (f (note seen x) d) (λ e. no_count (sym p ∙ e)) (λ e. no_segment (sym p ∙ e))
      (subst (λ (k : ℕ). Tells k seen.data_count (f (note seen x) d)) n.last (subst (λ (k : Option ℕ). Tells (note seen x).last k (f (note seen x) d)) same later))
  item_tells f h seen d (Coded b) last fresh p = absurd p

  items_tell : (n : ℕ) (seen : Seen) (c : Cursor) → seen.last ≡ id → Fresh seen → Tells seen.last seen.data_count (entries n r next seen c)
  items_tell zero seen c last fresh = finish_tells r next tells seen c fresh
  items_tell (suc n) seen c last fresh =
      runs_tell (λ x d. IsItem (IsOf id) x) seen.last seen.data_count _ _ ((sorted.entry seen).got c)
      (λ x d p. item_tells (entries n r next) (items_tell n) seen d x last fresh p)

  other_tells : (seen : Seen) (c : Cursor) → seen.last ≡ id → Fresh seen → Tells seen.last seen.data_count (contents r next seen c)
  other_tells seen c last fresh = runs_tell (λ n d. Unit {0}) seen.last seen.data_count (r.front seen c) _ (always (r.front seen c)) (λ n d t. items_tell n seen d last fresh)

-- ---- the data count, the bodies, and the data segments

abbrev IsToldBody : Bool → Part → Type 0
IsToldBody counted (Section at id) = ⊥
IsToldBody counted (Listed x) = ⊥
IsToldBody counted (Coded b) = b.counted ≡ counted

told_yields : (counted : Bool) → Yields (IsToldBody counted) (body counted)
unfolding body
told_yields counted = search yielding depth 40

count_agrees : (seen : Seen) (c : Cursor) → IfGot (λ n d. agrees seen.data_count n ≡ true) (segment_count seen c)
unfolding segment_count
count_agrees seen c =
    then_got (λ n d. Unit {0}) (λ n d. agrees seen.data_count n ≡ true) (u32 c) _ (always (u32 c))
    (λ n d t. either_got _ (agrees seen.data_count n.1) _ _ d (λ same. either_got _ (ltb max_entries n.1) _ _ d (λ over. tt) (λ few. same)) (λ other. tt))

-- so many segments, and then no more
record Segments (n : ℕ) (count : Option ℕ) (r : Run) : Type 0 where
  none : data_count_of (items_of r.parts) ≡ None
  told : AreToldOf (count_with count (items_of r.parts)) (bodies_of r.parts)
  many : (s : Seen) → r.ending ≡ Whole s → segment_count_of (items_of r.parts) ≡ n

abbrev SegmentsNext : ℕ → Next → Type 0
SegmentsNext n next = (seen : Seen) (c : Cursor) → seen.last ≡ 12 → Segments n seen.data_count (next seen c)

module _ (next : Next) (tells : TellsNext next) where
  count_tells : (seen : Seen) (c : Cursor) (before : ℕ) → before < 10 → seen.last ≡ 10 → seen.counted ≡ false → Tells before None (contents (row 10) next seen c)
  count_tells seen c before lt last uncounted =
      runs_tell (λ x d. IsItem (IsOf 10) x) before None (listed (data_count seen) c) _ ((listed_yields (IsOf 10) (data_count seen) (data_count_sort seen)).got c) one
    where
      one : (x : Part) (d : Cursor) → IsItem (IsOf 10) x → Tells before None (after_part x (finish (row 10) next (noted seen x) d))
      one (Section at id) d p = absurd p
      one (Coded b) d p = absurd p
      one (Listed (DataCount count)) d p =
          let h = finish_tells (row 10) next tells (note seen (DataCount count)) d (record { count = λ lt. absurd (omega arith); code = λ lt. uncounted }) in
          record { none = λ le. absurd (omega arith); told = h.told; over = λ le. absurd (omega arith); whole = λ s e lt. h.whole s e (omega arith) }
      one (Listed x) d p = absurd (omega (arith, p))

  body_tells : (count : Option ℕ) (x : Part) (r : Run) → IsToldBody (is_some count) x → Tells 11 count r → Tells 11 count (after_part x r)
  body_tells count (Section at id) r p h = absurd p
  body_tells count (Listed x) r p h = absurd p
  body_tells count (Coded b) r p h =
      let same = with_none count (items_of r.parts) (h.none (omega arith)) in
      record { none = h.none; told = All-cons (λ b. b.counted ≡ is_some (count_with count (items_of r.parts))) b (bodies_of r.parts) (p ∙ ap is_some (sym same)) h.told; over = h.over; whole = h.whole }

  bodies_tell : (n : ℕ) (seen : Seen) (c : Cursor) → seen.last ≡ 11 → seen.counted ≡ true → Tells 11 seen.data_count (entries n (row 11) next seen c)
  bodies_tell zero seen c last counted =
      subst (λ (k : ℕ). Tells k seen.data_count (finish (row 11) next seen c)) last
      (finish_tells (row 11) next tells seen c (record { count = λ lt. absurd (omega arith); code = λ lt. absurd (omega arith) }))
  bodies_tell (suc n) seen c last counted =
      runs_tell (λ x d. IsToldBody (is_some seen.data_count) x) 11 seen.data_count (code_entry seen c) _
      (either_got (λ x d. IsToldBody (is_some seen.data_count) x) seen.counted (body (is_some seen.data_count)) (listed (code seen)) c (λ e. (told_yields (is_some seen.data_count)).got c) (λ e. absurd cc))
      (λ x d p. one x d (bodies_tell n seen d last counted) p)
    where
      one : (x : Part) (d : Cursor) → Tells 11 seen.data_count (entries n (row 11) next seen d) → IsToldBody (is_some seen.data_count) x → Tells 11 seen.data_count (after_part x (entries n (row 11) next (noted seen x) d))
      one (Section at id) d h p = absurd p
      one (Listed x) d h p = absurd p
      one (Coded b) d h p = body_tells seen.data_count (Coded b) (entries n (row 11) next seen d) p h

  code_tells : (seen : Seen) (c : Cursor) → seen.last ≡ 11 → seen.counted ≡ false → Tells 11 seen.data_count (contents (row 11) next seen c)
  code_tells seen c last uncounted =
      rw add-one (runs_tell (λ x d. IsItem (IsOf 11) x) 11 seen.data_count (code_entry seen c) _
      (either_got (λ x d. IsItem (IsOf 11) x) seen.counted (body (is_some seen.data_count)) (listed (code seen)) c (λ e. absurd cc) (λ e. (listed_yields (IsOf 11) (code seen) (code_sort seen)).got c))
      one)
    where
      one : (x : Part) (d : Cursor) → IsItem (IsOf 11) x → Tells 11 seen.data_count (after_part x (entries seen.declared (row 11) next (noted seen x) d))
      one (Section at id) d p = absurd p
      one (Coded b) d p = absurd p
      one (Listed (Code count end)) d p =
          with_item 11 seen.data_count (Code count end) (entries seen.declared (row 11) next (record seen { counted = true }) d) (λ e. omega arith) (λ e. omega arith)
          (bodies_tell seen.declared (record seen { counted = true }) d last refl)
      one (Listed x) d p = absurd (omega (arith, p))

  segments_tell : (n : ℕ) → SegmentsNext n (entries n (row 12) next)
  segments_tell zero seen c last =
      let h = finish_tells (row 12) next tells seen c (record { count = λ lt. absurd (omega arith); code = λ lt. absurd (omega arith) }) in
      record { none = h.none (omega arith); told = h.told; many = λ s e. h.over (omega arith) }
  segments_tell (suc n) seen c last = on (segments_tell n) ((row 12).entry seen c) (((row_is_sorted 12 (omega arith) (λ e. omega arith) (λ e. omega arith)).entry seen).got c)
    where
      one : SegmentsNext n (entries n (row 12) next) → (x : Part) (d : Cursor) → IsItem (IsOf 12) x → Segments (suc n) seen.data_count (after_part x (entries n (row 12) next (noted seen x) d))
      one rest (Section at id) d p = absurd p
      one rest (Coded b) d p = absurd p
      one rest (Listed x) d p =
          let no_count : section_of x ≢ 10 = λ e. omega (arith, p, e) in
          let count = note_count seen x no_count in
          let h = subst (λ (k : Option ℕ). Segments n k (entries n (row 12) next (note seen x) d)) count (rest (note seen x) d ((notes seen x).last ∙ last)) in
          let items = items_of (entries n (row 12) next (note seen x) d).parts in
          let counts = count_cons x items no_count in
          record {
            none = counts ∙ h.none;
            told = told_same _ _ _ (sym (with_same seen.data_count (x ∷ items) items counts)) h.told;
            many = λ s e. segments_more x items p ∙ ap suc (h.many s e);
          }

      on : SegmentsNext n (entries n (row 12) next) → (x : Read Part) → IfGot (λ x d. IsItem (IsOf 12) x) x → Segments (suc n) seen.data_count (runs_on x (λ x d. after_part x (entries n (row 12) next (noted seen x) d)))
      on rest (Got x d) p = one rest x d p
      on rest (Fault r) p = record { none = refl; told = All-nil _; many = λ s e. absurd cc }
      on rest Wants p = record { none = refl; told = All-nil _; many = λ s e. absurd cc }

  data_tells : (seen : Seen) (c : Cursor) (before : ℕ) → before < 12 → seen.last ≡ 12 → Tells before seen.data_count (contents (row 12) next seen c)
  data_tells seen c before lt last =
      runs_tell (λ n d. agrees seen.data_count n ≡ true) before seen.data_count (segment_count seen c) _ (count_agrees seen c)
      (λ n d same.
      let h = segments_tell n seen d last in
      let items = items_of (entries n (row 12) next seen d).parts in
      record {
        none = λ le. h.none;
        told = h.told;
        over = λ le. absurd (omega arith);
        whole = λ s e lt. agrees_same _ _ _ _ (sym (with_none seen.data_count items h.none)) (sym (h.many s e)) same;
      })

  -- ---- sections

  custom_tells : (seen : Seen) (c : Cursor) → Fresh seen → Tells seen.last seen.data_count (contents (row 0) next seen c)
  custom_tells seen c fresh =
      runs_tell (λ n d. n ≡ 0) seen.last seen.data_count (custom_name c) _ (no_entries c)
      (λ n d e. subst (λ (k : ℕ). Tells seen.last seen.data_count (entries k (row 0) next seen d)) (sym e) (finish_tells (row 0) next tells seen d fresh))

  some_tells : (seen : Seen) (id : ℕ) (c : Cursor) → Follows seen id → id ≢ 0 → Fresh seen → Tells seen.last seen.data_count (contents (row id) next (record seen { last = id }) c)
  some_tells seen id c follows some fresh =
      let later = follows.later some in
      elim (cases_eq id 10) [
        | inl is_count ↦
            let early : seen.last < 10 = omega (arith, later) in
            let none = fresh.count early in
            let h = count_tells (record seen { last = 10 }) c seen.last early refl (fresh.code (omega arith)) in
            subst (λ (n : ℕ). Tells seen.last seen.data_count (contents (row n) next (record seen { last = n }) c)) (sym is_count)
            (subst (λ (k : Option ℕ). Tells seen.last k (contents (row 10) next (record seen { last = 10 }) c)) (sym none) h)
        | inr no_count ↦ elim (cases_eq id 11) [
          | inl is_code ↦
              let h = code_tells (record seen { last = 11 }) c refl (fresh.code (omega (arith, later))) in
              subst (λ (n : ℕ). Tells seen.last seen.data_count (contents (row n) next (record seen { last = n }) c)) (sym is_code) (earlier seen.last 11 seen.data_count _ (omega (arith, later)) (omega arith) h)
          | inr no_code ↦ elim (cases_eq id 12) [
            | inl is_data ↦
                let h = data_tells (record seen { last = 12 }) c seen.last (omega (arith, later)) refl in
                subst (λ (n : ℕ). Tells seen.last seen.data_count (contents (row n) next (record seen { last = n }) c)) (sym is_data) h
            | inr no_segment ↦
                let inside : Fresh (record seen { last = id }) = record { count = λ lt. fresh.count (omega (arith, later)); code = λ lt. fresh.code (omega (arith, later)) } in
                let h = other_tells id (row id) (row_is_sorted id follows.known some no_code) no_count no_code no_segment next tells (record seen { last = id }) c refl inside in
                earlier seen.last id seen.data_count _ (omega (arith, later)) (omega (arith, follows.known)) h
          ]
        ]
      ]

  contents_tell : (seen : Seen) (id : ℕ) (c : Cursor) → Follows seen id → Fresh seen → Tells seen.last seen.data_count (contents (row id) next (entered seen id) c)
  contents_tell seen id c follows fresh =
      elim (cases_eq id 0) [
        | inl custom ↦ subst (λ (n : ℕ). Tells seen.last seen.data_count (contents (row n) next (entered seen n) c)) (sym custom) (custom_tells seen c fresh)
        | inr some ↦
            let same : entered seen id ≡ record seen { last = id } = rw (ne_eqb id 0 some) refl in
            subst (λ (s : Seen). Tells seen.last seen.data_count (contents (row id) next s c)) (sym same) (some_tells seen id c follows some fresh)
      ]

  section_tells : TellsNext (section next)
  section_tells seen c fresh =
      runs_tell (λ h d. Follows seen h.0) seen.last seen.data_count (header seen c) _ (header_tells seen c) (λ h d f. contents_tell seen h.0 (inside d h.1) f fresh)

-- ---- the end, and the module

none_owed : (count : Option ℕ) (last : ℕ) → (ltb 0 (or_zero count) && ltb last 12) ≡ false → last < 12 → agrees (count_with count []) 0 ≡ true
none_owed None last e lt = refl
none_owed (Some zero) last e lt = refl
none_owed (Some (suc n)) last e lt = absurd (let t = rw (lt-ltb 0 (suc n) (omega arith), lt-ltb last 12 lt) at e in cc)

end_tells : (seen : Seen) → Tells seen.last seen.data_count (at_the_end seen)
end_tells seen =
    elim (cases_Bool (owes seen)) [
      | inl owed ↦ rw owed (refused_tells seen.last seen.data_count Owed (λ s e. cc))
      | inr none ↦ rw none (record { none = λ le. refl; told = All-nil _; over = λ le. refl; whole = λ s e lt. none_owed seen.data_count seen.last (owes_parts seen none).1 lt })
    ]

section_part : (last at id : ℕ) (count : Option ℕ) (r : Run) → Tells last count r → Tells last count (after_part (Section at id) r)
section_part last at id count r h = record { none = h.none; told = h.told; over = h.over; whole = h.whole }

or_tells : (next : Next) → TellsNext next → (seen : Seen) (c : Cursor) (rest : List ℕ) → Fresh seen → Tells seen.last seen.data_count (or_section next seen c rest)
or_tells next tells seen c [] fresh = end_tells seen
or_tells next tells seen c (b ∷ rest) fresh = section_part seen.last c.at (position_of b) seen.data_count (section next seen c) (section_tells next tells seen c fresh)

up_to_tells : (n : ℕ) → TellsNext (sections_up_to n)
unfolding sections_up_to
up_to_tells zero seen c fresh = refused_tells seen.last seen.data_count Owed (λ s e. cc)
up_to_tells (suc n) seen c fresh = or_tells (sections_up_to n) (up_to_tells n) seen c c.rest fresh

module_tells : (bytes : List ℕ) → Tells 0 None (module_read bytes)
module_tells bytes =
    runs_tell (λ v c. Unit {0}) 0 None (preamble (beginning bytes)) _ (always (preamble (beginning bytes)))
    (λ v c t. up_to_tells (length c.rest + 1) nothing c (record { count = λ lt. refl; code = λ lt. refl }))

pub bodies_are_told : (bytes : List ℕ) → AreToldOf (data_count_of (items_of (module_read bytes).parts)) (bodies_of (module_read bytes).parts)
bodies_are_told bytes = (module_tells bytes).told

pub segments_agree : (bytes : List ℕ) (seen : Seen) → (module_read bytes).ending ≡ Whole seen
    → agrees (data_count_of (items_of (module_read bytes).parts)) (segment_count_of (items_of (module_read bytes).parts)) ≡ true
segments_agree bytes seen e = (module_tells bytes).whole seen e (omega arith)
