-- What each step of reading reports of the module, and where it halts.
use Rattle.std.proofs.Common.{◌≡◌, ◌≢◌, ℕ, suc, ◌+◌, ◌-◌, if◌then◌else◌, ◌<◌, ◌≤◌, Bool, true, false, eqb, List, [], ◌∷◌, ◌++◌, length, refl, sym, ap, ◌∙◌, arith, inl, inr, ◌⊎◌}
use Rattle.std.proofs.lemmas.Bool.{cases_Bool, cases_eq, eq-eqb, ne_eqb, lt-leb, eqb-true}
use Rattle.wasm_defs.specs.declared.fault.Kind.TheVariants.{Malformed}
use Rattle.wasm_defs.specs.declared.item.Item.{Item}
use Rattle.wasm_defs.specs.declared.item.Item.TheVariants as item
use Rattle.wasm_defs.specs.Fields.{Cursor, Read, Got, Fault, Wants, Reader, then_go, ◌>>=◌, done, refused, room_of, past, u32, stop}
use Rattle.wasm_defs.specs.Entries.{Seen, note, function, code}
use Rattle.wasm_defs.specs.Outside.{position_of, Part, Section, Listed, Coded, Nothing, listed, Row, row, Run, ends, Refused, after_part, runs_on, preamble, header, entered, noted, inside, contents, entries, sections, or_section, section_end}
use Rattle.wasm_laws.specs.Steadiness.{with_more, IfGot}
use Rattle.wasm_laws.proofs.Headers.{Follows, header_tells, entered_as}
use Rattle.wasm_laws.proofs.Sorts.{IsPlain, IsFunction, IsItem, listed_yields, function_yields, row_is_plain, notes, plain_keeps}
use Rattle.wasm_laws.proofs.EntryLaws.{header_steady, preamble_steady}
use Rattle.wasm_laws.proofs.RowLaws.{end_steady}
use Rattle.wasm_laws.proofs.Parts.{got_is}
use Rattle.leb_feed.specs.declared.stop.Stop.{Stop}
use Rattle.leb_feed.specs.declared.stop.Stop.TheVariants as stops
use Rattle.leb_feed.specs.Reads.{Stops}
use Rattle.section_reader.specs.declared.stage.Stage.{Stage}
use Rattle.section_reader.specs.declared.stage.Stage.TheVariants.{Preamble, Between, Contents, Entries}
use Rattle.section_reader.specs.Outline.{outline_row}
use Rattle.section_reader.specs.Stages.{passes, between, is_at_bodies}
use Rattle.section_reader.specs.Onward.{entries_owed, onward, after_parts, AreSections, begun_section, next_part, HaltsOnward, IsOrdered, IsBehind, is_count}
use Rattle.section_reader.proofs.Runs.{sections_are}
use Rattle.section_reader.proofs.OutlineRuns.{outline_steady, passed_over}
use Rattle.section_reader.proofs.Leading.{more_got, more_refused, runs_refused, runs_owed, at_bytes, over_if, rest_is, passed_same}

-- ---- sections that are reported

pub sections_append : (xs ys : List Part) → AreSections xs → AreSections ys → AreSections (xs ++ ys)
sections_append [] ys h k = k
sections_append (Section at id ∷ xs) ys h k = sections_append xs ys h k
sections_append (Listed x ∷ xs) ys h k = absurd h
sections_append (Coded b ∷ xs) ys h k = absurd h

pub after_append : (xs ys : List Part) (r : Run) → after_parts (xs ++ ys) r ≡ after_parts xs (after_parts ys r)
after_append [] ys r = refl
after_append (x ∷ xs) ys r = ap (after_part x) (after_append xs ys r)

next_is_section : (at : ℕ) (bytes : List ℕ) → AreSections (next_part at bytes)
next_is_section at [] = tt
next_is_section at (b ∷ bytes) = tt

pub begun_is_section : (stage : Stage) (c : Cursor) → AreSections (begun_section stage c)
begun_is_section Preamble c = tt
begun_is_section Between c = next_is_section c.at c.rest
begun_is_section (Contents id) c = tt
begun_is_section (Entries id n) c = tt

-- ---- what was read

-- the code section's count: it is that of the declared functions, and its item says where the section ends
pub record CodeRead (seen : Seen) (x : Part) (d : Cursor) : Type 0 where
  pub count : ℕ × ℕ
  pub is : x ≡ Listed (item.Code count d.end)
  pub declared : count.1 ≡ seen.declared

pub code_reads : (seen : Seen) (c : Cursor) → IfGot (λ x d. CodeRead seen x d) (listed (code seen) c)
unfolding code stop
code_reads seen c = of_count (u32 c)
  where
    of_count : (r : Read (ℕ × ℕ)) → IfGot (λ x d. CodeRead seen x d) (then_go (then_go r (λ n. if eqb n.1 seen.declared then (stop >>= (λ end. done (item.Code n end))) else refused Malformed n.0)) (λ x. done (Listed x)))
    of_count (Got n d) = elim (cases_Bool (eqb n.1 seen.declared)) [
      | inl e ↦ rw e (record { count = n; is = refl; declared = eqb-true n.1 seen.declared e })
      | inr other ↦ rw other tt
    ]
    of_count (Fault r) = tt
    of_count Wants = tt

-- an item of another section
abbrev IsOther : Item → Type 0
IsOther x = IsPlain x ⊎ IsFunction x

part_is_other : (id : ℕ) → id ≢ 11 → (seen : Seen) (c d : Cursor) (x : Item) → (row id).entry seen c ≡ Got (Listed x) d → IsOther x
part_is_other id other seen c d x e =
    elim (cases_eq id 3) [
      | inl functions ↦ let h : listed (function seen) c ≡ Got (Listed x) d = rw functions at e in inr (got_is (λ y f. IsItem IsFunction y) (listed (function seen) c) (Listed x) d h ((listed_yields IsFunction (function seen) (function_yields seen)).got c))
      | inr not_functions ↦ inl (got_is (λ y f. IsItem IsPlain y) ((row id).entry seen c) (Listed x) d e (((row_is_plain id not_functions other).entry seen).got c))
    ]

other_counted : (s : Seen) (x : Item) → IsOther x → (note s x).counted ≡ s.counted
other_counted s x (inl plain) = (plain_keeps s x plain).1
other_counted s x (inr function) = of_function x function
  where
    of_function : (x : Item) → IsFunction x → (note s x).counted ≡ s.counted
    of_function (item.Function index) h = refl
    of_function _ h = absurd h

other_count : (x : Item) → IsOther x → is_count x ≡ false
other_count (item.Code count end) h = elim h [ inl plain ↦ absurd plain | inr function ↦ absurd function ]
other_count _ h = refl

other_behind : (x : Item) → IsOther x → (stage : Stage) (seen : Seen) (end : ℕ) → is_at_bodies stage ≡ false → IsBehind x stage seen end
other_behind x h stage seen end e =
    let none = other_count x h in
    record { place = e ∙ sym none; count = λ t. absurd (let f = sym none ∙ t in cc); there = λ t. absurd (let f = sym none ∙ t in cc) }

-- ---- rows

-- all sections but the code section have the same row in both definitions
pub other_row : (id : ℕ) → id ≢ 11 → outline_row id ≡ row id
other_row id other = rw (ne_eqb id 11 other) refl

owed_other : (id n : ℕ) (seen : Seen) → id ≢ 11 → entries_owed id n seen ≡ n
owed_other id n seen other = rw (ne_eqb id 11 other) refl

pub apart_other : (id : ℕ) → is_at_bodies (Entries id 0) ≡ false → id ≢ 11
apart_other id apart = λ e. absurd (let t = rw e at apart in cc)

-- where an entry is owed, it is the same one in both definitions
same_entry : (id n : ℕ) (seen : Seen) → 0 < n → IsOrdered (Entries id n) seen → (row id).entry seen ≡ (outline_row id).entry seen
same_entry id n seen some o =
    elim (cases_eq id 11) [
      | inl e ↦
          let uncounted : seen.counted ≡ false = (o.code (eq-eqb id 11 e)).counted ∙ ne_eqb n 0 (λ none. omega arith) in
          rw e (rw uncounted refl)
      | inr other ↦ ap (λ (r : Row). r.entry seen) (sym (other_row id other))
    ]

owed_one : (id n : ℕ) (seen : Seen) → 0 < n → entries_owed id n seen ≡ suc (entries_owed id (n - 1) seen)
owed_one id n seen some =
    elim (cases_Bool (eqb id 11)) [
      | inl e ↦ rw e (omega arith)
      | inr other ↦ rw other (omega arith)
    ]

pub entry_is : (id n : ℕ) (seen : Seen) (f : Cursor) → 0 < n → IsOrdered (Entries id n) seen
    → onward (Entries id n) seen f ≡ runs_on ((outline_row id).entry seen f) (λ x g. after_part x (entries (entries_owed id (n - 1) seen) (row id) sections (noted seen x) g))
entry_is id n seen f some o =
    ap (λ (k : ℕ). entries k (row id) sections seen f) (owed_one id n seen some)
    ∙ ap (λ (p : Reader Part). runs_on (p f) (λ x g. after_part x (entries (entries_owed id (n - 1) seen) (row id) sections (noted seen x) g))) (same_entry id n seen some o)

pub contents_are : (id : ℕ) (seen : Seen) (f : Cursor) → id ≢ 11 → onward (Contents id) seen f ≡ contents (outline_row id) sections seen f
contents_are id seen f other = ap (λ (r : Row). contents r sections seen f) (sym (other_row id other))

pub entries_are : (id n : ℕ) (seen : Seen) (f : Cursor) → id ≢ 11 → onward (Entries id n) seen f ≡ entries n (outline_row id) sections seen f
entries_are id n seen f other =
    ap (λ (k : ℕ). entries k (row id) sections seen f) (owed_other id n seen other)
    ∙ ap (λ (r : Row). entries n r sections seen f) (sym (other_row id other))

-- ---- order

pub ordered_between : (stage : Stage) (seen : Seen) → IsOrdered stage seen → IsOrdered Between seen
ordered_between stage seen o = record { late = o.late; code = λ e. absurd cc }

ordered_entered : (seen : Seen) (id : ℕ) → Follows seen id → IsOrdered Between seen → IsOrdered (Contents id) (entered seen id)
ordered_entered seen id f o =
    elim (entered_as seen id) [
      | inl custom ↦ rw custom.1 (record { late = o.late; code = λ e. absurd (let h = eqb-true id 11 e in omega (arith, custom.0)) })
      | inr other ↦ let later : seen.last < id = f.later other.0 in rw other.1 (record {
        late = λ e. let h : 11 ≤ seen.last = o.late e in omega arith;
        code = λ e. let is = eqb-true id 11 e in record {
          counted = elim (cases_Bool seen.counted) [ inl counted ↦ absurd (let h : 11 ≤ seen.last = o.late counted in omega arith) | inr uncounted ↦ uncounted ];
          few = omega arith;
          last = omega arith;
        };
      })
    ]

-- ---- to the next stage

module _ (seen : Seen) (c d : Cursor) where
  pub preamble_run : (v : ℕ) → preamble c ≡ Got v d → (more : List ℕ) → onward Preamble seen (with_more c more) ≡ onward Between seen (with_more d more)
  preamble_run v e = λ more. ap (λ (r : Read ℕ). runs_on r (λ x f. sections seen f)) (more_got preamble (preamble_steady []).by c d v e more)

  pub header_run : (h : ℕ × ℕ) (b : ℕ) (bytes : List ℕ) → c.rest ≡ b ∷ bytes → header seen c ≡ Got h d → (more : List ℕ)
      → onward Between seen (with_more c more) ≡ after_part (Section c.at (position_of b)) (onward (Contents h.0) (entered seen h.0) (with_more (inside d h.1) more))
  header_run h b bytes some e = λ more.
      sections_are seen (with_more c more)
      ∙ ap (λ (l : List ℕ). or_section sections seen (with_more c more) (l ++ more)) some
      ∙ ap (λ (r : Read (ℕ × ℕ)). after_part (Section c.at (position_of b)) (runs_on r (λ k f. contents (row k.0) sections (entered seen k.0) (inside f k.1)))) (more_got (header seen) (header_steady [] seen).by c d h e more)

  pub header_ordered : (h : ℕ × ℕ) → header seen c ≡ Got h d → IsOrdered Between seen → IsOrdered (Contents h.0) (entered seen h.0)
  header_ordered h e o = ordered_entered seen h.0 (got_is (λ k f. Follows seen k.0) (header seen c) h d e (header_tells seen c)) o

  -- the code section's count is one entry, and its bodies are as many as were declared
  pub front_run : (id n : ℕ) → (outline_row id).front seen c ≡ Got n d → (more : List ℕ) → onward (Contents id) seen (with_more c more) ≡ onward (Entries id n) seen (with_more d more)
  front_run id n e = λ more.
      elim (cases_eq id 11) [
        | inl is ↦
            let t : Got 1 c ≡ Got n d = rw is at e in
            let one : 1 ≡ n = cc in
            let same : c ≡ d = cc in
            rw (is, ← one, ← same) (ap (λ (k : ℕ). entries k (row 11) sections seen (with_more c more)) (omega arith))
        | inr other ↦
            contents_are id seen (with_more c more) other
            ∙ ap (λ (r : Read ℕ). runs_on r (λ k f. entries k (outline_row id) sections seen f)) (more_got ((outline_row id).front seen) ((outline_steady id).front seen).by c d n e more)
            ∙ sym (entries_are id n seen (with_more d more) other)
      ]

  pub front_ordered : (id n : ℕ) → (outline_row id).front seen c ≡ Got n d → IsOrdered (Contents id) seen → IsOrdered (Entries id n) seen
  front_ordered id n e o = record {
    late = o.late;
    code = λ h.
        let t : Got 1 c ≡ Got n d = rw (eqb-true id 11 h) at e in
        let one : 1 ≡ n = cc in
        let p = o.code h in
        rw (← one) (record { counted = p.counted; few = omega arith; last = p.last });
  }

  pub front_apart : (id n : ℕ) → (outline_row id).front seen c ≡ Got n d → is_at_bodies (Entries id n) ≡ false
  front_apart id n e =
      elim (cases_eq id 11) [
        | inl is ↦ let t : Got 1 c ≡ Got n d = rw is at e in let one : 1 ≡ n = cc in rw (is, ← one) refl
        | inr other ↦ rw (ne_eqb id 11 other) refl
      ]

-- ---- an item

module _ (id n : ℕ) (seen : Seen) (c d : Cursor) (x : Item) (some : 0 < n) (e : (outline_row id).entry seen c ≡ Got (Listed x) d) where
  -- the code section's count, or an item of another section
  record Count : Type 0 where
    place : id ≡ 11
    count : ℕ × ℕ
    is : x ≡ item.Code count d.end
    declared : count.1 ≡ seen.declared

  which : Count ⊎ ((id ≢ 11) × IsOther x)
  which =
      elim (cases_eq id 11) [
        | inl place ↦
            let h : listed (code seen) c ≡ Got (Listed x) d = rw place at e in
            let p = got_is (λ y f. CodeRead seen y f) (listed (code seen) c) (Listed x) d h (code_reads seen c) in
            inl (record { place = place; count = p.count; is = listed_is x (item.Code p.count d.end) p.is; declared = p.declared })
        | inr other ↦
            let h : (row id).entry seen c ≡ Got (Listed x) d = ap (λ (r : Row). r.entry seen c) (sym (other_row id other)) ∙ e in
            inr (other, part_is_other id other seen c d x h)
      ]
    where
      listed_is : (x y : Item) → Listed x ≡ Listed y → x ≡ y
      listed_is x y h = cc

  owed_noted : entries_owed id (n - 1) seen ≡ entries_owed id (n - 1) (note seen x)
  owed_noted =
      elim which [
        | inl p ↦ rw p.is refl
        | inr p ↦ owed_other id (n - 1) seen p.0 ∙ sym (owed_other id (n - 1) (note seen x) p.0)
      ]

  pub entry_run : IsOrdered (Entries id n) seen → (more : List ℕ) → onward (Entries id n) seen (with_more c more) ≡ after_part (Listed x) (onward (Entries id (n - 1)) (note seen x) (with_more d more))
  entry_run o = λ more.
      entry_is id n seen (with_more c more) some o
      ∙ ap (λ (r : Read Part). runs_on r (λ y g. after_part y (entries (entries_owed id (n - 1) seen) (row id) sections (noted seen y) g))) (more_got ((outline_row id).entry seen) ((outline_steady id).entry seen).by c d (Listed x) e more)
      ∙ ap (λ (k : ℕ). after_part (Listed x) (entries k (row id) sections (note seen x) (with_more d more))) owed_noted

  pub entry_ordered : IsOrdered (Entries id n) seen → IsOrdered (Entries id (n - 1)) (note seen x)
  entry_ordered o =
      let last = (notes seen x).last in
      elim which [
        | inl p ↦
            let h = o.code (eq-eqb id 11 p.place) in
            let few : n ≤ 1 = h.few in
            let none : n - 1 ≡ 0 = omega arith in
            let after : 11 ≤ (note seen x).last = omega (arith, h.last, last) in
            record { late = λ _. after; code = λ _. record { counted = rw (p.is, none) refl; few = omega arith; last = after } }
        | inr p ↦ record {
          late = λ counted. let h : 11 ≤ seen.last = o.late (sym (other_counted seen x p.1) ∙ counted) in omega (arith, last);
          code = λ e. absurd (p.0 (eqb-true id 11 e));
        }
      ]

  pub entry_behind : IsOrdered (Entries id n) seen → IsBehind x (Entries id (n - 1)) (note seen x) d.end
  entry_behind o =
      elim which [
        | inl p ↦
            let few : n ≤ 1 = (o.code (eq-eqb id 11 p.place)).few in
            let none : n - 1 ≡ 0 = omega arith in
            rw (p.is, p.place, none) (record { place = refl; count = λ _. p.declared; there = λ _. refl })
        | inr p ↦ other_behind x p.1 (Entries id (n - 1)) (note seen x) d.end (rw (ne_eqb id 11 p.0) refl)
      ]

-- ---- a section's end

pub back_run : (id : ℕ) (seen : Seen) (c d e : Cursor) → is_at_bodies (Entries id 0) ≡ false → (outline_row id).back c ≡ Got tt d → section_end d ≡ Got tt e
    → (more : List ℕ) → onward (Entries id 0) seen (with_more c more) ≡ onward Between seen (with_more e more)
back_run id seen c d e apart back over = λ more.
    entries_are id 0 seen (with_more c more) (apart_other id apart)
    ∙ ap (λ (r : Read Nothing). runs_on r (λ x f. runs_on (section_end f) (λ y g. sections seen g))) (more_got (outline_row id).back (outline_steady id).back.by c d tt back more)
    ∙ ap (λ (r : Read Nothing). runs_on r (λ y g. sections seen g)) (more_got section_end end_steady.by d e tt over more)

abbrev after_back : Seen → Read Nothing → Run
after_back seen r = runs_on r (λ x f. runs_on (section_end f) (λ y g. sections seen g))

-- what is there of a custom section's rest is passed over
pub pass_run : (seen : Seen) (at end id : ℕ) (bytes : List ℕ) → is_at_bodies (Entries id 0) ≡ false → passes id ≡ true → at + length bytes ≤ end
    → (more : List ℕ) → onward (Entries id 0) seen (with_more (at_bytes at end bytes) more) ≡ onward (Entries id 0) seen (with_more (at_bytes (at + length bytes) end []) more)
pass_run seen at end id bytes apart passing fits = λ more.
    entries_are id 0 seen (at_bytes at end (bytes ++ more)) (apart_other id apart)
    ∙ ap (λ (p : Reader Nothing). after_back seen (p (at_bytes at end (bytes ++ more)))) (passed_over id passing)
    ∙ ap (after_back seen) (passed_same at end bytes more fits)
    ∙ sym (ap (λ (p : Reader Nothing). after_back seen (p (at_bytes (at + length bytes) end more))) (passed_over id passing))
    ∙ sym (entries_are id 0 seen (at_bytes (at + length bytes) end more) (apart_other id apart))

-- ---- where reading halts

module _ (seen : Seen) (c : Cursor) where
  pub preamble_halts : (s : Stop) → Stops s (preamble c) → HaltsOnward Preamble seen c s
  preamble_halts (stops.Refused r) h = λ more. runs_refused r _ _ (more_refused preamble (preamble_steady []).by c r h more)
  preamble_halts stops.Wants h = runs_owed _ _ h
  preamble_halts stops.NoMemory h = tt

  pub header_halts : (b : ℕ) (bytes : List ℕ) (s : Stop) → c.rest ≡ b ∷ bytes → Stops s (header seen c) → HaltsOnward Between seen c s
  header_halts b bytes (stops.Refused r) some h = λ more.
      sections_are seen (with_more c more)
      ∙ ap (λ (l : List ℕ). or_section sections seen (with_more c more) (l ++ more)) some
      ∙ ap (after_part (Section c.at (position_of b))) (runs_refused r _ _ (more_refused (header seen) (header_steady [] seen).by c r h more))
      ∙ sym (ap (λ (l : List ℕ). after_parts (next_part c.at l) (ends (Refused r))) some)
  header_halts b bytes stops.Wants some h =
      sections_are seen c
      ∙ ap (or_section sections seen c) some
      ∙ ap (after_part (Section c.at (position_of b))) (runs_owed _ _ h)
      ∙ sym (ap (λ (l : List ℕ). after_parts (next_part c.at l) (between seen l)) some)
  header_halts b bytes stops.NoMemory some h = tt

  pub between_ends : c.rest ≡ [] → HaltsOnward Between seen c stops.Wants
  between_ends none =
      sections_are seen c
      ∙ ap (or_section sections seen c) none
      ∙ sym (ap (λ (l : List ℕ). after_parts (next_part c.at l) (between seen l)) none)

  pub front_halts : (id : ℕ) (s : Stop) → Stops s ((outline_row id).front seen c) → HaltsOnward (Contents id) seen c s
  front_halts id (stops.Refused r) h = λ more.
      elim (cases_eq id 11) [
        | inl is ↦ absurd (let t : Got 1 c ≡ Fault r = rw is at h in cc)
        | inr other ↦ contents_are id seen (with_more c more) other ∙ runs_refused r _ _ (more_refused ((outline_row id).front seen) ((outline_steady id).front seen).by c r h more)
      ]
  front_halts id stops.Wants h =
      elim (cases_eq id 11) [
        | inl is ↦ absurd (let t : Got 1 c ≡ Wants = rw is at h in cc)
        | inr other ↦ contents_are id seen c other ∙ runs_owed _ _ h
      ]
  front_halts id stops.NoMemory h = tt

  pub entry_halts : (id n : ℕ) (s : Stop) → 0 < n → IsOrdered (Entries id n) seen → Stops s ((outline_row id).entry seen c) → HaltsOnward (Entries id n) seen c s
  entry_halts id n (stops.Refused r) some o h = λ more. entry_is id n seen (with_more c more) some o ∙ runs_refused r _ _ (more_refused ((outline_row id).entry seen) ((outline_steady id).entry seen).by c r h more)
  entry_halts id n stops.Wants some o h = entry_is id n seen c some o ∙ runs_owed _ _ h
  entry_halts id n stops.NoMemory some o h = tt

  pub back_halts : (id : ℕ) (s : Stop) → is_at_bodies (Entries id 0) ≡ false → Stops s ((outline_row id).back c) → HaltsOnward (Entries id 0) seen c s
  back_halts id (stops.Refused r) apart h = λ more. entries_are id 0 seen (with_more c more) (apart_other id apart) ∙ runs_refused r _ _ (more_refused (outline_row id).back (outline_steady id).back.by c r h more)
  back_halts id stops.Wants apart h = entries_are id 0 seen c (apart_other id apart) ∙ runs_owed _ _ h
  back_halts id stops.NoMemory apart h = tt

  abbrev at_end : Nothing → Cursor → Run
  at_end = λ x f. runs_on (section_end f) (λ y g. sections seen g)

  pub end_halts : (id : ℕ) (d : Cursor) (s : Stop) → is_at_bodies (Entries id 0) ≡ false → (outline_row id).back c ≡ Got tt d → Stops s (section_end d) → HaltsOnward (Entries id 0) seen c s
  end_halts id d (stops.Refused r) apart back h = λ more.
      entries_are id 0 seen (with_more c more) (apart_other id apart)
      ∙ ap (λ (r : Read Nothing). runs_on r at_end) (more_got (outline_row id).back (outline_steady id).back.by c d tt back more)
      ∙ runs_refused r _ _ (more_refused section_end end_steady.by d r h more)
  end_halts id d stops.Wants apart back h =
      entries_are id 0 seen c (apart_other id apart) ∙ ap (λ (r : Read Nothing). runs_on r at_end) back ∙ runs_owed _ _ h
  end_halts id d stops.NoMemory apart back h = tt

  -- a section has bytes left, and none is there
  pub pass_halts : (id : ℕ) → is_at_bodies (Entries id 0) ≡ false → passes id ≡ true → length c.rest ≡ 0 → 0 < room_of c → HaltsOnward (Entries id 0) seen c stops.Wants
  pass_halts id apart passing none some =
      entries_are id 0 seen c (apart_other id apart)
      ∙ runs_owed _ _ (ap (λ (p : Reader Nothing). p c) (passed_over id passing) ∙ rest_is c ∙ ap (λ (b : Bool). over_if b (past c (room_of c))) (lt-leb (room_of c) (length c.rest) (omega arith)))
