-- What is read where no byte is there.
use Rattle.std.proofs.Common.{◌≡◌, ℕ, suc, ◌-◌, ◌<◌, ◌≤◌, Bool, true, false, cond, leb, eqb, List, [], length, refl, ap, ◌∙◌, arith, add-one, add-zero, inl, inr, ◌⊎◌}
use Rattle.std.proofs.lemmas.Bool.{cases_Bool, cases_eq, cases_lt, eq-eqb, ne_eqb, le-leb, lt-leb, lt-ltb, le-ltb}
use Rattle.wasm_defs.specs.declared.item.Item.{Item}
use Rattle.wasm_defs.specs.Numbers.{number_at}
use Rattle.wasm_defs.specs.Fields.{Cursor, Read, Reader, then_go, ◌>>=◌, done, window, room_of, cut, first_of, byte, from_reading, number, u32, count, name_from, name, fixed}
use Rattle.wasm_defs.specs.Entries.{Seen, index, value_type, limits, signature, imported, function, table, memory, global, exported, start, element, code, data_count, segment}
use Rattle.wasm_defs.specs.Faults.{ending_fault}
use Rattle.wasm_defs.specs.Outside.{Nothing, Run, Owed, ends, runs_on, listed, Row, entries_of, body, number_of, at_most_one, function_count, segment_count, custom_name, magic, preamble, entries, after_part, section_end, no_end, owes, noted}
use Rattle.wasm_laws.proofs.Windows.{all_of}
use Rattle.section_reader.specs.declared.stage.Stage.{Stage}
use Rattle.section_reader.specs.declared.stage.Stage.TheVariants.{Preamble, Between, Contents, Entries}
use Rattle.section_reader.specs.Outline.{outline_row, outline_sections}
use Rattle.section_reader.specs.Stages.{proceed, passes, cut_there, due, silent}
use Rattle.section_reader.proofs.OutlineRuns.{outline_is}
use Rattle.section_reader.proofs.Leading.{at_bytes, rest_is}
use Rattle.section_reader.proofs.Going.{nothing_back, rest_back}

-- a reader that begins with a field
abbrev pub Needs : {A : Type 0} → Reader A → Type 0
Needs p = (at end : ℕ) → p (at_bytes at end []) ≡ cut (at_bytes at end [])

no_window : (at end : ℕ) → window (at_bytes at end []) ≡ []
no_window at end = all_of (end - at) [] (omega arith)

then_cut : {A B : Type 0} (c : Cursor) (x : Read A) (f : A → Reader B) → x ≡ cut c → then_go x f ≡ cut c
then_cut c x f e =
    elim (cases_Bool (leb (room_of c) (length c.rest))) [
      | inl there ↦ rw (e, there) refl
      | inr short ↦ rw (e, short) refl
    ]

bind : {A B : Type 0} (p : Reader A) (f : A → Reader B) → Needs p → Needs (p >>= f)
bind p f h = λ at end. then_cut (at_bytes at end []) (p (at_bytes at end [])) f (h at end)

either : {A : Type 0} (b : Bool) (p q : Reader A) → Needs p → Needs q → Needs (cond b p q)
either true p q hp hq = hp
either false p q hp hq = hq

byte_needs : Needs byte
unfolding byte
byte_needs = λ at end. ap (first_of (at_bytes at end [])) (no_window at end)

number_needs : (signed : Bool) (bits : ℕ) → Needs (number signed bits)
unfolding number number_at
number_needs signed bits = λ at end. ap (λ (w : List ℕ). from_reading (at_bytes at end []) (number_at signed bits w)) (no_window at end)

name_needs : Needs name
unfolding name number_at
name_needs = λ at end.
    ap (λ (w : List ℕ). name_from (at_bytes at end []) (number_at false 32 w)) (no_window at end)
    ∙ rw (no_window at end) (elim (cases_lt 0 (end - at)) [
      | inl some ↦ rw (le-ltb (end - at) 1 (omega arith), lt-leb (end - at) 0 some) refl
      | inr none ↦ rw (lt-ltb (end - at) 1 (omega arith), le-leb (end - at) 0 (omega arith)) refl
    ])

magic_needs : Needs (fixed magic)
unfolding fixed
magic_needs = λ at end. rw (no_window at end) refl

pub preamble_needs : Needs preamble
unfolding preamble
preamble_needs = bind (fixed magic) _ magic_needs

ruleset begins = (bind, either, byte_needs, number_needs, name_needs)

u32_needs : Needs u32
unfolding u32
u32_needs = search begins depth 20

count_needs : (most : ℕ) → Needs (count most)
unfolding count
count_needs most = bind u32 _ u32_needs

index_needs : (most : ℕ) → Needs (index most)
unfolding index
index_needs most = bind u32 _ u32_needs

value_type_needs : Needs value_type
unfolding value_type
value_type_needs = bind byte _ byte_needs

limits_needs : (most top : ℕ) → Needs (limits most top)
unfolding limits
limits_needs most top = bind byte _ byte_needs

-- ---- rows

listed_needs : (p : Reader Item) → Needs p → Needs (listed p)
listed_needs p h = bind p _ h

start_needs : (seen : Seen) → Needs (start seen)
unfolding start
start_needs seen = bind (index seen.functions) _ (index_needs seen.functions)

code_needs : (seen : Seen) → Needs (code seen)
unfolding code
code_needs seen = bind u32 _ u32_needs

number_of_needs : (most : ℕ) → Needs (number_of most)
unfolding number_of
number_of_needs most = bind (count most) _ (count_needs most)

at_most_one_needs : Needs at_most_one
unfolding at_most_one
at_most_one_needs = bind u32 _ u32_needs

-- a row begins with a field, or it has so many entries at once
pub record RowNeeds (r : Row) : Type 0 where
  pub front : (seen : Seen) → Needs (r.front seen) ⊎ ((n : ℕ) × (r.front seen ≡ done (suc n)))
  pub entry : (seen : Seen) → Needs (r.entry seen)

either_row : (b : Bool) (p q : Row) → RowNeeds p → RowNeeds q → RowNeeds (cond b p q)
either_row true p q hp hq = hp
either_row false p q hp hq = hq

listing : (front : Seen → Reader ℕ) (entry : Seen → Reader Item) → ((seen : Seen) → Needs (front seen)) → ((seen : Seen) → Needs (entry seen)) → RowNeeds (entries_of front entry)
listing front entry hf he = record { front = λ s. inl (hf s); entry = λ s. listed_needs (entry s) (he s) }

-- each reader begins with a field that needs a byte
pub row_needs : (id : ℕ) → RowNeeds (outline_row id)
unfolding signature imported function table memory global exported element data_count segment body function_count segment_count custom_name
row_needs id =
    either_row (eqb id 11) _ _ (record { front = λ s. inr (0, refl); entry = λ s. listed_needs (code s) (code_needs s) })
    (either_row (eqb id 1) _ _ (listing _ _ (λ s. number_of_needs _) (λ s. bind byte _ byte_needs))
    (either_row (eqb id 2) _ _ (listing _ _ (λ s. number_of_needs _) (λ s. bind name _ name_needs))
    (either_row (eqb id 3) _ _ (listing _ _ (λ s. bind u32 _ u32_needs) (λ s. bind (index s.types) _ (index_needs s.types)))
    (either_row (eqb id 4) _ _ (listing _ _ (λ s. at_most_one_needs) (λ s. bind byte _ byte_needs))
    (either_row (eqb id 5) _ _ (listing _ _ (λ s. at_most_one_needs) (λ s. bind (limits _ _) _ (limits_needs _ _)))
    (either_row (eqb id 6) _ _ (listing _ _ (λ s. number_of_needs _) (λ s. bind value_type _ value_type_needs))
    (either_row (eqb id 7) _ _ (listing _ _ (λ s. number_of_needs _) (λ s. bind name _ name_needs))
    (either_row (eqb id 8) _ _ (record { front = λ s. inr (0, refl); entry = λ s. listed_needs (start s) (start_needs s) })
    (either_row (eqb id 9) _ _ (listing _ _ (λ s. number_of_needs _) (λ s. bind (index s.tables) _ (index_needs s.tables)))
    (either_row (eqb id 10) _ _ (record { front = λ s. inr (0, refl); entry = λ s. listed_needs (data_count s) (bind (count _) _ (count_needs _)) })
    (either_row (eqb id 11) _ _ (record { front = λ s. inr (s.declared, ap done (add-one s.declared)); entry = λ s. either s.counted _ _ (bind u32 _ u32_needs) (listed_needs (code s) (code_needs s)) })
    (either_row (eqb id 12) _ _ (listing _ _ (λ s. bind u32 _ u32_needs) (λ s. bind u32 _ u32_needs))
    (record { front = λ s. inl (bind name _ name_needs); entry = λ s. listed_needs (start s) (start_needs s) })))))))))))))

-- ---- endings

cut_ends : {A : Type 0} (at end : ℕ) (x : Read A) (f : A → Cursor → Run) → at ≤ end → x ≡ cut (at_bytes at end []) → ending_fault at (runs_on x f).ending ≡ cut_there at end
cut_ends at end x f le e =
    elim (cases_eq at end) [
      | inl over ↦ rw (e, le-leb (end - at) 0 (omega arith), eq-eqb at end over) refl
      | inr some ↦ rw (e, lt-leb (end - at) 0 (omega arith), ne_eqb at end some) refl
    ]

module _ (seen : Seen) (at end : ℕ) (le : at ≤ end) where
  entries_end : (id n : ℕ) → ending_fault at (entries (suc n) (outline_row id) outline_sections seen (at_bytes at end [])).ending ≡ cut_there at end
  entries_end id n = cut_ends at end ((outline_row id).entry seen (at_bytes at end [])) (λ x d. after_part x (entries n (outline_row id) outline_sections (noted seen x) d)) le ((row_needs id).entry seen at end)

  contents_end : (id : ℕ) → ending_fault at (proceed (Contents id) seen (at_bytes at end [])).ending ≡ cut_there at end
  contents_end id =
      elim ((row_needs id).front seen) [
        | inl field ↦ cut_ends at end ((outline_row id).front seen (at_bytes at end [])) (λ n d. entries n (outline_row id) outline_sections seen d) le (field at end)
        | inr given ↦ ap (λ (p : Reader ℕ). ending_fault at (runs_on (p (at_bytes at end [])) (λ n d. entries n (outline_row id) outline_sections seen d)).ending) given.1 ∙ entries_end id given.0
      ]

  between_end : (far : ℕ) → ending_fault at (outline_sections seen (at_bytes at far [])).ending ≡ due seen at
  between_end far =
      ap (λ (r : Run). ending_fault at r.ending) (outline_is seen (at_bytes at far []))
      ∙ elim (cases_Bool (owes seen)) [
        | inl owes ↦ rw owes refl
        | inr none ↦ rw none refl
      ]

  -- where a section's bytes are all read
  abbrev after_back : Nothing → Cursor → Run
  after_back = λ x d. runs_on (section_end d) (λ y e. outline_sections seen e)

  end_there : at ≡ end → ending_fault at (after_back tt (at_bytes at end [])).ending ≡ due seen at
  unfolding section_end
  end_there over = rw (eq-eqb (end - at) 0 (omega arith)) (between_end no_end)

  end_later : at < end → after_back tt (at_bytes at end []) ≡ ends Owed
  unfolding section_end
  end_later more = rw (ne_eqb (end - at) 0 (λ e. omega (arith, e))) refl

  back_end : (id : ℕ) → ending_fault at (proceed (Entries id 0) seen (at_bytes at end [])).ending ≡ silent (Entries id 0) seen at end
  back_end id =
      elim (cases_Bool (passes id)) [
        | inl passing ↦ ap (λ (r : Read Nothing). ending_fault at (runs_on r after_back).ending) (rest_back id (at_bytes at end []) passing ∙ rest_is (at_bytes at end []))
            ∙ elim (cases_eq at end) [
              | inl over ↦ let none : end - at ≡ 0 = omega arith in rw (le-leb (end - at) 0 (omega arith), eq-eqb at end over) (ap (λ (d : Cursor). ending_fault at (after_back tt d).ending) (rw none (ap (λ (n : ℕ). at_bytes n end []) (add-zero at))) ∙ end_there over)
              | inr some ↦ rw (lt-leb (end - at) 0 (omega arith), ne_eqb at end some) refl
            ]
        | inr listing ↦ ap (λ (r : Read Nothing). ending_fault at (runs_on r after_back).ending) (nothing_back id (at_bytes at end []) listing)
            ∙ elim (cases_eq at end) [
              | inl over ↦ end_there over ∙ rw (eq-eqb at end over) refl
              | inr some ↦ ap (λ (r : Run). ending_fault at r.ending) (end_later (omega arith)) ∙ rw (ne_eqb at end some) refl
            ]
      ]

  pub silent_is : (stage : Stage) → ending_fault at (proceed stage seen (at_bytes at end [])).ending ≡ silent stage seen at end
  silent_is Preamble = cut_ends at end (preamble (at_bytes at end [])) (λ x d. outline_sections seen d) le (preamble_needs at end)
  silent_is Between = between_end end
  silent_is (Contents id) = contents_end id
  silent_is (Entries id n) =
      elim (cases_lt 0 n) [
        | inl some ↦ let k : n ≡ suc (n - 1) = omega arith in rw (lt-ltb 0 n some) (ap (λ (i : ℕ). ending_fault at (entries i (outline_row id) outline_sections seen (at_bytes at end [])).ending) k ∙ entries_end id (n - 1))
        | inr none ↦ let k : n ≡ 0 = omega arith in rw k (back_end id)
      ]
