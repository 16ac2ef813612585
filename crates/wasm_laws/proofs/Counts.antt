-- A module has a body for each function that it declares.
use Rattle.std.proofs.Common.{◌≡◌, ◌≢◌, ℕ, zero, suc, ◌+◌, ◌≤◌, ◌<◌, true, false, List, [], ◌∷◌, length, refl, sym, subst, ◌∙◌, arith, add-one, inl, inr, is_some}
use Rattle.std.proofs.lemmas.Bool.{cases_Bool, cases_eq, cases_lt}
use Rattle.wasm_defs.specs.declared.item.Item.{Item}
use Rattle.wasm_defs.specs.declared.item.Item.TheVariants.{Function, Code}
use Rattle.wasm_defs.specs.Fields.{Cursor, Read, Got, Fault, Wants}
use Rattle.wasm_defs.specs.Entries.{Seen, nothing, note, code}
use Rattle.wasm_defs.specs.Outside.{Body, Part, Section, Listed, Coded, listed, body, code_entry, Row, row, header, entered, noted, inside, section_end, Ending, Whole, Refused, Owed, Run, ends, after_part, runs_on, Next, finish, entries, contents, section, position_of, owes, at_the_end, or_section, sections_up_to, preamble, beginning, module_read}
use Rattle.wasm_defs.specs.Context.{declared_count}
use Rattle.wasm_defs.specs.Faults.{items_of, bodies_of}
use Rattle.wasm_laws.specs.Counts.{AreDeclared}
use Rattle.wasm_laws.proofs.Steady.{IfGot, always}
use Rattle.wasm_laws.proofs.Sorts.{IsPlain, IsFunction, IsCode, IsItem, IsBody, Yields, listed_yields, function_yields, code_yields, body_yields, row_is_plain, count_cons, notes, plain_keeps}
use Rattle.wasm_laws.proofs.Parts.{got_map, either_got}
use Rattle.wasm_laws.proofs.Headers.{Follows, header_tells, entered_as, owes_none, owes_parts}

-- ---- no functions are declared after their section

record Undeclaring (r : Run) : Type 0 where
  none : declared_count (items_of r.parts) ≡ 0

abbrev IsSilent : Part → Type 0
IsSilent (Section at id) = Unit {0}
IsSilent (Listed x) = declared_count (x ∷ []) ≡ 0
IsSilent (Coded b) = Unit {0}

after_silent : (x : Part) (r : Run) → IsSilent x → Undeclaring r → Undeclaring (after_part x r)
after_silent (Section at id) r p h = record { none = h.none }
after_silent (Listed x) r p h = record { none = omega (arith, h.none, count_cons x (items_of r.parts)) }
after_silent (Coded b) r p h = record { none = h.none }

runs_silent : {A : Type 0} (P : A → Cursor → Type 0) (x : Read A) (f : A → Cursor → Run) → IfGot P x → ((a : A) (d : Cursor) → P a d → Undeclaring (f a d)) → Undeclaring (runs_on x f)
runs_silent P (Got a d) f p h = h a d p
runs_silent P (Fault r) f p h = record { none = refl }
runs_silent P Wants f p h = record { none = refl }

abbrev Silent : Next → Type 0
Silent next = (seen : Seen) (c : Cursor) → 3 ≤ seen.last → Undeclaring (next seen c)

noted_last : (seen : Seen) (x : Part) → (noted seen x).last ≡ seen.last
noted_last seen (Section at id) = refl
noted_last seen (Listed x) = (notes seen x).last
noted_last seen (Coded b) = refl

record SilentRow (r : Row) : Type 0 where
  entry : (seen : Seen) (c : Cursor) → IfGot (λ x d. IsSilent x) (r.entry seen c)

item_is_silent : (seen : Seen) (x : Part) → IsItem IsPlain x → IsSilent x
item_is_silent seen (Section at id) p = tt
item_is_silent seen (Listed x) p = (plain_keeps seen x p).0
item_is_silent seen (Coded b) p = tt

code_is_silent : (x : Part) → IsItem IsCode x → IsSilent x
code_is_silent (Section at id) p = tt
code_is_silent (Listed (Code count end)) p = refl
code_is_silent (Listed x) p = absurd p
code_is_silent (Coded b) p = tt

body_is_silent : (x : Part) → IsBody x → IsSilent x
body_is_silent (Section at id) p = tt
body_is_silent (Listed x) p = absurd p
body_is_silent (Coded b) p = tt

code_entry_is_silent : (seen : Seen) (c : Cursor) → IfGot (λ x d. IsSilent x) (code_entry seen c)
code_entry_is_silent seen c =
    either_got (λ x d. IsSilent x) seen.counted (body (is_some seen.data_count)) (listed (code seen)) c
    (λ e. got_map (λ x d. IsBody x) (λ x d. IsSilent x) (body (is_some seen.data_count) c) (λ x d p. body_is_silent x p) ((body_yields (is_some seen.data_count)).got c))
    (λ e. got_map (λ x d. IsItem IsCode x) (λ x d. IsSilent x) (listed (code seen) c) (λ x d p. code_is_silent x p) ((listed_yields IsCode (code seen) (code_yields seen)).got c))

row_is_silent : (id : ℕ) → id ≢ 3 → SilentRow (row id)
row_is_silent id not_functions =
    elim (cases_eq id 11) [
      | inl code ↦ rw code (record { entry = code_entry_is_silent })
      | inr other ↦ record { entry = λ seen c. got_map (λ x d. IsItem IsPlain x) (λ x d. IsSilent x) ((row id).entry seen c) (λ x d p. item_is_silent seen x p) (((row_is_plain id not_functions other).entry seen).got c) }
    ]

module _ (r : Row) (silent : SilentRow r) (next : Next) (rest : Silent next) where
  finish_silent : Silent (finish r next)
  finish_silent seen c h = runs_silent (λ x d. Unit {0}) (r.back c) _ (always (r.back c)) (λ x d t. runs_silent (λ y e. Unit {0}) (section_end d) _ (always (section_end d)) (λ y e t. rest seen e h))

  entries_silent : (n : ℕ) → Silent (entries n r next)
  entries_silent zero seen c h = finish_silent seen c h
  entries_silent (suc n) seen c h =
      runs_silent (λ x d. IsSilent x) _ _ (silent.entry seen c)
      (λ x d p. after_silent x _ p (entries_silent n (noted seen x) d (omega (arith, noted_last seen x))))

  contents_silent : Silent (contents r next)
  contents_silent seen c h = runs_silent (λ n d. Unit {0}) (r.front seen c) _ (always (r.front seen c)) (λ n d t. entries_silent n seen d h)

entered_late : (seen : Seen) (id : ℕ) → Follows seen id → 3 ≤ seen.last → 3 ≤ (entered seen id).last
entered_late seen id f h =
    elim (entered_as seen id) [
      | inl none ↦ rw none.1 h
      | inr some ↦ let later = f.later some.0 in rw some.1 (omega arith)
    ]

section_silent : (next : Next) → Silent next → Silent (section next)
section_silent next rest seen c h =
    runs_silent (λ x d. Follows seen x.0) (header seen c) _ (header_tells seen c)
    (λ x d f.
    contents_silent (row x.0) (row_is_silent x.0 (λ e. absurd (omega (arith, f.later (λ z. omega arith))))) next rest (entered seen x.0) (inside d x.1) (entered_late seen x.0 f h))

ends_silent : (seen : Seen) → Undeclaring (at_the_end seen)
ends_silent seen = elim (cases_Bool (owes seen)) [ inl code ↦ rw code (record { none = refl }) | inr none ↦ rw none (record { none = refl }) ]

or_silent : (next : Next) → Silent next → (seen : Seen) (c : Cursor) (rest : List ℕ) → 3 ≤ seen.last → Undeclaring (or_section next seen c rest)
or_silent next silent seen c [] h = ends_silent seen
or_silent next silent seen c (b ∷ rest) h = after_silent (Section c.at (position_of b)) (section next seen c) tt (section_silent next silent seen c h)

up_to_silent : (n : ℕ) → Silent (sections_up_to n)
unfolding sections_up_to
up_to_silent zero seen c h = record { none = refl }
up_to_silent (suc n) seen c h = or_silent (sections_up_to n) (up_to_silent n) seen c c.rest h

-- ---- counts

-- what a run adds to so many functions and bodies
pub record RunCounts (declared bodies : ℕ) (r : Run) : Type 0 where
  pub each : AreDeclared declared bodies r.parts
  pub all : (seen : Seen) → r.ending ≡ Whole seen → bodies + length (bodies_of r.parts) ≡ declared + declared_count (items_of r.parts)

refused_counts : (declared bodies : ℕ) (ending : Ending) → ((seen : Seen) → ending ≡ Whole seen → ⊥) → RunCounts declared bodies (ends ending)
refused_counts declared bodies ending h = record { each = tt; all = λ seen e. absurd (h seen e) }

runs_count : {A : Type 0} (P : A → Cursor → Type 0) (declared bodies : ℕ) (x : Read A) (f : A → Cursor → Run) → IfGot P x → ((a : A) (d : Cursor) → P a d → RunCounts declared bodies (f a d)) → RunCounts declared bodies (runs_on x f)
runs_count P declared bodies (Got a d) f p h = h a d p
runs_count P declared bodies (Fault r) f p h = refused_counts declared bodies (Refused r) (λ seen e. cc)
runs_count P declared bodies Wants f p h = refused_counts declared bodies Owed (λ seen e. cc)

after_item : (declared bodies : ℕ) (x : Item) (r : Run) → RunCounts (declared + declared_count (x ∷ [])) bodies r → RunCounts declared bodies (after_part (Listed x) r)
after_item declared bodies x r p = record { each = p.each; all = λ seen e. omega (arith, p.all seen e, count_cons x (items_of r.parts)) }

after_body : (declared bodies : ℕ) (b : Body) (r : Run) → bodies < declared → Undeclaring r → RunCounts declared (suc bodies) r → RunCounts declared bodies (after_part (Coded b) r)
after_body declared bodies b r lt none p = record { each = (record { before = lt; none = none.none }, p.each); all = λ seen e. omega (arith, p.all seen e) }

-- between sections: no bodies came before the code section, and one for each function with it
record Counts (seen : Seen) (bodies : ℕ) : Type 0 where
  before : seen.last < 11 → (bodies ≡ 0) × (seen.counted ≡ false)
  behind : 11 ≤ seen.last → bodies ≡ seen.declared

abbrev Agrees : Next → Type 0
Agrees next = (seen : Seen) (c : Cursor) (bodies : ℕ) → Counts seen bodies → RunCounts seen.declared bodies (next seen c)

after_section : (declared bodies at id : ℕ) (r : Run) → RunCounts declared bodies r → RunCounts declared bodies (after_part (Section at id) r)
after_section declared bodies at id r p = record { each = p.each; all = p.all }

-- an item of a section keeps that, if it is no count of bodies, and no function that comes late
record Keeps (last : ℕ) (P : Item → Type 0) : Type 0 where
  counted : (s : Seen) (x : Item) → P x → (note s x).counted ≡ s.counted
  none : (s : Seen) (x : Item) → P x → 11 ≤ last → declared_count (x ∷ []) ≡ 0

note_counts : (last : ℕ) (P : Item → Type 0) → Keeps last P → (seen : Seen) (x : Item) (bodies : ℕ) → seen.last ≡ last → P x → Counts seen bodies → Counts (note seen x) bodies
note_counts last P keeps seen x bodies e p h =
    let n = notes seen x in
    record {
      before = λ lt. let b = h.before (omega (arith, n.last)) in (b.0, keeps.counted seen x p ∙ b.1);
      behind = λ le. omega (arith, h.behind (omega (arith, n.last)), n.declared, keeps.none seen x p (omega (arith, n.last)));
    }

finish_agrees : (r : Row) (next : Next) → Agrees next → Agrees (finish r next)
finish_agrees r next agrees seen c bodies h =
    runs_count (λ x d. Unit {0}) seen.declared bodies (r.back c) _ (always (r.back c)) (λ x d t. runs_count (λ y e. Unit {0}) seen.declared bodies (section_end d) _ (always (section_end d)) (λ y e t. agrees seen e bodies h))

module _ (last : ℕ) (P : Item → Type 0) (keeps : Keeps last P) (r : Row) (yields : (seen : Seen) → Yields (IsItem P) (r.entry seen)) (next : Next) (agrees : Agrees next) where
  item_agrees : (f : Next) → ((s : Seen) (d : Cursor) (bodies : ℕ) → s.last ≡ last → Counts s bodies → RunCounts s.declared bodies (f s d)) → (seen : Seen) (d : Cursor) (bodies : ℕ) (x : Part) → seen.last ≡ last → Counts seen bodies → IsItem P x → RunCounts seen.declared bodies (after_part x (f (noted seen x) d))
  item_agrees f h seen d bodies (Section at id) e c p = absurd p
  item_agrees f h seen d bodies (Listed x) e c p =
      let n = notes seen x in
      after_item seen.declared bodies x (f (note seen x) d) (rw n.declared at (h (note seen x) d bodies (n.last ∙ e) (note_counts last P keeps seen x bodies e p c)))
  item_agrees f h seen d bodies (Coded b) e c p = absurd p

  items_agree : (n : ℕ) (seen : Seen) (c : Cursor) (bodies : ℕ) → seen.last ≡ last → Counts seen bodies → RunCounts seen.declared bodies (entries n r next seen c)
  items_agree zero seen c bodies e h = finish_agrees r next agrees seen c bodies h
  items_agree (suc n) seen c bodies e h =
      runs_count (λ x d. IsItem P x) seen.declared bodies _ _ ((yields seen).got c)
      (λ x d p. item_agrees (entries n r next) (items_agree n) seen d bodies x e h p)

  section_of_items : (seen : Seen) (c : Cursor) (bodies : ℕ) → seen.last ≡ last → Counts seen bodies → RunCounts seen.declared bodies (contents r next seen c)
  section_of_items seen c bodies e h = runs_count (λ n d. Unit {0}) seen.declared bodies (r.front seen c) _ (always (r.front seen c)) (λ n d t. items_agree n seen d bodies e h)

plain_keep : (last : ℕ) → Keeps last IsPlain
plain_keep last = record { counted = λ s x p. (plain_keeps s x p).1; none = λ s x p h. (plain_keeps s x p).0 }

functions_keep : Keeps 3 IsFunction
functions_keep = record { counted = function_counted; none = λ s x p h. absurd (omega arith) }
  where
    function_counted : (s : Seen) (x : Item) → IsFunction x → (note s x).counted ≡ s.counted
    function_counted s (Function type_index) p = refl
    function_counted s x p = absurd p

-- ---- the code section

module _ (next : Next) (agrees : Agrees next) (silent : Silent next) where
  body_agrees : (n : ℕ) (seen : Seen) (d : Cursor) (bodies : ℕ) (x : Part) → ((d : Cursor) (bodies : ℕ) → bodies + n ≡ seen.declared → RunCounts seen.declared bodies (entries n (row 11) next seen d)) → bodies + suc n ≡ seen.declared → seen.last ≡ 11 → IsBody x → RunCounts seen.declared bodies (after_part x (entries n (row 11) next (noted seen x) d))
  body_agrees n seen d bodies (Section at id) h e l p = absurd p
  body_agrees n seen d bodies (Listed x) h e l p = absurd p
  body_agrees n seen d bodies (Coded b) h e l p =
      after_body seen.declared bodies b (entries n (row 11) next seen d) (omega arith) (entries_silent (row 11) (record { entry = code_entry_is_silent }) next silent n seen d (omega arith)) (h d (suc bodies) (omega arith))

  bodies_agree : (n : ℕ) (seen : Seen) (c : Cursor) (bodies : ℕ) → bodies + n ≡ seen.declared → seen.counted ≡ true → seen.last ≡ 11 → RunCounts seen.declared bodies (entries n (row 11) next seen c)
  bodies_agree zero seen c bodies e t l =
      finish_agrees (row 11) next agrees seen c bodies (record { before = λ lt. absurd (omega arith); behind = λ le. omega arith })
  bodies_agree (suc n) seen c bodies e t l =
      runs_count (λ x d. IsBody x) seen.declared bodies (code_entry seen c) _ (either_got (λ x d. IsBody x) seen.counted (body (is_some seen.data_count)) (listed (code seen)) c (λ u. (body_yields (is_some seen.data_count)).got c) (λ u. absurd cc))
      (λ x d p. body_agrees n seen d bodies x (λ f k i. bodies_agree n seen f k i t l) e l p)

  count_agrees : (seen : Seen) (d : Cursor) (x : Part) → seen.last ≡ 11 → IsItem IsCode x → RunCounts seen.declared 0 (after_part x (entries seen.declared (row 11) next (noted seen x) d))
  count_agrees seen d (Section at id) l p = absurd p
  count_agrees seen d (Listed (Code count end)) l p =
      let later = record seen { counted = true } in
      let zero_more : seen.declared + 0 ≡ seen.declared = omega arith in
      after_item seen.declared 0 (Code count end) (entries seen.declared (row 11) next later d) (rw zero_more (bodies_agree seen.declared later d 0 (omega arith) refl l))
  count_agrees seen d (Listed x) l p = absurd p
  count_agrees seen d (Coded b) l p = absurd p

  code_agrees : (seen : Seen) (c : Cursor) → seen.counted ≡ false → seen.last ≡ 11 → RunCounts seen.declared 0 (contents (row 11) next seen c)
  code_agrees seen c f l =
      rw add-one (runs_count (λ x d. IsItem IsCode x) seen.declared 0 (code_entry seen c) _ (either_got (λ x d. IsItem IsCode x) seen.counted (body (is_some seen.data_count)) (listed (code seen)) c (λ u. absurd cc) (λ u. (listed_yields IsCode (code seen) (code_yields seen)).got c))
      (λ x d p. count_agrees seen d x l p))

-- ---- sections

entered_declared : (seen : Seen) (id : ℕ) → (entered seen id).declared ≡ seen.declared
entered_declared seen id =
    elim (entered_as seen id) [
      | inl none ↦ rw none.1 refl
      | inr some ↦ rw some.1 refl
    ]

-- a section other than the code section keeps the counts
entered_counts : (seen : Seen) (id bodies : ℕ) → Follows seen id → id ≢ 11 → Counts seen bodies → Counts (entered seen id) bodies
entered_counts seen id bodies f other h =
    elim (entered_as seen id) [
      | inl none ↦ rw none.1 h
      | inr some ↦
          let later = f.later some.0 in
          rw some.1 (record {
            before = λ lt. h.before (omega arith);
            behind = λ le. elim (cases_lt seen.last 11) [
              | inl early ↦
                  let none = owes_none seen (f.owed (omega (arith, f.known))) early in
                  omega (arith, (h.before early).0)
              | inr late ↦ h.behind late
            ];
          })
    ]

-- in a section other than the code section
other_counts : (next : Next) → Agrees next → (s : Seen) (d : Cursor) (bodies id : ℕ) → id ≢ 11 → (id ≡ 3 → s.last ≡ 3) → Counts s bodies → RunCounts s.declared bodies (contents (row id) next s d)
other_counts next agrees s d bodies id other last h =
    elim (cases_eq id 3) [
      | inl functions ↦
          let of_three = section_of_items 3 IsFunction functions_keep (row 3) (λ s. listed_yields IsFunction _ (function_yields s)) next agrees s d bodies (last functions) h in
          subst (λ (n : ℕ). RunCounts s.declared bodies (contents (row n) next s d)) (sym functions) of_three
      | inr plain ↦ section_of_items s.last IsPlain (plain_keep s.last) (row id) (row_is_plain id plain other).entry next agrees s d bodies refl h
    ]

entered_last : (seen : Seen) (id : ℕ) → id ≡ 3 → (entered seen id).last ≡ 3
entered_last seen id e =
    elim (entered_as seen id) [
      | inl none ↦ absurd (omega arith)
      | inr some ↦ rw some.1 e
    ]

section_counts : (next : Next) → Agrees next → Silent next → (seen : Seen) (d : Cursor) (bodies id : ℕ) → Follows seen id → Counts seen bodies → RunCounts seen.declared bodies (contents (row id) next (entered seen id) d)
section_counts next agrees silent seen d bodies id f h =
    elim (cases_eq id 11) [
      | inl is_code ↦
          let b = h.before (omega (arith, f.later (λ z. omega arith))) in
          let of_ten = code_agrees next agrees silent (record seen { last = 11 }) d b.1 refl in
          let none = subst (λ (k : ℕ). RunCounts seen.declared k (contents (row 11) next (entered seen 11) d)) (sym b.0) of_ten in
          subst (λ (n : ℕ). RunCounts seen.declared bodies (contents (row n) next (entered seen n) d)) (sym is_code) none
      | inr other ↦
          subst (λ (n : ℕ). RunCounts n bodies (contents (row id) next (entered seen id) d)) (entered_declared seen id)
          (other_counts next agrees (entered seen id) d bodies id other (entered_last seen id) (entered_counts seen id bodies f other h))
    ]

ends_agree : (seen : Seen) (bodies : ℕ) → Counts seen bodies → RunCounts seen.declared bodies (at_the_end seen)
ends_agree seen bodies h =
    elim (cases_Bool (owes seen)) [
      | inl owes ↦ rw owes (refused_counts seen.declared bodies Owed (λ s e. cc))
      | inr none ↦ rw none (record {
        each = tt;
        all = λ s e. elim (cases_lt seen.last 11) [
          | inl early ↦ omega (arith, owes_none seen (owes_parts seen none).0 early, (h.before early).0)
          | inr late ↦ omega (arith, h.behind late)
        ];
      })
    ]

or_agrees : (next : Next) → Agrees next → Silent next → (seen : Seen) (c : Cursor) (bodies : ℕ) (rest : List ℕ) → Counts seen bodies → RunCounts seen.declared bodies (or_section next seen c rest)
or_agrees next agrees silent seen c bodies [] h = ends_agree seen bodies h
or_agrees next agrees silent seen c bodies (b ∷ rest) h =
    after_section seen.declared bodies c.at (position_of b) (section next seen c) (runs_count (λ x d. Follows seen x.0) seen.declared bodies (header seen c) _ (header_tells seen c)
    (λ x d f. section_counts next agrees silent seen (inside d x.1) bodies x.0 f h))

up_to_agrees : (n : ℕ) → Agrees (sections_up_to n)
unfolding sections_up_to
up_to_agrees zero seen c bodies h = refused_counts seen.declared bodies Owed (λ s e. cc)
up_to_agrees (suc n) seen c bodies h = or_agrees (sections_up_to n) (up_to_agrees n) (up_to_silent n) seen c bodies c.rest h

-- ---- modules

module_counts : (bytes : List ℕ) → RunCounts 0 0 (module_read bytes)
module_counts bytes =
    runs_count (λ v c. Unit {0}) 0 0 (preamble (beginning bytes)) _ (always (preamble (beginning bytes)))
    (λ v c t. up_to_agrees (length c.rest + 1) nothing c 0 (record { before = λ lt. (refl, refl); behind = λ le. absurd (omega arith) }))

pub bodies_are_declared : (bytes : List ℕ) → AreDeclared 0 0 (module_read bytes).parts
bodies_are_declared bytes = (module_counts bytes).each

pub bodies_match : (bytes : List ℕ) (seen : Seen) → (module_read bytes).ending ≡ Whole seen → length (bodies_of (module_read bytes).parts) ≡ declared_count (items_of (module_read bytes).parts)
bodies_match bytes seen e = omega (arith, (module_counts bytes).all seen e)
