-- What each step of reading leads to, and where it halts.
use Rattle.std.proofs.Common.{◌≡◌, ℕ, suc, ◌+◌, ◌-◌, ◌<◌, ◌≤◌, if◌then◌else◌, Bool, true, leb, List, [], ◌∷◌, ◌++◌, length, drop, Some, None, refl, sym, ap, ◌∙◌, arith, length-take, length-append, inl, inr}
use Rattle.std.proofs.Math.Seq.{drop-append-add}
use Rattle.std.proofs.lemmas.Bool.{cases_lt, lt-ltb, le-ltb, lt-leb, le-leb}
use Rattle.wasm_defs.specs.declared.fault.Refusal.{Refusal}
use Rattle.wasm_defs.specs.declared.item.Item.{Item}
use Rattle.wasm_defs.specs.Fields.{Cursor, Read, Got, Fault, Wants, Reader, window, room_of, past, run, room}
use Rattle.wasm_defs.specs.Entries.{Seen, note}
use Rattle.wasm_defs.specs.Outside.{Part, Listed, Nothing, rest_of_section, Run, ends, Refused, Owed, runs_on, preamble, header, entered, noted, inside, contents, entries, section_end, after_part}
use Rattle.wasm_laws.specs.Steadiness.{with_more, Extends, got, faulty, owed}
use Rattle.wasm_laws.proofs.EntryLaws.{header_steady, preamble_steady}
use Rattle.wasm_laws.proofs.RowLaws.{end_steady}
use Rattle.leb_feed.specs.declared.stop.Stop.{Stop}
use Rattle.leb_feed.specs.declared.stop.Stop.TheVariants as stop
use Rattle.leb_feed.specs.Reads.{Stops}
use Rattle.section_reader.specs.declared.stage.Stage.TheVariants.{Preamble, Between, Contents, Entries}
use Rattle.section_reader.specs.Outline.{outline_row, or_outline, outline_sections}
use Rattle.section_reader.specs.Stages.{passes, between, Leads, Halts}
use Rattle.section_reader.proofs.OutlineRuns.{outline_steady, outline_is, passed_over}

-- ---- more bytes

extended : {A : Type 0} (more : List ℕ) (y z : Read A) (x : A) (d : Cursor) → Extends A more y z → y ≡ Got x d → z ≡ Got x (with_more d more)
extended more y z x d (got a c) e = let f : a ≡ x = cc in let g : c ≡ d = cc in rw (f, g) refl
extended more y z x d (faulty r) e = absurd cc
extended more y z x d (owed later) e = absurd cc

refused_still : {A : Type 0} (more : List ℕ) (y z : Read A) (r : Refusal) → Extends A more y z → y ≡ Fault r → z ≡ Fault r
refused_still more y z r (got a c) e = absurd cc
refused_still more y z r (faulty s) e = e
refused_still more y z r (owed later) e = absurd cc

abbrev pub Stable : {A : Type 0} → Reader A → Type 0
Stable {A} p = (c : Cursor) (more : List ℕ) → Extends A more (p c) (p (with_more c more))

pub more_got : {A : Type 0} (p : Reader A) → Stable p → (c d : Cursor) (x : A) → p c ≡ Got x d → (more : List ℕ) → p (with_more c more) ≡ Got x (with_more d more)
more_got p stable c d x e more = extended more (p c) (p (with_more c more)) x d (stable c more) e

pub more_refused : {A : Type 0} (p : Reader A) → Stable p → (c : Cursor) (r : Refusal) → p c ≡ Fault r → (more : List ℕ) → p (with_more c more) ≡ Fault r
more_refused p stable c r e more = refused_still more (p c) (p (with_more c more)) r (stable c more) e

-- ---- what is passed over

abbrev pub over_if : Bool → Cursor → Read Nothing
over_if b d = if◌then◌else◌ b (Got tt d) Wants

-- the rest of a section is passed over where it is all there
pub rest_is : (c : Cursor) → rest_of_section c ≡ over_if (leb (room_of c) (length c.rest)) (past c (room_of c))
unfolding rest_of_section room run
rest_is c =
    elim (cases_lt (length c.rest) (room_of c)) [
      | inl short ↦ rw (lt-ltb (length (window c)) (room_of c) (omega (arith, length-take (room_of c) c.rest)), lt-leb (room_of c) (length c.rest) short) refl
      | inr there ↦ rw (le-ltb (length (window c)) (room_of c) (omega (arith, length-take (room_of c) c.rest)), le-leb (room_of c) (length c.rest) there) refl
    ]

abbrev pub at_bytes : ℕ → ℕ → List ℕ → Cursor
at_bytes at end rest = record { at = at; rest = rest; end = end }

-- bytes of the section that are passed over may be passed over before
pub passed_same : (at end : ℕ) (bytes more : List ℕ) → at + length bytes ≤ end → rest_of_section (at_bytes at end (bytes ++ more)) ≡ rest_of_section (at_bytes (at + length bytes) end more)
passed_same at end bytes more fits =
    rest_is (at_bytes at end (bytes ++ more)) ∙ both ∙ sym (rest_is (at_bytes (at + length bytes) end more))
  where
    room_is : end - at ≡ length bytes + (end - (at + length bytes))
    room_is = omega arith

    here_is : at + (end - at) ≡ at + length bytes + (end - (at + length bytes))
    here_is = omega arith

    both : over_if (leb (end - at) (length (bytes ++ more))) (past (at_bytes at end (bytes ++ more)) (end - at))
        ≡ over_if (leb (end - (at + length bytes)) (length more)) (past (at_bytes (at + length bytes) end more) (end - (at + length bytes)))
    both =
        elim (cases_lt (length more) (end - (at + length bytes))) [
          | inl short ↦ rw (lt-leb (end - (at + length bytes)) (length more) short, lt-leb (end - at) (length (bytes ++ more)) (omega (arith, length-append bytes more))) refl
          | inr there ↦ rw (le-leb (end - (at + length bytes)) (length more) there, le-leb (end - at) (length (bytes ++ more)) (omega (arith, length-append bytes more)))
              (ap (λ (n : ℕ). over_if true (at_bytes n end (drop (end - at) (bytes ++ more)))) here_is
              ∙ ap (λ (l : List ℕ). over_if true (at_bytes (at + length bytes + (end - (at + length bytes))) end l)) (ap (λ (n : ℕ). drop n (bytes ++ more)) room_is ∙ drop-append-add bytes more (end - (at + length bytes))))
        ]

-- ---- to the next stage

module _ (seen : Seen) (c d : Cursor) where
  pub preamble_leads : (v : ℕ) → preamble c ≡ Got v d → Leads Preamble seen c None Between seen d
  preamble_leads v e = λ more. ap (λ (r : Read ℕ). runs_on r (λ x f. outline_sections seen f)) (more_got preamble (preamble_steady []).by c d v e more)

  pub header_leads : (h : ℕ × ℕ) (b : ℕ) (bytes : List ℕ) → c.rest ≡ b ∷ bytes → header seen c ≡ Got h d → Leads Between seen c None (Contents h.0) (entered seen h.0) (inside d h.1)
  header_leads h b bytes some e = λ more.
      outline_is seen (with_more c more)
      ∙ ap (λ (l : List ℕ). or_outline outline_sections seen (with_more c more) (l ++ more)) some
      ∙ ap (λ (r : Read (ℕ × ℕ)). runs_on r (λ k f. contents (outline_row k.0) outline_sections (entered seen k.0) (inside f k.1))) (more_got (header seen) (header_steady [] seen).by c d h e more)

  pub front_leads : (id n : ℕ) → (outline_row id).front seen c ≡ Got n d → Leads (Contents id) seen c None (Entries id n) seen d
  front_leads id n e = λ more. ap (λ (r : Read ℕ). runs_on r (λ k f. entries k (outline_row id) outline_sections seen f)) (more_got ((outline_row id).front seen) ((outline_steady id).front seen).by c d n e more)

  pub entry_leads : (id n : ℕ) (x : Item) → 0 < n → (outline_row id).entry seen c ≡ Got (Listed x) d → Leads (Entries id n) seen c (Some x) (Entries id (n - 1)) (note seen x) d
  entry_leads id n x some e = λ more.
      let k : n ≡ suc (n - 1) = omega arith in
      ap (λ (i : ℕ). entries i (outline_row id) outline_sections seen (with_more c more)) k
      ∙ ap (λ (r : Read Part). runs_on r (λ y f. after_part y (entries (n - 1) (outline_row id) outline_sections (noted seen y) f))) (more_got ((outline_row id).entry seen) ((outline_steady id).entry seen).by c d (Listed x) e more)

  pub back_leads : (id : ℕ) (e : Cursor) → (outline_row id).back c ≡ Got tt d → section_end d ≡ Got tt e → Leads (Entries id 0) seen c None Between seen e
  back_leads id e back over = λ more.
      ap (λ (r : Read Nothing). runs_on r (λ x f. runs_on (section_end f) (λ y g. outline_sections seen g))) (more_got (outline_row id).back (outline_steady id).back.by c d tt back more)
      ∙ ap (λ (r : Read Nothing). runs_on r (λ y g. outline_sections seen g)) (more_got section_end end_steady.by d e tt over more)

-- what is there of a section's rest is passed over
pub pass_leads : (seen : Seen) (at end id : ℕ) (bytes : List ℕ) → passes id ≡ true → at + length bytes ≤ end → Leads (Entries id 0) seen (at_bytes at end bytes) None (Entries id 0) seen (at_bytes (at + length bytes) end [])
pass_leads seen at end id bytes passing fits = λ more.
    ap (λ (p : Reader Nothing). runs_on (p (at_bytes at end (bytes ++ more))) (λ x f. runs_on (section_end f) (λ y g. outline_sections seen g))) (passed_over id passing)
    ∙ ap (λ (r : Read Nothing). runs_on r (λ x f. runs_on (section_end f) (λ y g. outline_sections seen g))) (passed_same at end bytes more fits)
    ∙ sym (ap (λ (p : Reader Nothing). runs_on (p (at_bytes (at + length bytes) end more)) (λ x f. runs_on (section_end f) (λ y g. outline_sections seen g))) (passed_over id passing))

-- ---- where reading halts

pub runs_refused : {A : Type 0} (r : Refusal) (f : A → Cursor → Run) (x : Read A) → x ≡ Fault r → runs_on x f ≡ ends (Refused r)
runs_refused r f x e = rw e refl

pub runs_owed : {A : Type 0} (f : A → Cursor → Run) (x : Read A) → x ≡ Wants → runs_on x f ≡ ends Owed
runs_owed f x e = rw e refl

module _ (seen : Seen) (c : Cursor) where
  pub preamble_halts : (s : Stop) → Stops s (preamble c) → Halts Preamble seen c s
  preamble_halts (stop.Refused r) h = λ more. runs_refused r _ _ (more_refused preamble (preamble_steady []).by c r h more)
  preamble_halts stop.Wants h = runs_owed _ _ h
  preamble_halts stop.NoMemory h = tt

  pub header_halts : (b : ℕ) (bytes : List ℕ) (s : Stop) → c.rest ≡ b ∷ bytes → Stops s (header seen c) → Halts Between seen c s
  header_halts b bytes (stop.Refused r) some h = λ more.
      outline_is seen (with_more c more)
      ∙ ap (λ (l : List ℕ). or_outline outline_sections seen (with_more c more) (l ++ more)) some
      ∙ runs_refused r _ _ (more_refused (header seen) (header_steady [] seen).by c r h more)
  header_halts b bytes stop.Wants some h = outline_is seen c ∙ ap (or_outline outline_sections seen c) some ∙ runs_owed _ _ h ∙ sym (ap (between seen) some)
  header_halts b bytes stop.NoMemory some h = tt

  pub between_ends : c.rest ≡ [] → Halts Between seen c stop.Wants
  between_ends none = outline_is seen c ∙ ap (or_outline outline_sections seen c) none ∙ sym (ap (between seen) none)

  pub front_halts : (id : ℕ) (s : Stop) → Stops s ((outline_row id).front seen c) → Halts (Contents id) seen c s
  front_halts id (stop.Refused r) h = λ more. runs_refused r _ _ (more_refused ((outline_row id).front seen) ((outline_steady id).front seen).by c r h more)
  front_halts id stop.Wants h = runs_owed _ _ h
  front_halts id stop.NoMemory h = tt

  pub entries_are : (id n : ℕ) (f : Cursor) → 0 < n → entries n (outline_row id) outline_sections seen f ≡ runs_on ((outline_row id).entry seen f) (λ x g. after_part x (entries (n - 1) (outline_row id) outline_sections (noted seen x) g))
  entries_are id n f some = let k : n ≡ suc (n - 1) = omega arith in ap (λ (i : ℕ). entries i (outline_row id) outline_sections seen f) k

  pub entry_halts : (id n : ℕ) (s : Stop) → 0 < n → Stops s ((outline_row id).entry seen c) → Halts (Entries id n) seen c s
  entry_halts id n (stop.Refused r) some h = λ more. entries_are id n (with_more c more) some ∙ runs_refused r _ _ (more_refused ((outline_row id).entry seen) ((outline_steady id).entry seen).by c r h more)
  entry_halts id n stop.Wants some h = entries_are id n c some ∙ runs_owed _ _ h
  entry_halts id n stop.NoMemory some h = tt

  pub back_halts : (id : ℕ) (s : Stop) → Stops s ((outline_row id).back c) → Halts (Entries id 0) seen c s
  back_halts id (stop.Refused r) h = λ more. runs_refused r _ _ (more_refused (outline_row id).back (outline_steady id).back.by c r h more)
  back_halts id stop.Wants h = runs_owed _ _ h
  back_halts id stop.NoMemory h = tt

  pub end_halts : (id : ℕ) (d : Cursor) (s : Stop) → (outline_row id).back c ≡ Got tt d → Stops s (section_end d) → Halts (Entries id 0) seen c s
  end_halts id d (stop.Refused r) back h = λ more.
      ap (λ (r : Read Nothing). runs_on r (λ x f. runs_on (section_end f) (λ y g. outline_sections seen g))) (more_got (outline_row id).back (outline_steady id).back.by c d tt back more)
      ∙ runs_refused r _ _ (more_refused section_end end_steady.by d r h more)
  end_halts id d stop.Wants back h =
      ap (λ (r : Read Nothing). runs_on r (λ x f. runs_on (section_end f) (λ y g. outline_sections seen g))) back ∙ runs_owed _ _ h
  end_halts id d stop.NoMemory back h = tt

  -- a section has bytes left, and none is there
  pub pass_halts : (id : ℕ) → passes id ≡ true → length c.rest ≡ 0 → 0 < room_of c → Halts (Entries id 0) seen c stop.Wants
  pass_halts id passing none some =
      runs_owed _ _ (ap (λ (p : Reader Nothing). p c) (passed_over id passing) ∙ rest_is c ∙ ap (λ (b : Bool). over_if b (past c (room_of c))) (lt-leb (room_of c) (length c.rest) (omega arith)))
