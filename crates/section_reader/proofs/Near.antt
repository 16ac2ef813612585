-- The bytes that came before the last piece complete no item: each step reads them alone as it reads them with the piece, or reads
-- on into the piece.
use Rattle.std.proofs.Common.{◌≡◌, ◌≤◌, ◌<◌, ◌-◌, ℕ, suc, true, List, [], ◌∷◌, ◌++◌, length, refl, sym, ap, subst, ◌∙◌, arith, length-append, length-drop, take, inl, inr}
use Rattle.std.proofs.lemmas.Bool.{cases_lt, lt-ltb, le-ltb, lt-leb, le-leb}
use Rattle.wasm_defs.specs.declared.item.Item.{Item}
use Rattle.wasm_defs.specs.Fields.{Cursor, Read, Got, Fault, Wants, Reader, room_of, window, past, cut, run}
use Rattle.wasm_defs.specs.Entries.{Seen}
use Rattle.wasm_defs.specs.Outside.{Listed, Run, after_part, runs_on, preamble, header, entered, inside, noted, contents, entries, section_end}
use Rattle.wasm_laws.specs.Steadiness.{with_more}
use Rattle.wasm_laws.proofs.Parts.{got_is}
use Rattle.section_reader.specs.declared.front.Front.{Front}
use Rattle.section_reader.specs.declared.stage.Stage.{Stage}
use Rattle.section_reader.specs.declared.stage.Stage.TheVariants.{Preamble, Between, Contents, Entries}
use Rattle.section_reader.specs.Outline.{outline_row, or_outline, outline_sections}
use Rattle.section_reader.specs.Stages.{is_owing}
use Rattle.section_reader.specs.FrontLeft.{cursor_of}
use Rattle.section_reader.specs.Near.{IsNearIn, IsNear}
use Rattle.section_reader.proofs.OutlineRuns.{outline_is}
use Rattle.section_reader.proofs.Leading.{more_got, more_refused}
use Rattle.section_reader.proofs.Prompts.{Prompt, preamble_prompt, header_prompt, row_prompt, end_prompt}

cut_gives : (c : Cursor) (bytes : List ℕ) (d : Cursor) → cut c ≡ Got bytes d → ⊥
cut_gives c bytes d e =
    elim (cases_lt (length c.rest) (room_of c)) [
      | inl lt ↦ absurd (let t = rw (lt-leb (room_of c) (length c.rest) lt) at e in cc)
      | inr ge ↦ absurd (let t = rw (le-leb (room_of c) (length c.rest) ge) at e in cc)
    ]

module _ {A : Type 0} (p : Reader A) (h : Prompt p) (f : A → Cursor → Run) (most : ℕ) (c d : Cursor) (x : A) (read : p c ≡ Got x d) where
  fewer : length d.rest ≤ length c.rest
  fewer = got_is (λ a e. length e.rest ≤ length c.rest) (p c) x d read (h.fewer c)

  -- what the bytes before the piece come to alone
  alone : (k : Cursor) (more : List ℕ) → c ≡ with_more k more → length more ≡ most → (r : Read A) → p k ≡ r → is_owing (runs_on r f).parts (runs_on r f).ending ≡ true → IsNearIn most (f x) d
  alone k more is len (Got y e) there owing =
      let both : Got y (with_more e more) ≡ Got x d = sym (more_got p h.by k e y there more) ∙ ap p (sym is) ∙ read in
      let same : y ≡ x = cc in
      let rest : with_more e more ≡ d = cc in
      inr (e, more, sym rest, len, subst (λ (a : A). is_owing (f a e).parts (f a e).ending ≡ true) same owing)
  alone k more is len (Fault r) there owing = absurd (let both : Fault r ≡ Got x d = sym (more_refused p h.by k r there more) ∙ ap p (sym is) ∙ read in cc)
  alone k more is len Wants there owing =
      let few : length d.rest ≤ length more = got_is (λ a e. length e.rest ≤ length more) (p (with_more k more)) x d (ap p (sym is) ∙ read) (h.late k more there) in
      inl (omega (arith, few, len))

  step_near : IsNearIn most (λ k. runs_on (p k) f) c → IsNearIn most (f x) d
  step_near (inl few) = inl (omega (arith, few, fewer))
  step_near (inr n) = alone n.0 n.1 n.2 n.3 (p n.0) refl n.4

module _ (most : ℕ) (seen : Seen) (c d : Cursor) where
  pub preamble_near : (v : ℕ) → preamble c ≡ Got v d → IsNear most Preamble seen c → IsNear most Between seen d
  preamble_near v e near = step_near preamble preamble_prompt (λ x f. outline_sections seen f) most c d v e near

  in_section : (end : ℕ) (read : Cursor → Run) → IsNearIn most (λ k. read (inside k end)) d → IsNearIn most read (inside d end)
  in_section end read (inl few) = inl few
  in_section end read (inr n) = inr (inside n.0 end, n.1, ap (λ (k : Cursor). inside k end) n.2, n.3, n.4)

  header_near : (h : ℕ × ℕ) → header seen c ≡ Got h d → IsNearIn most (λ k. runs_on (header seen k) (λ g f. contents (outline_row g.0) outline_sections (entered seen g.0) (inside f g.1))) c → IsNear most (Contents h.0) (entered seen h.0) (inside d h.1)
  header_near h e near =
      in_section h.1 (contents (outline_row h.0) outline_sections (entered seen h.0))
      (step_near (header seen) (header_prompt seen) (λ g f. contents (outline_row g.0) outline_sections (entered seen g.0) (inside f g.1)) most c d h e near)

  -- where a section begins: its id is among the bytes before the piece, or it is in the piece
  began : (k : Cursor) (more rest : List ℕ) → c ≡ with_more k more → length more ≡ most → k.rest ≡ rest → is_owing (or_outline outline_sections seen k rest).parts (or_outline outline_sections seen k rest).ending ≡ true
      → IsNearIn most (λ k. runs_on (header seen k) (λ g f. contents (outline_row g.0) outline_sections (entered seen g.0) (inside f g.1))) c
  began k more [] is len none owing = inl (omega (arith, ap (λ (b : Cursor). length b.rest) is, ap length none, length-append k.rest more, len))
  began k more (b ∷ rest) is len some owing = inr (k, more, is, len, owing)

  pub open_near : (h : ℕ × ℕ) → header seen c ≡ Got h d → IsNear most Between seen c → IsNear most (Contents h.0) (entered seen h.0) (inside d h.1)
  open_near h e (inl few) = header_near h e (inl few)
  open_near h e (inr n) = header_near h e (began n.0 n.1 n.0.rest n.2 n.3 refl (ap (λ (r : Run). is_owing r.parts r.ending) (sym (outline_is seen n.0)) ∙ n.4))

  pub count_near : (id n : ℕ) → (outline_row id).front seen c ≡ Got n d → IsNear most (Contents id) seen c → IsNear most (Entries id n) seen d
  count_near id n e near = step_near ((outline_row id).front seen) ((row_prompt id).front seen) (λ k f. entries k (outline_row id) outline_sections seen f) most c d n e near

  pub back_near : (id : ℕ) (e : Cursor) → (outline_row id).back c ≡ Got tt d → section_end d ≡ Got tt e → IsNear most (Entries id 0) seen c → IsNear most Between seen e
  back_near id e back over near =
      step_near section_end end_prompt (λ y f. outline_sections seen f) most d e tt over
      (step_near (outline_row id).back (row_prompt id).back (λ x f. runs_on (section_end f) (λ y g. outline_sections seen g)) most c d tt back near)

  item_is_near : (x : Item) (later : Cursor → Run) → IsNearIn most (λ f. after_part (Listed x) (later f)) d → length d.rest ≤ most
  item_is_near x later (inl few) = few
  item_is_near x later (inr n) = absurd (let t = n.4 in cc)

  pub entry_near : (id n : ℕ) (x : Item) → 0 < n → (outline_row id).entry seen c ≡ Got (Listed x) d → IsNear most (Entries id n) seen c → length d.rest ≤ most
  entry_near id n x some e near =
      let one : n ≡ suc (n - 1) = omega arith in
      item_is_near x (λ f. entries (n - 1) (outline_row id) outline_sections (noted seen (Listed x)) f)
      (step_near ((outline_row id).entry seen) ((row_prompt id).entry seen) (λ y f. after_part y (entries (n - 1) (outline_row id) outline_sections (noted seen y) f)) most c d (Listed x) e
      (subst (λ (k : ℕ). IsNear most (Entries id k) seen c) one near))

-- where all bytes are passed over none is left
run_passes : (n : ℕ) (c d : Cursor) (bytes : List ℕ) → run n c ≡ Got bytes d → length c.rest ≤ n → length d.rest ≤ 0
unfolding run
run_passes n c d bytes e h =
    elim (cases_lt (length (window c)) n) [
      | inl few ↦ absurd (cut_gives c bytes d (rw (lt-ltb (length (window c)) n few) at e))
      | inr enough ↦
          let t : Got (take n (window c)) (past c n) ≡ Got bytes d = rw (le-ltb (length (window c)) n enough) at e in
          let same : past c n ≡ d = cc in
          omega (arith, ap (λ (k : Cursor). length k.rest) same, length-drop n c.rest)
    ]

pub run_is_near : (most : ℕ) (stage : Stage) (seen : Seen) (n : ℕ) (c d : Cursor) (bytes : List ℕ) → run n c ≡ Got bytes d → n ≡ length c.rest → IsNear most stage seen d
run_is_near most stage seen n c d bytes e all = let none = run_passes n c d bytes e (omega (arith, all)) in inl (omega (arith, none))

-- the bytes that are kept complete nothing
pub take_near : (f : Front) (bytes all : List ℕ) → all ≡ f.kept.items ++ bytes → IsNear (length bytes) f.steps.stage f.steps.seen (record { at = f.at; rest = all; end = f.end })
take_near f bytes all joined =
    elim (cases_lt 0 (length f.kept.items)) [
      | inl some ↦ inr (cursor_of f, bytes, ap (λ (l : List ℕ). record { at = f.at; rest = l; end = f.end }) joined, refl, f.owed some)
      | inr none ↦ inl (omega (arith, ap length joined, length-append f.kept.items bytes))
    ]
