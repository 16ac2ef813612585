-- The parts of a module are cut from its bytes.
use Rattle.std.proofs.Common.{◌≡◌, ℕ, zero, suc, ◌+◌, ◌-◌, ◌≤◌, Bool, true, false, cond, eqb, ltb, ◌||◌, List, [], ◌∷◌, length, take, drop, refl, sym, ap, ◌∙◌, arith, length-take, inl, inr, is_some}
use Rattle.std.proofs.lemmas.Bool.{cases_Bool, cases_lt, lt-ltb, le-ltb}
use Rattle.std.proofs.lemmas.List.{drop-drop, drop_at, take-take}
use Rattle.wasm_defs.specs.declared.item.Item.{Item}
use Rattle.wasm_defs.specs.Limits.{max_body}
use Rattle.wasm_defs.specs.Fields.{Cursor, Read, Got, Fault, Wants, Reader, then_go, done, room_of, window, u32, room, here, run}
use Rattle.wasm_defs.specs.Entries.{Seen, nothing, code}
use Rattle.wasm_defs.specs.Outside.{Part, Section, Listed, Coded, listed, body, entries_of, code_entry, Row, row, header, entered, noted, inside, no_end, section_end, Run, after_part, runs_on, Next, finish, entries, contents, section, position_of, owes, at_the_end, or_section, sections_up_to, preamble, beginning, module_read}
use Rattle.wasm_laws.specs.Order.{AreCutFrom}
use Rattle.wasm_laws.proofs.Steady.{IfGot, Advance}
use Rattle.wasm_laws.proofs.Windows.{cut_got}
use Rattle.wasm_laws.proofs.FieldLaws.{u32_field}
use Rattle.wasm_laws.proofs.EntryLaws.{header_steady, preamble_steady}
use Rattle.wasm_laws.proofs.RowLaws.{SteadyRow, row_steady, end_steady}
use Rattle.wasm_laws.proofs.Parts.{then_got, got_both, either_got}
use Rattle.wasm_laws.proofs.Positions.{id_again}

module _ (bytes : List ℕ) where
  -- a cursor has what follows its offset
  record Shows (c : Cursor) : Type 0 where
    rest : c.rest ≡ drop c.at bytes

  shows_on : (c d : Cursor) → Shows c → Advance c d → Shows d
  shows_on c d s p = record { rest = sym (drop_at p.taken d.rest (length p.taken) refl) ∙ ap (λ (l : List ℕ). drop (length p.taken) l) (sym p.parts ∙ s.rest) ∙ drop-drop (length p.taken) c.at bytes ∙ ap (λ (n : ℕ). drop n bytes) (sym p.at) }

  -- ---- entries

  abbrev IsCutFrom : Part → Type 0
  IsCutFrom x = AreCutFrom bytes (x ∷ [])

  run_got : (n : ℕ) (c : Cursor) → Shows c → IfGot (λ b d. take (length b) (drop c.at bytes) ≡ b) (run n c)
  unfolding run
  run_got n c s =
      elim (cases_lt (length (window c)) n) [
        | inl lt ↦ rw (lt-ltb (length (window c)) n lt) (cut_got _ _ c)
        | inr ge ↦
            let len : length (take n (window c)) ≡ n = omega (arith, length-take n (window c)) in
            let room : n ≤ c.end - c.at = omega (arith, length-take (c.end - c.at) c.rest) in
            rw (le-ltb (length (window c)) n ge, len, ← s.rest) (sym (take-take n (c.end - c.at) c.rest room))
      ]

  body_is_cut : (counted : Bool) (c : Cursor) → Shows c → IfGot (λ x d. IsCutFrom x) (body counted c)
  unfolding body room here
  body_is_cut counted c s =
      then_got (λ n d. Advance c d) (λ x d. IsCutFrom x) (u32 c) _ ((u32_field.steady []).moves c)
      (λ n d p.
      elim (cases_Bool (ltb n.1 2 || ltb (room_of d) n.1)) [
        | inl wrong ↦ rw wrong tt
        | inr right ↦ rw right (elim (cases_Bool (ltb max_body n.1)) [
          | inl over ↦ rw over tt
          | inr fits ↦ rw fits (then_got (λ b e. take (length b) (drop d.at bytes) ≡ b) (λ x d. IsCutFrom x) (run n.1 d) _ (run_got n.1 d (shows_on c d s p)) (λ b e q. (q, tt)))
        ])
      ])

  listed_is_cut : (c : Cursor) (x : Read Item) → IfGot (λ y d. IsCutFrom y) (then_go x (λ y. done (Listed y)))
  listed_is_cut c (Got y d) = tt
  listed_is_cut c (Fault r) = tt
  listed_is_cut c Wants = tt

  record CutRow (r : Row) : Type 0 where
    entry : (seen : Seen) (c : Cursor) → Shows c → IfGot (λ x d. IsCutFrom x) (r.entry seen c)

  items_are_cut : (front : Seen → Reader ℕ) (entry : Seen → Reader Item) → CutRow (entries_of front entry)
  items_are_cut front entry = record { entry = λ seen c s. listed_is_cut c (entry seen c) }

  code_is_cut : (seen : Seen) (c : Cursor) → Shows c → IfGot (λ x d. IsCutFrom x) (code_entry seen c)
  code_is_cut seen c s = either_got (λ x d. IsCutFrom x) seen.counted (body (is_some seen.data_count)) (listed (code seen)) c (λ e. body_is_cut (is_some seen.data_count) c s) (λ e. listed_is_cut c (code seen c))

  either_row : (b : Bool) (p q : Row) → CutRow p → CutRow q → CutRow (cond b p q)
  either_row true p q hp hq = hp
  either_row false p q hp hq = hq

  row_is_cut : (id : ℕ) → CutRow (row id)
  row_is_cut id =
      either_row (eqb id 1) _ _ (items_are_cut _ _)
      (either_row (eqb id 2) _ _ (items_are_cut _ _)
      (either_row (eqb id 3) _ _ (items_are_cut _ _)
      (either_row (eqb id 4) _ _ (items_are_cut _ _)
      (either_row (eqb id 5) _ _ (items_are_cut _ _)
      (either_row (eqb id 6) _ _ (items_are_cut _ _)
      (either_row (eqb id 7) _ _ (items_are_cut _ _)
      (either_row (eqb id 8) _ _ (items_are_cut _ _)
      (either_row (eqb id 9) _ _ (items_are_cut _ _)
      (either_row (eqb id 10) _ _ (items_are_cut _ _)
      (either_row (eqb id 11) _ _ (record { entry = code_is_cut })
      (either_row (eqb id 12) _ _ (items_are_cut _ _)
      (record { entry = λ seen c s. listed_is_cut c _ }))))))))))))

  -- ---- runs

  record RunIsCut (r : Run) : Type 0 where
    parts : AreCutFrom bytes r.parts

  after_cut : (x : Part) (r : Run) → IsCutFrom x → RunIsCut r → RunIsCut (after_part x r)
  after_cut (Section at id) r p h = record { parts = (p.0, h.parts) }
  after_cut (Listed x) r p h = record { parts = h.parts }
  after_cut (Coded b) r p h = record { parts = (p.0, h.parts) }

  runs_are_cut : {A : Type 0} (P : A → Cursor → Type 0) (x : Read A) (f : A → Cursor → Run) → IfGot P x → ((a : A) (d : Cursor) → P a d → RunIsCut (f a d)) → RunIsCut (runs_on x f)
  runs_are_cut P (Got a d) f p h = h a d p
  runs_are_cut P (Fault r) f p h = record { parts = tt }
  runs_are_cut P Wants f p h = record { parts = tt }

  abbrev Cuts : Next → Type 0
  Cuts next = (seen : Seen) (c : Cursor) → Shows c → RunIsCut (next seen c)

  -- the section's end says nothing of the bytes
  shows_inside : (c : Cursor) (end : ℕ) → Shows c → Shows (inside c end)
  shows_inside c end s = record { rest = s.rest }

  finish_cuts : (r : Row) → SteadyRow r → (next : Next) → Cuts next → Cuts (finish r next)
  finish_cuts r steady next cuts seen c s =
      runs_are_cut (λ x d. Advance c d) (r.back c) _ (steady.back.moves c)
      (λ x d p. runs_are_cut (λ y e. (room_of d ≡ 0) × (e ≡ inside d no_end)) (section_end d) _ (end_steady.leaves d)
      (λ y e q. rw q.1 (cuts seen (inside d no_end) (shows_inside d no_end (shows_on c d s p)))))

  entries_cut : (r : Row) → SteadyRow r → CutRow r → (next : Next) → Cuts next → (n : ℕ) → Cuts (entries n r next)
  entries_cut r steady cut next cuts zero seen c s = finish_cuts r steady next cuts seen c s
  entries_cut r steady cut next cuts (suc n) seen c s =
      runs_are_cut (λ x d. Advance c d × IsCutFrom x) (r.entry seen c) _ (got_both _ _ (r.entry seen c) ((steady.entry seen).moves c) (cut.entry seen c s))
      (λ x d p. after_cut x _ p.1 (entries_cut r steady cut next cuts n (noted seen x) d (shows_on c d s p.0)))

  contents_cut : (r : Row) → SteadyRow r → CutRow r → (next : Next) → Cuts next → Cuts (contents r next)
  contents_cut r steady cut next cuts seen c s =
      runs_are_cut (λ n d. Advance c d) (r.front seen c) _ ((steady.front seen).moves c)
      (λ n d p. entries_cut r steady cut next cuts n seen d (shows_on c d s p))

  section_cuts : (next : Next) → Cuts next → Cuts (section next)
  section_cuts next cuts seen c s =
      runs_are_cut (λ h d. Advance c d) (header seen c) _ ((header_steady [] seen).moves c)
      (λ h d p. contents_cut (row h.0) (row_steady h.0) (row_is_cut h.0) next cuts (entered seen h.0) (inside d h.1) (shows_inside d h.1 (shows_on c d s p)))

  ends_cut : (seen : Seen) → RunIsCut (at_the_end seen)
  ends_cut seen = elim (cases_Bool (owes seen)) [ inl code ↦ rw code (record { parts = tt }) | inr none ↦ rw none (record { parts = tt }) ]

  or_cuts : (next : Next) → Cuts next → (seen : Seen) (c : Cursor) (rest : List ℕ) → c.rest ≡ rest → Shows c → RunIsCut (or_section next seen c rest)
  or_cuts next cuts seen c [] e s = ends_cut seen
  or_cuts next cuts seen c (b ∷ rest) e s =
      after_cut (Section c.at (position_of b)) (section next seen c) (ap (λ (l : List ℕ). take 1 l) (sym s.rest ∙ e) ∙ ap (λ (id : ℕ). id ∷ []) (sym (id_again b)), tt) (section_cuts next cuts seen c s)

  up_to_cuts : (n : ℕ) → Cuts (sections_up_to n)
  unfolding sections_up_to
  up_to_cuts zero seen c s = record { parts = tt }
  up_to_cuts (suc n) seen c s = or_cuts (sections_up_to n) (up_to_cuts n) seen c c.rest refl s

  -- ---- modules

  pub parts_are_cut : AreCutFrom bytes (module_read bytes).parts
  parts_are_cut =
      let c = beginning bytes in
      let run : RunIsCut (module_read bytes) =
      runs_are_cut (λ v d. Advance c d) (preamble c) _ ((preamble_steady []).moves c)
      (λ v d p. up_to_cuts (length d.rest + 1) nothing d (shows_on c d (record { rest = refl }) p)) in
      run.parts
