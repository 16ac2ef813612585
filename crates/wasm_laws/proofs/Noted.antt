-- What holds of each item that an entry gives, by what was seen before it, holds of all items of a module.
use Rattle.std.proofs.Common.{◌≡◌, ℕ, zero, suc, ◌+◌, Bool, true, false, cond, eqb, List, [], ◌∷◌, length, subst, inl, inr, is_some}
use Rattle.std.proofs.lemmas.Bool.{cases_Bool}
use Rattle.wasm_defs.specs.declared.item.Item.{Item}
use Rattle.wasm_defs.specs.Fields.{Cursor, Read, Got, Fault, Wants, Reader}
use Rattle.wasm_defs.specs.Entries.{Seen, nothing, note, signature, imported, function, table, memory, global, exported, start, element, code, data_count, segment}
use Rattle.wasm_defs.specs.Outside.{Part, Section, Listed, Coded, listed, body, entries_of, code_entry, Row, row, header, entered, noted, inside, section_end, Run, after_part, runs_on, Next, finish, entries, contents, section, position_of, owes, at_the_end, or_section, sections_up_to, preamble, beginning, module_read}
use Rattle.wasm_defs.specs.Faults.{items_of}
use Rattle.wasm_laws.proofs.Steady.{IfGot, always}
use Rattle.wasm_laws.proofs.Sorts.{IsItem, IsBody, Yields, listed_yields, body_yields}
use Rattle.wasm_laws.proofs.Parts.{got_map, either_got}

-- so of the entries of each section
pub record OfEntries (P : (Seen → Reader Item) → Type 0) : Type 0 where
  pub signatures : P signature
  pub imports : P imported
  pub functions : P function
  pub tables : P table
  pub memories : P memory
  pub globals : P global
  pub exports : P exported
  pub starts : P start
  pub elements : P element
  pub codes : P code
  pub data_counts : P data_count
  pub segments : P segment

-- what holds of an item where so many were seen before, and of items after so many
module _ (many : Seen → ℕ) (Is : ℕ → Item → Type 0) (Are : ℕ → List Item → Type 0) where
  abbrev pub Yield : (Seen → Reader Item) → Type 0
  Yield entry = (seen : Seen) → Yields (Is (many seen)) (entry seen)

  -- ---- rows

  abbrev IsPart : ℕ → Part → Type 0
  IsPart n (Section at id) = Unit {0}
  IsPart n (Listed x) = Is n x
  IsPart n (Coded b) = Unit {0}

  of_item : (n : ℕ) (x : Part) → IsItem (Is n) x → IsPart n x
  of_item n (Section at id) p = tt
  of_item n (Listed x) p = p
  of_item n (Coded b) p = tt

  of_body : (n : ℕ) (x : Part) → IsBody x → IsPart n x
  of_body n (Section at id) p = tt
  of_body n (Listed x) p = absurd p
  of_body n (Coded b) p = tt

  record OfRow (r : Row) : Type 0 where
    entry : (seen : Seen) (c : Cursor) → IfGot (λ x d. IsPart (many seen) x) (r.entry seen c)

  of_listed : (entry : Seen → Reader Item) → Yield entry → (seen : Seen) (c : Cursor) → IfGot (λ x d. IsPart (many seen) x) (listed (entry seen) c)
  of_listed entry h seen c =
      got_map (λ x d. IsItem (Is (many seen)) x) (λ x d. IsPart (many seen) x) (listed (entry seen) c) (λ x d p. of_item (many seen) x p) ((listed_yields (Is (many seen)) (entry seen) (h seen)).got c)

  of_code : Yield code → (seen : Seen) (c : Cursor) → IfGot (λ x d. IsPart (many seen) x) (code_entry seen c)
  of_code h seen c =
      either_got (λ x d. IsPart (many seen) x) seen.counted (body (is_some seen.data_count)) (listed (code seen)) c
      (λ e. got_map (λ x d. IsBody x) (λ x d. IsPart (many seen) x) (body (is_some seen.data_count) c) (λ x d p. of_body (many seen) x p) ((body_yields (is_some seen.data_count)).got c))
      (λ e. of_listed code h seen c)

  of_items : (front : Seen → Reader ℕ) (entry : Seen → Reader Item) → Yield entry → OfRow (entries_of front entry)
  of_items front entry h = record { entry = of_listed entry h }

  either_row : (b : Bool) (p q : Row) → OfRow p → OfRow q → OfRow (cond b p q)
  either_row true p q hp hq = hp
  either_row false p q hp hq = hq

  of_row : OfEntries Yield → (id : ℕ) → OfRow (row id)
  of_row all id =
      either_row (eqb id 1) _ _ (of_items _ _ all.signatures)
      (either_row (eqb id 2) _ _ (of_items _ _ all.imports)
      (either_row (eqb id 3) _ _ (of_items _ _ all.functions)
      (either_row (eqb id 4) _ _ (of_items _ _ all.tables)
      (either_row (eqb id 5) _ _ (of_items _ _ all.memories)
      (either_row (eqb id 6) _ _ (of_items _ _ all.globals)
      (either_row (eqb id 7) _ _ (of_items _ _ all.exports)
      (either_row (eqb id 8) _ _ (of_items _ _ all.starts)
      (either_row (eqb id 9) _ _ (of_items _ _ all.elements)
      (either_row (eqb id 10) _ _ (of_items _ _ all.data_counts)
      (either_row (eqb id 11) _ _ (record { entry = of_code all.codes })
      (either_row (eqb id 12) _ _ (of_items _ _ all.segments)
      (record { entry = of_listed start all.starts }))))))))))))

  -- ---- runs

  record OfRun (n : ℕ) (r : Run) : Type 0 where
    items : Are n (items_of r.parts)

  module _ (none : (n : ℕ) → Are n []) (one_more : (seen : Seen) (x : Item) (xs : List Item) → Is (many seen) x → Are (many (note seen x)) xs → Are (many seen) (x ∷ xs))
      (enters : (seen : Seen) (id : ℕ) → many (entered seen id) ≡ many seen) (all : OfEntries Yield) where
    runs : {A : Type 0} (P : A → Cursor → Type 0) (n : ℕ) (x : Read A) (f : A → Cursor → Run) → IfGot P x → ((a : A) (d : Cursor) → P a d → OfRun n (f a d)) → OfRun n (runs_on x f)
    runs P n (Got a d) f p h = h a d p
    runs P n (Fault r) f p h = record { items = none n }
    runs P n Wants f p h = record { items = none n }

    abbrev OfNext : Next → Type 0
    OfNext next = (seen : Seen) (c : Cursor) → OfRun (many seen) (next seen c)

    after : (seen : Seen) (x : Part) (r : Run) → IsPart (many seen) x → OfRun (many (noted seen x)) r → OfRun (many seen) (after_part x r)
    after seen (Section at id) r p h = record { items = h.items }
    after seen (Listed x) r p h = record { items = one_more seen x (items_of r.parts) p h.items }
    after seen (Coded b) r p h = record { items = h.items }

    module _ (r : Row) (of : OfRow r) (next : Next) (rest : OfNext next) where
      of_finish : OfNext (finish r next)
      of_finish seen c =
          runs (λ x d. Unit {0}) (many seen) (r.back c) _ (always (r.back c)) (λ x d t. runs (λ y e. Unit {0}) (many seen) (section_end d) _ (always (section_end d)) (λ y e t. rest seen e))

      of_entries : (n : ℕ) → OfNext (entries n r next)
      of_entries zero seen c = of_finish seen c
      of_entries (suc n) seen c =
          runs (λ x d. IsPart (many seen) x) (many seen) (r.entry seen c) _ (of.entry seen c)
          (λ x d p. after seen x (entries n r next (noted seen x) d) p (of_entries n (noted seen x) d))

      of_contents : OfNext (contents r next)
      of_contents seen c = runs (λ n d. Unit {0}) (many seen) (r.front seen c) _ (always (r.front seen c)) (λ n d t. of_entries n seen d)

    of_section : (next : Next) → OfNext next → OfNext (section next)
    of_section next rest seen c =
        runs (λ h d. Unit {0}) (many seen) (header seen c) _ (always (header seen c))
        (λ h d t. subst (λ (n : ℕ). OfRun n (contents (row h.0) next (entered seen h.0) (inside d h.1))) (enters seen h.0) (of_contents (row h.0) (of_row all h.0) next rest (entered seen h.0) (inside d h.1)))

    of_end : (seen : Seen) → OfRun (many seen) (at_the_end seen)
    of_end seen = elim (cases_Bool (owes seen)) [ inl owed ↦ rw owed (record { items = none (many seen) }) | inr over ↦ rw over (record { items = none (many seen) }) ]

    of_either : (next : Next) → OfNext next → (seen : Seen) (c : Cursor) (rest : List ℕ) → OfRun (many seen) (or_section next seen c rest)
    of_either next h seen c [] = of_end seen
    of_either next h seen c (b ∷ rest) = after seen (Section c.at (position_of b)) (section next seen c) tt (of_section next h seen c)

    up_to : (n : ℕ) → OfNext (sections_up_to n)
    unfolding sections_up_to
    up_to zero seen c = record { items = none (many seen) }
    up_to (suc n) seen c = of_either (sections_up_to n) (up_to n) seen c c.rest

    pub of_module : (bytes : List ℕ) → Are (many nothing) (items_of (module_read bytes).parts)
    of_module bytes =
        (runs (λ v c. Unit {0}) (many nothing) (preamble (beginning bytes)) _ (always (preamble (beginning bytes)))
        (λ v c t. up_to (length c.rest + 1) nothing c)).items
