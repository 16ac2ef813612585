-- Lists whose elements are passed over as they come.
use Rattle.std.proofs.Common.{◌≡◌, ℕ, zero, suc, ◌+◌, ◌-◌, ◌<◌, ◌≤◌, List, [], ◌∷◌, ◌++◌, length, take, drop, refl, sym, ap, ◌∙◌, arith, append_assoc, length-append, length-drop}
use Rattle.std.proofs.lemmas.List.{append-nil, drop-append-le, drop-drop}
use Rattle.std.proofs.Math.Seq.{drop-append_seam}
use Rattle.wasm_defs.specs.declared.types.ValType.{ValType}
use Rattle.wasm_defs.specs.Fields.{Cursor, Read, Got, Fault, Wants, Reader, then_go, ◌>>=◌, done, repeated, past}
use Rattle.wasm_defs.specs.Entries.{value_type, index, listed_type, listed_index}
use Rattle.wasm_defs.specs.Outside.{Nothing}
use Rattle.wasm_laws.proofs.Steady.{with_more, Steady, Advance, no_advance, advance_then, bind, done_steady}
use Rattle.wasm_laws.proofs.Windows.{all_of}
use Rattle.wasm_laws.proofs.EntryLaws.{value_type_steady, index_steady}
use Rattle.wasm_laws.proofs.Parts.{got_is}
use Rattle.section_reader.specs.declared.wait.Element.{Element}
use Rattle.section_reader.specs.declared.wait.Element.TheVariants.{ValueType, Index}
use Rattle.section_reader.specs.declared.wait.Wait.TheVariants as wait
use Rattle.section_reader.specs.Waits.{element_of, Follows, Skims, Stays}
use Rattle.section_reader.proofs.Leading.{Stable, more_got}

pub element_steady : (e : Element) → Steady [] (element_of e)
element_steady ValueType = bind [] value_type _ (value_type_steady []) (λ ty. done_steady [] tt)
element_steady (Index most) = bind [] (index most) _ (index_steady [] most) (λ i. done_steady [] tt)

-- ---- cursors

abbrev cursor : ℕ → List ℕ → ℕ → Cursor
cursor at rest end = record { at = at; rest = rest; end = end }

same_cursor : (at at' end end' : ℕ) (rest rest' : List ℕ) → at ≡ at' → rest ≡ rest' → end ≡ end' → cursor at rest end ≡ cursor at' rest' end'
same_cursor at at' end end' rest rest' p q r = rw (p, q, r) refl

-- what is left says how many bytes were taken
pub past_is : (c d : Cursor) → Advance c d → past c (length c.rest - length d.rest) ≡ d
past_is c d p =
    let taken : length c.rest - length d.rest ≡ length p.taken = omega (arith, ap length p.parts, length-append p.taken d.rest) in
    same_cursor _ _ _ _ _ _
    (omega (arith, p.at, taken))
    (ap (λ (k : ℕ). drop k c.rest) taken ∙ ap (drop (length p.taken)) p.parts ∙ drop-append_seam p.taken d.rest)
    (sym p.end)

pub rest_from : (place : ℕ) (all : List ℕ) → take (length all - place) (drop place all) ≡ drop place all
rest_from place all = all_of (length all - place) (drop place all) (omega (arith, length-drop place all))

-- ---- whole elements

module _ (p : Reader Nothing) (owed : ℕ) where
  pub none_skimmed : (c : Cursor) (n : ℕ) → n ≡ owed → Skims p owed c n c
  none_skimmed c n e = record { advance = no_advance c; later = λ more h. rw (← e) h }

  -- an element that is whole
  after_one : (n : ℕ) (c d : Cursor) → Stable p → p c ≡ Got tt d → (more : List ℕ) → repeated n p (with_more d more) ≡ Wants → repeated (suc n) p (with_more c more) ≡ Wants
  after_one n c d stable e more h =
      ap (λ (r : Read Nothing). then_go r (λ x. repeated n p >>= λ xs. done (x ∷ xs))) (more_got p stable c d tt e more)
      ∙ ap (λ (r : Read (List Nothing)). then_go r (λ xs. done (tt ∷ xs))) h

  pub one_skimmed : (i : ℕ) (c d e : Cursor) → Steady [] p → i < owed → p d ≡ Got tt e → Skims p owed c (owed - i) d → Skims p owed c (owed - (i + 1)) e
  one_skimmed i c d e steady lt got s =
      let k : owed - i ≡ suc (owed - (i + 1)) = omega arith in
      record {
        advance = advance_then c d e s.advance (got_is (λ x f. Advance d f) (p d) tt e got (steady.moves d));
        later = λ more h. s.later more (rw k (after_one (owed - (i + 1)) d e steady.by got more h));
      }

  pub stays_there : (i : ℕ) (c d : Cursor) → i < owed → p d ≡ Wants → Skims p owed c (owed - i) d → Stays p owed c (owed - i) d
  stays_there i c d lt wants s =
      let k : owed - i ≡ suc (owed - (i + 1)) = omega arith in
      record { skims = s; wants = rw k (ap (λ (r : Read Nothing). then_go r (λ x. repeated (owed - (i + 1)) p >>= λ xs. done (x ∷ xs))) wants) }

-- ---- a list that goes on

module _ (place owed left : ℕ) (e : Element) (at end : ℕ) (kept bytes all : List ℕ) (d : Cursor) where
  abbrev from : Cursor
  from = record { at = at + place; rest = drop place all; end = end }

  abbrev next_place : ℕ
  next_place = length all - length d.rest

  there : Advance from d → place ≤ length all → past (record { at = at; rest = all; end = end }) next_place ≡ d
  there p fits =
      let taken : next_place ≡ place + length p.taken = omega (arith, ap length p.parts, length-append p.taken d.rest, length-drop place all) in
      same_cursor _ _ _ _ _ _
      (omega (arith, p.at, taken))
      (ap (λ (k : ℕ). drop k all) taken ∙ sym (drop-drop (length p.taken) place all) ∙ ap (drop (length p.taken)) p.parts ∙ drop-append_seam p.taken d.rest)
      (sym p.end)

  pub list_follows : all ≡ kept ++ bytes → place ≤ length kept → Stays (element_of e) owed from left d → Follows (wait.List place owed e) (record { at = at; rest = kept; end = end }) bytes (wait.List next_place left e)
  list_follows joined fits s =
      let fits_all : place ≤ length all = omega (arith, ap length joined, length-append kept bytes) in
      let rest_is : drop place all ≡ drop place kept ++ bytes = ap (drop place) joined ∙ drop-append-le place kept bytes fits in
      let now : past (record { at = at; rest = kept ++ bytes; end = end }) next_place ≡ d = ap (λ (l : List ℕ). past (cursor at l end) next_place) (sym joined) ∙ there s.skims.advance fits_all in
      record {
        passes = passes_now rest_is;
        later = λ more h. passes_later rest_is more (ap (λ (c : Cursor). repeated left (element_of e) (with_more c more)) (sym now) ∙ h);
      }
    where
      passes_now : drop place all ≡ drop place kept ++ bytes → repeated owed (element_of e) (record { at = at + place; rest = drop place kept ++ bytes; end = end }) ≡ Wants
      passes_now rest_is =
          ap (λ (l : List ℕ). repeated owed (element_of e) (record { at = at + place; rest = l; end = end })) (sym rest_is ∙ sym (append-nil (drop place all)))
          ∙ s.skims.later [] (ap (λ (l : List ℕ). repeated left (element_of e) (record d { rest = l })) (append-nil d.rest) ∙ s.wants)

      passes_later : drop place all ≡ drop place kept ++ bytes → (more : List ℕ) → repeated left (element_of e) (with_more d more) ≡ Wants → repeated owed (element_of e) (record { at = at + place; rest = drop place kept ++ (bytes ++ more); end = end }) ≡ Wants
      passes_later rest_is more h =
          ap (λ (l : List ℕ). repeated owed (element_of e) (record { at = at + place; rest = l; end = end })) (sym (append_assoc (drop place kept) bytes more) ∙ ap (λ (l : List ℕ). l ++ more) (sym rest_is))
          ∙ s.skims.later more h

-- ---- lists with their values

-- two readers do the same, values aside
abbrev Same : {A : Type 0} → Read A → Read Nothing → Type 0
Same (Got x d) r = r ≡ Got tt d
Same (Fault f) r = r ≡ Fault f
Same Wants r = r ≡ Wants

list_wants : {A : Type 0} (x : A) (r : Read (List A)) → then_go r (λ xs. done (x ∷ xs)) ≡ Wants → r ≡ Wants
list_wants x (Got xs d) h = absurd cc
list_wants x (Fault f) h = absurd cc
list_wants x Wants h = refl

module _ {A : Type 0} (q : Reader A) (p : Reader Nothing) (same : (c : Cursor) → Same (q c) (p c)) where
  one_wants : (n : ℕ) → ((d : Cursor) → repeated n p d ≡ Wants → repeated n q d ≡ Wants) → (r : Read A) (t : Read Nothing) → Same r t
      → then_go t (λ x. repeated n p >>= λ xs. done (x ∷ xs)) ≡ Wants → then_go r (λ x. repeated n q >>= λ xs. done (x ∷ xs)) ≡ Wants
  one_wants n rest (Got x d) t e h = ap (λ (r : Read (List A)). then_go r (λ xs. done (x ∷ xs))) (rest d (list_wants tt (repeated n p d) (rw e at h)))
  one_wants n rest (Fault f) t e h = absurd (let k = rw e at h in cc)
  one_wants n rest Wants t e h = refl

  values_want : (n : ℕ) (c : Cursor) → repeated n p c ≡ Wants → repeated n q c ≡ Wants
  values_want zero c h = absurd cc
  values_want (suc n) c h = one_wants n (λ d k. values_want n d k) (q c) (p c) (same c) h

same_type : (c : Cursor) → Same (listed_type c) (element_of ValueType c)
unfolding listed_type
same_type c = go (value_type c)
  where
    go : (r : Read (ℕ × ValType)) → Same (then_go r (λ ty. done ty.1)) (then_go r (λ ty. done tt))
    go (Got x d) = refl
    go (Fault f) = refl
    go Wants = refl

same_index : (most : ℕ) (c : Cursor) → Same (listed_index most c) (element_of (Index most) c)
unfolding listed_index
same_index most c = go (index most c)
  where
    go : (r : Read (ℕ × ℕ)) → Same (then_go r (λ i. done i.1)) (then_go r (λ i. done tt))
    go (Got x d) = refl
    go (Fault f) = refl
    go Wants = refl

pub types_want : (n : ℕ) (c : Cursor) → repeated n (element_of ValueType) c ≡ Wants → repeated n listed_type c ≡ Wants
types_want n c h = values_want listed_type (element_of ValueType) same_type n c h

pub indices_want : (n most : ℕ) (c : Cursor) → repeated n (element_of (Index most)) c ≡ Wants → repeated n (listed_index most) c ≡ Wants
indices_want n most c h = values_want (listed_index most) (element_of (Index most)) (same_index most) n c h
