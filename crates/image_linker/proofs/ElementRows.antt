-- Element segments that were gone over so far, and one more.
use Rattle.std.proofs.Common.{◌≡◌, ℕ, zero, suc, ◌+◌, ◌<◌, ◌≤◌, ◌&&◌, Bool, true, false, List, [], ◌∷◌, ◌++◌, map, take, drop, length, set, get_or, Some, refl, sym, ap, ◌∙◌, subst, arith, append_assoc, add-one, drop-cons, length-append}
use Rattle.std.specs.Prelude.{nat_le, slice_set, slice_index_or}
use Rattle.std.proofs.lemmas.Bool.{and_parts, and_from, le-leb, leb-true, lt-leb}
use Rattle.std.proofs.lemmas.List.{set_at, take_more, length-take-le, length-map, take-append-drop, map-append}
use Rattle.wasm_defs.specs.Instances.{over, all_over, all_fit}
use Rattle.index_spaces.specs.declared.entries.ElementRow.{ElementRow}
use Rattle.index_spaces.specs.Entries.{written_rows}
use Rattle.index_spaces.specs.Spaces.{Spaces}
use Rattle.image_format.specs.declared.image.Row.{Row}
use Rattle.image_linker.specs.Linking.{linked_row, linked_elements}
use Rattle.image_linker.proofs.LoadedMemory.{over_length}
use Rattle.image_linker.proofs.DataRows.{and_false}

-- ---- room

abbrev end_of : ElementRow → ℕ
end_of r = r.place + length r.functions

-- what a segment has counts
counted : (r : ElementRow) → r.place + length (map Some r.functions) ≡ r.place + length r.functions
counted r = ap (λ (n : ℕ). r.place + n) (length-map r.functions (λ (f : ℕ). Some f))

tested : (size : ℕ) (x r : ElementRow) → r ≡ x → end_of r ≤ size → nat_le (x.place + length (map Some x.functions)) size ≡ true
tested size x r e le = ap (λ (n : ℕ). nat_le n size) (counted x) ∙ subst (λ (y : ElementRow). nat_le (end_of y) size ≡ true) e (le-leb (end_of r) size le)

failed : (size : ℕ) (x r : ElementRow) → r ≡ x → size < end_of r → nat_le (x.place + length (map Some x.functions)) size ≡ false
failed size x r e over = ap (λ (n : ℕ). nat_le n size) (counted x) ∙ subst (λ (y : ElementRow). nat_le (end_of y) size ≡ false) e (lt-leb (end_of r) size over)

all_fit_suc : (size : ℕ) (rows : List ElementRow) (i : ℕ) (r : ElementRow) → i < length rows → r ≡ slice_index_or rows i r → all_fit size (written_rows (take i rows)) ≡ true → r.place + length r.functions ≤ size
    → all_fit size (written_rows (take (suc i) rows)) ≡ true
all_fit_suc size [] i r less e fit le = absurd (omega arith)
all_fit_suc size (x ∷ rows) zero r less e fit le = and_from (nat_le (x.place + length (map Some x.functions)) size) true (tested size x r e le) refl
all_fit_suc size (x ∷ rows) (suc i) r less e fit le =
    let first = nat_le (x.place + length (map Some x.functions)) size in
    let parts = and_parts first (all_fit size (written_rows (take i rows))) fit in
    and_from first (all_fit size (written_rows (take (suc i) rows))) parts.0 (all_fit_suc size rows i r (omega arith) e parts.1 le)

pub all_fit_more : (size : ℕ) (rows : List ElementRow) (i : ℕ) (r : ElementRow) → i < length rows → r ≡ slice_index_or rows i r → all_fit size (written_rows (take i rows)) ≡ true → r.place + length r.functions ≤ size
    → all_fit size (written_rows (take (i + 1) rows)) ≡ true
all_fit_more size rows i r less e fit le = let k : i + 1 ≡ suc i = omega arith in rw k (all_fit_suc size rows i r less e fit le)

false_first : (a b : Bool) → a ≡ false → (a && b) ≡ false
false_first true b e = absurd cc
false_first false b e = refl

-- where one has no room
pub not_all_fit : (size : ℕ) (rows : List ElementRow) (i : ℕ) (r : ElementRow) → i < length rows → r ≡ slice_index_or rows i r → size < r.place + length r.functions → all_fit size (written_rows rows) ≡ false
not_all_fit size [] i r less e over = absurd (omega arith)
not_all_fit size (x ∷ rows) zero r less e over = false_first (nat_le (x.place + length (map Some x.functions)) size) (all_fit size (written_rows rows)) (failed size x r e over)
not_all_fit size (x ∷ rows) (suc i) r less e over =
    and_false (nat_le (x.place + length (map Some x.functions)) size) (all_fit size (written_rows rows)) (not_all_fit size rows i r (omega arith) e over)

-- the one of an index fits
pub each_fits : (size : ℕ) (rows : List ElementRow) (i : ℕ) (r : ElementRow) → i < length rows → r ≡ slice_index_or rows i r → all_fit size (written_rows rows) ≡ true → r.place + length r.functions ≤ size
each_fits size [] i r less e fit = absurd (omega arith)
each_fits size (x ∷ rows) zero r less e fit =
    let parts = and_parts (nat_le (x.place + length (map Some x.functions)) size) (all_fit size (written_rows rows)) fit in
    let inside = leb-true (x.place + length (map Some x.functions)) size parts.0 in
    subst (λ (y : ElementRow). y.place + length y.functions ≤ size) (sym e) (omega (arith, counted x, inside))
each_fits size (x ∷ rows) (suc i) r less e fit =
    let parts = and_parts (nat_le (x.place + length (map Some x.functions)) size) (all_fit size (written_rows rows)) fit in
    each_fits size rows i r (omega arith) e parts.1

-- ---- one segment is written

-- nothing of it yet
pub none_over : (old : List Row) (place : ℕ) → old ≡ over old (place, [])
none_over old place = let at : place + 0 ≡ place = omega arith in sym (ap (λ (n : ℕ). take place old ++ drop n old) at ∙ take-append-drop place old)

-- one row more
over_suc : (old rows : List Row) (place : ℕ) (row : Row) → place + length rows < length old → set (over old (place, rows)) (place + length rows) row ≡ over old (place, rows ++ row ∷ [])
over_suc old rows place row less =
    let n = place + length rows in
    let front = take place old ++ rows in
    let behind = drop (n + 1) old in
    let cut : drop n old ≡ get_or old n row ∷ behind = drop-cons old n row less ∙ ap (λ (k : ℕ). get_or old n row ∷ drop k old) (sym (add-one n)) in
    let size : length front ≡ n = length-append (take place old) rows ∙ omega (arith, length-take-le place old (omega arith)) in
    let more : place + length (rows ++ row ∷ []) ≡ n + 1 = omega (arith, length-append rows (row ∷ [])) in
    ap (λ (l : List Row). set (take place old ++ (rows ++ l)) n row) cut
    ∙ ap (λ (l : List Row). set l n row) (sym (append_assoc (take place old) rows (get_or old n row ∷ behind)))
    ∙ set_at front (get_or old n row) behind row n size
    ∙ append_assoc (take place old) rows (row ∷ behind)
    ∙ ap (λ (l : List Row). take place old ++ l) (sym (append_assoc rows (row ∷ []) behind))
    ∙ ap (λ (k : ℕ). take place old ++ ((rows ++ row ∷ []) ++ drop k old)) (sym more)

pub get_or_same : (xs : List ℕ) (i : ℕ) → i < length xs → get_or xs i 0 ≡ get_or xs i (get_or xs i 0)
get_or_same [] i less = absurd (omega arith)
get_or_same (x ∷ xs) zero less = refl
get_or_same (x ∷ xs) (suc i) less = get_or_same xs i (omega arith)

mapped_more : (f : ℕ → Row) (xs : List ℕ) (i x : ℕ) → i < length xs → x ≡ get_or xs i x → map f (take (i + 1) xs) ≡ map f (take i xs) ++ f x ∷ []
mapped_more f xs i x less is =
    ap (map f) (take_more xs i x less ∙ ap (λ (y : ℕ). take i xs ++ y ∷ []) (sym is)) ∙ map-append f (take i xs) (x ∷ [])

module _ (s : Spaces) (starts : List ℕ) where
  pub written_length : (old : List Row) (place i : ℕ) (functions : List ℕ) → i < length functions → place + length functions ≤ length old → length (over old (place, map (linked_row s starts) (take i functions))) ≡ length old
  written_length old place i functions less fits =
      over_length old (place, map (linked_row s starts) (take i functions)) (omega (arith, length-map (take i functions) (linked_row s starts), length-take-le i functions (omega arith)))

  pub written_more : (old rows new : List Row) (place i f : ℕ) (functions : List ℕ) → i < length functions → f ≡ get_or functions i f → place + length functions ≤ length old
      → rows ≡ over old (place, map (linked_row s starts) (take i functions)) → new ≡ slice_set rows (place + i) (linked_row s starts f) → new ≡ over old (place, map (linked_row s starts) (take (i + 1) functions))
  written_more old rows new place i f functions less is fits before after =
      let front = map (linked_row s starts) (take i functions) in
      let count : length front ≡ i = length-map (take i functions) (linked_row s starts) ∙ length-take-le i functions (omega arith) in
      after ∙ ap (λ (l : List Row). set l (place + i) (linked_row s starts f)) before
      ∙ ap (λ (n : ℕ). set (over old (place, front)) (place + n) (linked_row s starts f)) (sym count)
      ∙ over_suc old front place (linked_row s starts f) (omega (arith, count))
      ∙ ap (λ (l : List Row). over old (place, l)) (sym (mapped_more (linked_row s starts) functions i f less is))

  -- ---- all segments

  all_suc : (old : List Row) (rows : List ElementRow) (i : ℕ) (r : ElementRow) → i < length rows → r ≡ slice_index_or rows i r
      → all_over old (linked_elements s starts (take (suc i) rows)) ≡ over (all_over old (linked_elements s starts (take i rows))) (r.place, map (linked_row s starts) r.functions)
  all_suc old [] i r less e = absurd (omega arith)
  all_suc old (x ∷ rows) zero r less e = ap (λ (y : ElementRow). over old (y.place, map (linked_row s starts) y.functions)) (sym e)
  all_suc old (x ∷ rows) (suc i) r less e = all_suc (over old (x.place, map (linked_row s starts) x.functions)) rows i r (omega arith) e

  pub all_more : (old : List Row) (rows : List ElementRow) (i : ℕ) (r : ElementRow) → i < length rows → r ≡ slice_index_or rows i r
      → all_over old (linked_elements s starts (take (i + 1) rows)) ≡ over (all_over old (linked_elements s starts (take i rows))) (r.place, map (linked_row s starts) r.functions)
  all_more old rows i r less e = let k : i + 1 ≡ suc i = omega arith in rw k (all_suc old rows i r less e)

  -- and there are as many rows
  pub all_length : (size : ℕ) (old : List Row) (rows : List ElementRow) (i : ℕ) → length old ≡ size → all_fit size (written_rows rows) ≡ true → length (all_over old (linked_elements s starts (take i rows))) ≡ size
  all_length size old [] zero is fit = is
  all_length size old [] (suc i) is fit = is
  all_length size old (x ∷ rows) zero is fit = is
  all_length size old (x ∷ rows) (suc i) is fit =
      let parts = and_parts (nat_le (x.place + length (map Some x.functions)) size) (all_fit size (written_rows rows)) fit in
      let inside = leb-true (x.place + length (map Some x.functions)) size parts.0 in
      all_length size (over old (x.place, map (linked_row s starts) x.functions)) rows i (over_length old (x.place, map (linked_row s starts) x.functions) (omega (arith, is, inside, counted x, length-map x.functions (linked_row s starts))) ∙ is) parts.1
