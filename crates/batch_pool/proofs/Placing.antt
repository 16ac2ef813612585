-- Rows that are put at the numbers of their batches.
use Rattle.std.proofs.Common.{◌≡◌, ◌<◌, ℕ, Bool, cond, set, List, [], ◌∷◌, length, get_or, Option, Some, None, sym, ap, ◌∙◌, arith, eq-eqb, ne_eqb, get_or-set_same, get_or-set_other, length-set}
use Rattle.std.proofs.lemmas.Option.{slice_get-get_or}
use Rattle.std.specs.Prelude.{slice_get}
use Rattle.std.specs.Arc.{arc_value}
use mathlib.Core.Logic.{dite}
use native.Mathlib.Decide.{ℕ_discrete}
use Rattle.body_compiler.specs.declared.batch.row.Row.{Row}
use Rattle.batch_pool.specs.Numbered.{last_row, row_numbered}

-- each index has the last one of its number among the rows so far
abbrev pub ArePlaced : List Row → List (Option Row) → List Row → Type 0
ArePlaced rows places rest = (i : ℕ) → i < length places → last_row i rest (get_or places i None) ≡ row_numbered i rows

row_here : (i : ℕ) (row : Row) (rest : List Row) (before : Option Row) → (arc_value row.batch).number ≡ i → last_row i (row ∷ rest) before ≡ last_row i rest (Some row)
row_here i row rest before is = ap (λ (b : Bool). last_row i rest (cond b (Some row) before)) (eq-eqb (arc_value row.batch).number i is)

row_elsewhere : (i : ℕ) (row : Row) (rest : List Row) (before : Option Row) → ((arc_value row.batch).number ≡ i → ⊥) → last_row i (row ∷ rest) before ≡ last_row i rest before
row_elsewhere i row rest before not = ap (λ (b : Bool). last_row i rest (cond b (Some row) before)) (ne_eqb (arc_value row.batch).number i not)

module _ (rows all rest : List Row) (row : Row) (step : all ≡ row ∷ rest) where
  pub row_placed : (places places' : List (Option Row)) (number : ℕ) → ArePlaced rows places all → (arc_value row.batch).number ≡ number → number < length places → places' ≡ set places number (Some row) → ArePlaced rows places' rest
  row_placed places places' number old is in' sets i small =
      let wide : length places' ≡ length places = ap length sets ∙ length-set places number (Some row) in
      let then' : last_row i (row ∷ rest) (get_or places i None) ≡ row_numbered i rows = ap (λ (l : List Row). last_row i l (get_or places i None)) (sym step) ∙ old i (omega arith) in
      dite (ℕ_discrete number i)
      (λ h. ap (λ (l : List (Option Row)). last_row i rest (get_or l i None)) sets
      ∙ (ap (λ (n : ℕ). last_row i rest (get_or (set places number (Some row)) n None)) (sym h)
      ∙ (ap (λ (o : Option Row). last_row i rest o) (get_or-set_same places number (Some row) None in') ∙ (sym (row_here i row rest (get_or places i None) (is ∙ h)) ∙ then'))))
      (λ not. ap (λ (l : List (Option Row)). last_row i rest (get_or l i None)) sets
      ∙ (ap (λ (o : Option Row). last_row i rest o) (get_or-set_other places number i (Some row) None (λ e. not (omega (arith, e))))
      ∙ (sym (row_elsewhere i row rest (get_or places i None) (λ e. not (omega (arith, e, is)))) ∙ then')))

pub placing_ends : (rows rest : List Row) (places : List (Option Row)) (count : ℕ) → ArePlaced rows places rest → length rest ≡ 0 → length places ≡ count → (i : ℕ) → i < count → slice_get places i ≡ Some (row_numbered i rows)
placing_ends rows [] places count are none wide i in' = slice_get-get_or places i None (omega arith) ∙ ap (λ (o : Option Row). Some o) (are i (omega arith))
placing_ends rows (row ∷ rest) places count are none wide i in' = absurd (omega arith)
