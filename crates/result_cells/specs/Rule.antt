-- The room's rule. It holds between any two steps.
use Rattle.std.specs.Prelude.{◌≡◌, ℕ, ◌+◌, ◌≤◌, List, length, slice_index, sum_by}
use mathlib.Core.Option.{some}
use lib.ListN.{get_elem?}
use Rattle.atomic_table.specs.Table.{State}
use Rattle.result_cells.specs.declared.view.View.{View}

-- how many words are left
abbrev pub left_of : List ℕ → ℕ
left_of words = slice_index words 0

pub record IsRuled (most : ℕ) (s : State (Unit {0}) View) : Type 0 where
  pub wide : length s.words ≡ 1
  -- what is left and what was taken make up the whole
  pub whole : left_of s.words + sum_by (λ v. v.taken) s.views ≡ most
  -- no view has seen less than what is left
  pub seen : (j : ℕ) (v : View) → get_elem? s.views j ≡ some v → left_of s.words ≤ v.seen
