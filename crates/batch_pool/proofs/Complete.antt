-- The rows of all that was published.
use Rattle.std.proofs.Common.{◌≡◌, ◌≢◌, inl, inr, ℕ, ◌+◌, ◌*◌, ◌<◌, ◌≤◌, List, [], ◌++◌, length, map, slice_index, Option, None, MatchOption, All, Contains, sym, ap, ◌∙◌, subst, arith}
use mathlib.Core.Logic.{dite}
use mathlib.Core.List.{map-append}
use native.Mathlib.Decide.{ℕ_discrete, dec_le}
use Rattle.wasm_defs.specs.declared.fault.Refusal.{Refusal}
use Rattle.cancel_drain.specs.declared.view.View.{View}
use Rattle.cancel_drain.specs.Keys.{key_of}
use Rattle.cancel_drain.specs.Views.{times}
use Rattle.cancel_drain.specs.Closing.{IsClosed, IsSettled, IsFaultBefore}
use Rattle.cancel_drain.proofs.Batches.{once_not}
use Rattle.body_compiler.specs.declared.batch.row.Row.{Row}
use Rattle.batch_pool.specs.Working.{place_of, keys_of}
use Rattle.batch_pool.specs.Laws.{rows_at, HasRow, RowsAreComplete}
use Rattle.batch_pool.proofs.Served.{keys-append}
use Rattle.batch_pool.proofs.AfterReading.{rows_grown}

module _ (functions : ℕ) (last : View) (least : Option Refusal) (states : List ℕ) (closed : IsClosed functions last least states) (rows : List Row) (done : last.done ≡ map place_of rows) where
  -- a batch with rows has the word of one that is done
  has_word : (b s : ℕ) → 0 < rows_at b s rows → slice_index states b ≡ 8 * s + 3
  has_word b s has = let e = ap (times b s) done in dite (ℕ_discrete (slice_index states b) (8 * s + 3))
      (λ e. e)
      (λ ne. absurd (omega (arith, closed.done b s, once_not (slice_index states b) (8 * s + 3) ne)))

  has_row : (b : ℕ) → IsSettled last least b → HasRow last least rows b
  has_row b (inl one) = inl (sym (ap (times b (slice_index last.published b)) done) ∙ one)
  has_row b (inr (one, before)) =
      let s = slice_index last.published b in
      let none : rows_at b s rows ≡ 0 = dite (ℕ_discrete (slice_index states b) (8 * s + 4))
      (λ e. let ne : slice_index states b ≢ 8 * s + 3 = λ f. absurd (omega arith) in sym (ap (times b s) done) ∙ (closed.done b s ∙ once_not (slice_index states b) (8 * s + 3) ne))
      (λ ne. absurd (omega (arith, closed.drained b s, once_not (slice_index states b) (8 * s + 4) ne))) in
      inr (none, one, before)

  row_stands : least ≡ None → (b : ℕ) → HasRow last least rows b → rows_at b (slice_index last.published b) rows ≡ 1
  row_stands none b (inl one) = one
  row_stands none b (inr (_, _, before)) = absurd (subst (λ (l : Option Refusal). IsFaultBefore l (slice_index last.published b)) none before)

  no_other : (b s : ℕ) → 0 < rows_at b s rows → (b < length last.published) × (s ≡ slice_index last.published b)
  no_other b s has = let word = has_word b s has in dite (dec_le (length last.published) b)
      (λ out. absurd (let z = closed.blank b out in omega arith))
      (λ in'. let state = closed.published b (omega arith) in (omega arith, omega arith))

pub rows_are_complete : RowsAreComplete
rows_are_complete c cells board first last seat kept made rows least states blank read grows closed settled =
    let done : last.done ≡ map place_of rows = grows.adds.done
    ∙ (ap (λ (l : List (ℕ × ℕ)). l ++ map place_of grows.adds.more) (read.done ∙ ap (λ (l : List (ℕ × ℕ)). l ++ map place_of made) blank.0)
    ∙ (sym (map-append place_of made grows.adds.more) ∙ ap (map place_of) (sym grows.adds.are))) in
    let reported : last.reported ≡ keys_of rows = grows.adds.reported
    ∙ (ap (λ (l : List ℕ). l ++ keys_of grows.adds.more) (read.reported ∙ ap (λ (l : List ℕ). l ++ keys_of made) blank.1)
    ∙ (sym (keys-append made grows.adds.more) ∙ ap keys_of (sym grows.adds.are))) in
    let each = λ (b : ℕ) (in' : b < length last.published). has_row board.functions last least states closed rows done b (settled b in') in record {
      right = rows_grown c cells seat.view last made rows grows read.right;
      each = each;
      all = λ none b in'. row_stands board.functions last least states closed rows done none b (each b in');
      only = no_other board.functions last least states closed rows done;
      is_least = subst (λ (l : List ℕ). MatchOption least (l ≡ []) (λ r. Contains l (key_of r) × All (λ key. key_of r ≤ key) l)) reported closed.is_least;
    }
