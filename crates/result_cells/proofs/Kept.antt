-- Each step keeps the room's rule.
use Rattle.std.proofs.Common.{◌≡◌, ◌≢◌, ℕ, zero, suc, ◌+◌, ◌-◌, ◌<◌, ◌≤◌, ⊎_elim, eqb, List, [], ◌∷◌, ◌++◌, set, sym, refl, ap, ◌∙◌, subst, arith, length-set, get_or-set_same, eq-eqb, ne_eqb}
use mathlib.Core.Logic.{dite}
use mathlib.Core.Option.{none, some, some-injective, some-ne-none}
use native.Mathlib.Decide.{ℕ_discrete}
use lib.ListN.{get_elem?}
use prog.Atomic.{either}
use Rattle.std.specs.List.{sum_by}
use Rattle.std.proofs.lemmas.List.Sums.{sum_by-cons, sum_by_push}
use Rattle.atomic_table.specs.Table.{State, Me, step, keeps, stepped, opening, Allows, Enters}
use Rattle.atomic_table.proofs.Lists.{at_set, at_snoc}
use Rattle.result_cells.specs.declared.view.View.{View}
use Rattle.result_cells.specs.Views.{seen_view, takes, empties, misses}
use Rattle.result_cells.specs.Plays.{IsTry, looked, tried, emptied}
use Rattle.result_cells.specs.Rule.{left_of, IsRuled}

abbrev St : Type 0
St = State (Unit {0}) View

abbrev M : Type 0
M = Me (Unit {0}) View

-- a sum over all views, where one of them changes
sum_set : (f : View → ℕ) (views : List View) (i : ℕ) (v w : View) → get_elem? views i ≡ some v → sum_by f (set views i w) + f v ≡ sum_by f views + f w
sum_set f [] i v w e = absurd (some-ne-none v (sym e))
sum_set f (u ∷ us) zero v w e = let is : f u ≡ f v = ap f (some-injective u v e) in omega (arith, sum_by-cons f w us, sum_by-cons f u us)
sum_set f (u ∷ us) (suc i) v w e = omega (arith, sum_set f us i v w e, sum_by-cons f u (set us i w), sum_by-cons f u us)

module _ (most : ℕ) where
  abbrev Rule : St → Type 0
  Rule = IsRuled most

  -- the first view alone
  pub begins : Rule (opening (most ∷ []) [] (seen_view most))
  begins = record { wide = refl; whole = omega (arith, sum_by-cons (λ (u : View). u.taken) (seen_view most) []); seen = seen }
    where
      seen : (j : ℕ) (v : View) → get_elem? (seen_view most ∷ []) j ≡ some v → most ≤ v.seen
      seen zero v e = let is : most ≡ v.seen = ap (λ (x : View). x.seen) (some-injective (seen_view most) v e) in omega arith
      seen (suc j) v e = absurd (some-ne-none v (sym e))

  -- the word falls to `left`, and as many words as it falls by are taken
  word_step : (s : St) (r : Rule s) (id : ℕ) (v w : View) (left : ℕ) → get_elem? s.views id ≡ some v → left + w.taken ≡ left_of s.words + v.taken → left ≤ left_of s.words → left ≤ w.seen
      → Rule record { words = set s.words 0 left; homes = s.homes; views = set s.views id w }
  word_step s r id v w left at sum down here =
      let wide = r.wide in
      let whole = r.whole in
      let now : left_of (set s.words 0 left) ≡ left = get_or-set_same s.words 0 left 0 (omega arith) in
      let all = sum_set (λ (u : View). u.taken) s.views id v w at in record {
        wide = length-set s.words 0 left ∙ r.wide;
        whole = omega arith;
        seen = λ j u at'. ⊎_elim
            (λ (t : (j ≡ id) × (w ≡ u)). let e : w.seen ≡ u.seen = ap (λ (x : View). x.seen) t.1 in omega arith)
            (λ (t : (j ≢ id) × (get_elem? s.views j ≡ some u)). let old = r.seen j u t.1 in omega arith) (at_set s.views id j w u at');
      }

  pub looks_kept : (slots : ℕ) (v : View) → Enters Rule slots 0 (λ n w. looked (step slots 0 0 0 none) (v, []) n (w, []))
  looks_kept slots v s r _ _ =
      let whole = r.whole in
      let w : View = seen_view (left_of s.words) in
      let more : sum_by (λ (u : View). u.taken) (s.views ++ w ∷ []) ≡ sum_by (λ (u : View). u.taken) s.views + 0 = sum_by_push (λ (u : View). u.taken) s.views w in (
        w,
        record {
          wide = r.wide;
          whole = omega arith;
          seen = λ j u at. ⊎_elim (λ (t : get_elem? s.views j ≡ some u). r.seen j u t)
              (λ (t : w ≡ u). let e : left_of s.words ≡ u.seen = ap (λ (x : View). x.seen) t in omega arith) (at_snoc s.views w u j at);
        },
        refl,
      )

  pub tries_kept : (slots id : ℕ) (m : M) (old left : ℕ) → left ≤ old → Allows Rule slots id m 0 (λ n. either (eqb n old) left n) (tried (step slots 0 old left none) m)
  tries_kept slots id m old left less s r _ at _ = let v : View = m.0 in let n : ℕ = left_of s.words in let seen = r.seen id v at in dite (ℕ_discrete n old)
      (λ hit. let w : View = takes v (old - left) left in (
        w,
        keeps,
        tt,
        subst (λ x. Rule (stepped s 0 (either x left n) id m.1 w keeps)) (sym (eq-eqb n old hit)) (word_step s r id v w left at (omega arith) (omega arith) (omega arith)),
        (refl, record { hit = λ _. refl; miss = λ ne. absurd (ne hit); fresh = seen }),
      ))
      (λ miss. let w : View = misses v n in (
        w,
        keeps,
        tt,
        subst (λ x. Rule (stepped s 0 (either x left n) id m.1 w keeps)) (sym (ne_eqb n old miss)) (word_step s r id v w n at refl (omega arith) (omega arith)),
        (refl, record { hit = λ e. absurd (miss e); miss = λ _. refl; fresh = seen }),
      ))

  pub empties_kept : (slots id : ℕ) (m : M) → Allows Rule slots id m 0 (λ _. 0) (emptied (step slots 0 0 0 none) m)
  empties_kept slots id m s r _ at _ = let v : View = m.0 in let n : ℕ = left_of s.words in let seen = r.seen id v at in let w : View = empties v n in (
    w,
    keeps,
    tt,
    word_step s r id v w 0 at (omega arith) (omega arith) (omega arith),
    (refl, seen),
  )

-- a seat that took nothing so far tried to take
module _ (m n : M) (old left found : ℕ) (is : m ≡ (seen_view old, [])) (try : (n.1 ≡ m.1) × IsTry m.0 old left found n.0) where
  pub missed : found ≢ old → n ≡ (seen_view found, [])
  missed ne =
      let view : n.0 ≡ seen_view found = try.1.miss ne ∙ ap (λ (x : M). misses x.0 found) is in
      let slots : n.1 ≡ [] = try.0 ∙ ap (λ (x : M). x.1) is in λ i. (view i, slots i)

  pub lowered : found ≢ old → found < old
  lowered ne = let fresh = try.1.fresh in let seen : m.0.seen ≡ old = ap (λ (x : M). x.0.seen) is in omega arith

  pub granted : (words : ℕ) → words ≤ old → left ≡ old - words → found ≡ old → n.0.taken ≡ words
  granted words few e hit =
      let taken : n.0.taken ≡ m.0.taken + (old - left) = ap (λ (v : View). v.taken) (try.1.hit hit) in
      let none : m.0.taken ≡ 0 = ap (λ (x : M). x.0.taken) is in omega arith

-- a seat that has seen fewer words left than are wanted found no more when it took them
pub short_of : (m n : M) (found left words : ℕ) → m ≡ (seen_view left, []) → (n ≡ (empties m.0 found, m.1)) × (found ≤ m.0.seen) → left < words → (n.0.seen ≡ 0) × (n.0.taken < words)
short_of m n found left words is emptied few =
    let seen : m.0.seen ≡ left = ap (λ (x : M). x.0.seen) is in
    let none : m.0.taken ≡ 0 = ap (λ (x : M). x.0.taken) is in
    let taken : n.0.taken ≡ m.0.taken + found = ap (λ (x : M). x.0.taken) emptied.0 in
    let low = emptied.1 in (ap (λ (x : M). x.0.seen) emptied.0, omega arith)
