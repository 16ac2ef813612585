-- The instruction words of results, the last one apart.
use Rattle.std.proofs.Common.{◌≡◌, ℕ, zero, suc, ◌+◌, List, [], ◌∷◌, ◌++◌, map, take, length, refl, sym, ap, subst, ◌∙◌, append_assoc, arith}
use Rattle.std.proofs.lemmas.List.{map-append}
use Rattle.rv_isa.specs.declared.operations.Op.{Op}
use Rattle.rv_isa.specs.Words.{word_of}
use Rattle.frame_layout.specs.declared.layout.Layout.{Layout}
use Rattle.frame_layout.specs.Slots.{operand}
use Rattle.frame_layout.specs.Macros.{t0, load_slot, store_slot}
use Rattle.frame_layout.specs.Templates.{result_words}

abbrev pub moved_words : Layout → ℕ → List Op
moved_words l index = load_slot t0 (operand l index) ++ store_slot t0 index

results_from : (l : Layout) (n index : ℕ) → result_words l (suc n) index ≡ result_words l n index ++ moved_words l (index + n)
results_from l zero index = let e : index ≡ index + 0 = omega arith in ap (moved_words l) e
results_from l (suc n) index =
    let e : index + 1 + n ≡ index + suc n = omega arith in
    ap (λ (more : List Op). moved_words l index ++ more) (results_from l n (index + 1))
    ∙ sym (append_assoc (moved_words l index) (result_words l n (index + 1)) (moved_words l (index + 1 + n)))
    ∙ ap (λ (i : ℕ). result_words l (suc n) index ++ moved_words l i) e

pub one_more : (buffer : List ℕ) (l : Layout) (n : ℕ) → (buffer ++ map word_of (result_words l n 0)) ++ map word_of (moved_words l n) ≡ buffer ++ map word_of (result_words l (n + 1) 0)
one_more buffer l n =
    let at : 0 + n ≡ n = omega arith in
    let more : suc n ≡ n + 1 = omega arith in
    let all : result_words l (n + 1) 0 ≡ result_words l n 0 ++ moved_words l n = subst (λ (k : ℕ). result_words l k 0 ≡ result_words l n 0 ++ moved_words l n) more (subst (λ (k : ℕ). result_words l (suc n) 0 ≡ result_words l n 0 ++ moved_words l k) at (results_from l n 0)) in
    append_assoc buffer (map word_of (result_words l n 0)) (map word_of (moved_words l n))
    ∙ ap (λ (ws : List ℕ). buffer ++ ws) (sym (map-append word_of (result_words l n 0) (moved_words l n)) ∙ ap (map word_of) (sym all))

pub front_stays : (buffer more : List ℕ) → take (length buffer) (buffer ++ more) ≡ buffer
front_stays [] more = refl
front_stays (x ∷ buffer) more = ap (λ (ws : List ℕ). x ∷ ws) (front_stays buffer more)
