-- Runs of instruction words that are put together.
use Rattle.std.proofs.Common.{◌≡◌, ℕ, zero, suc, ◌+◌, ◌-◌, List, ◌++◌, map, refl, sym, ap, ◌∙◌, arith, append_assoc}
use Rattle.std.proofs.lemmas.List.{map-append}
use Rattle.rv_isa.specs.declared.operations.Op.{Op}
use Rattle.rv_isa.specs.Words.{word_of}
use Rattle.frame_layout.specs.Macros.{t0}
use Rattle.frame_layout.specs.Templates.{EmitContext, load_operand, store_operand, move_words, scale_words, table_front}
use Rattle.control_emit.specs.Choices.{count_words, choice_words}

-- words of operations after those of others
pub appended : (x y z : List ℕ) (f g : List Op) → y ≡ x ++ map word_of f → z ≡ y ++ map word_of g → z ≡ x ++ map word_of (f ++ g)
appended x y z f g first later =
    later ∙ ap (λ (l : List ℕ). l ++ map word_of g) first ∙ append_assoc x (map word_of f) (map word_of g) ∙ ap (λ (l : List ℕ). x ++ l) (sym (map-append word_of f g))

abbrev pub one_move : EmitContext → (from to : ℕ) → List Op
one_move w from to = load_operand w t0 from ++ store_operand w t0 to

-- one move more
pub moves-more : (w : EmitContext) (n j base : ℕ) → move_words w (n + 1) j base ≡ move_words w n j base ++ one_move w (j + n) (base + n)
moves-more w zero j base = let e : j + 0 ≡ j = omega arith in let f : base + 0 ≡ base = omega arith in ap (λ (m : ℕ). one_move w m base) (sym e) ∙ ap (λ (m : ℕ). one_move w (j + 0) m) (sym f)
moves-more w (suc n) j base =
    let e : j + 1 + n ≡ j + suc n = omega arith in
    let f : base + 1 + n ≡ base + suc n = omega arith in
    let first = one_move w j base in
    let rest = move_words w n (j + 1) (base + 1) in
    let m : suc n + 1 ≡ suc (n + 1) = omega arith in
    ap (λ (k : ℕ). move_words w k j base) m
    ∙ ap (λ (l : List Op). first ++ l) (moves-more w n (j + 1) (base + 1))
    ∙ sym (append_assoc first rest (one_move w (j + 1 + n) (base + 1 + n)))
    ∙ ap (λ (m : ℕ). (first ++ rest) ++ one_move w m (base + 1 + n)) e
    ∙ ap (λ (m : ℕ). (first ++ rest) ++ one_move w (j + suc n) m) f

pub front-is : (w : EmitContext) (h count takes : ℕ) → load_operand w t0 (h - 1) ++ (count_words count ++ (scale_words w takes ++ choice_words)) ≡ table_front w h count takes
front-is w h count takes = refl
