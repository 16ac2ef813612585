-- Jumps that are taken back.
use Rattle.std.proofs.Common.{◌≡◌, ◌<◌, ℕ, zero, suc, ◌+◌, List, [], ◌∷◌, ◌++◌, length, take, get_or, Option, None, Some, refl, ap, ◌∙◌, arith}
use Rattle.std.proofs.lemmas.List.{take_more}
use Rattle.control_emit.specs.Pending.{Pending, Shape, shapes, AreBelow, jumping, fewer, unjumped, all_unjumped}

-- a jump that was noted
pub unjumps : (n k : ℕ) (ls : List Pending) (d s : Shape) → get_or (shapes ls) k d ≡ s → s.start ≡ None → k < length ls → unjumped k (jumping n k ls) ≡ ls
unjumps n k [] d s is none lt = refl
unjumps n zero (l ∷ ls) d s is none lt = ap (λ (o : Option ℕ). record l { jumps = fewer o (n ∷ l.jumps) } ∷ ls) (ap (λ (x : Shape). x.start) is ∙ none)
unjumps n (suc k) (l ∷ ls) d s is none lt = ap (λ (x : List Pending). l ∷ x) (unjumps n k ls d s is none (omega arith))

-- a label whose index is known
pub unjumped-none : (n k : ℕ) (ls : List Pending) (d s : Shape) → get_or (shapes ls) k d ≡ s → s.start ≡ Some n → k < length ls → unjumped k ls ≡ ls
unjumped-none n k [] d s is some lt = refl
unjumped-none n zero (l ∷ ls) d s is some lt = ap (λ (o : Option ℕ). record l { jumps = fewer o l.jumps } ∷ ls) (ap (λ (x : Shape). x.start) is ∙ some)
unjumped-none n (suc k) (l ∷ ls) d s is some lt = ap (λ (x : List Pending). l ∷ x) (unjumped-none n k ls d s is some (omega arith))

pub length-unjumped : (k : ℕ) (ls : List Pending) → length (unjumped k ls) ≡ length ls
length-unjumped k [] = refl
length-unjumped zero (l ∷ ls) = refl
length-unjumped (suc k) (l ∷ ls) = ap suc (length-unjumped k ls)

-- ---- several, in whatever order

either-first : (j k : ℕ) (ls : List Pending) → unjumped j (unjumped k ls) ≡ unjumped k (unjumped j ls)
either-first j k [] = refl
either-first zero zero (l ∷ ls) = refl
either-first zero (suc k) (l ∷ ls) = refl
either-first (suc j) zero (l ∷ ls) = refl
either-first (suc j) (suc k) (l ∷ ls) = ap (λ (x : List Pending). l ∷ x) (either-first j k ls)

last-too : (is : List ℕ) (k : ℕ) (ls : List Pending) → all_unjumped (is ++ k ∷ []) ls ≡ all_unjumped is (unjumped k ls)
last-too [] k ls = refl
last-too (i ∷ is) k ls = last-too is k (unjumped i ls) ∙ ap (all_unjumped is) (either-first k i ls)

-- a jump more is noted
pub unjumped-more : (is : List ℕ) (i : ℕ) (old mid new : List Pending) → i < length is → all_unjumped (take i is) mid ≡ old → unjumped (get_or is i 0) new ≡ mid → all_unjumped (take (i + 1) is) new ≡ old
unjumped-more is i old mid new lt first second =
    ap (λ (x : List ℕ). all_unjumped x new) (take_more is i 0 lt)
    ∙ last-too (take i is) (get_or is i 0) new
    ∙ ap (all_unjumped (take i is)) second
    ∙ first

pub below-front : (n i : ℕ) (is : List ℕ) → AreBelow n is → AreBelow n (take i is)
below-front n zero is h = tt
below-front n (suc i) [] h = tt
below-front n (suc i) (k ∷ is) h = (h.0, below-front n i is h.1)
