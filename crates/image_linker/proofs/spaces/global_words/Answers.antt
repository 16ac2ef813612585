use Rattle.std.proofs.Common.{◌≡◌, ap, ◌∙◌, ℤ, ℕ, List, zero, suc, [], ◌∷◌, ◌≤◌, length, refl, map, take, arith}
use Rattle.std.specs.Int.{w64, cast_unsigned}
use Rattle.image_linker.proofs.Items.{numbers_are_words}
use Rattle.image_linker.proofs.spaces.global_words.Goals as goal

all_taken : (numbers : List ℤ) (i : ℕ) → length numbers ≤ i → take i numbers ≡ numbers
all_taken [] zero le = refl
all_taken [] (suc i) le = refl
all_taken (n ∷ numbers) zero le = absurd (omega (arith, le))
all_taken (n ∷ numbers) (suc i) le = ap (λ (l : List ℤ). n ∷ l) (all_taken numbers i (omega (arith, le)))

pub returns : goal.returns
returns c =
    let numbers = c.initials-numbers.result.now in
    let spaces = c.args.context.now in
    c.loop-number.invariant
    ∙ ap (λ (l : List ℤ). map (cast_unsigned w64) l) (all_taken numbers c.loop-number.number-index (omega (arith, c.loop-number-test.false)) ∙ c.initials-numbers.ensures)
    ∙ numbers_are_words spaces.globals spaces.initials c.requires
