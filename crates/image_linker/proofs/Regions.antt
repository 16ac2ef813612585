-- Instruction words in the bytes of a region, one after the other.
use Rattle.std.proofs.Common.{◌≡◌, ℕ, zero, suc, ◌+◌, ◌*◌, ◌^◌, ◌<◌, List, [], ◌∷◌, ◌++◌, length, take, Some, refl, sym, ap, ◌∙◌, arith, append_assoc, length-append}
use Rattle.std.specs.Prelude.{slice_get}
use Rattle.std.proofs.lemmas.List.{drop_at, take_at}
use Rattle.rv_isa.specs.Steps.{le_value, le_bytes}
use Rattle.rv_isa.proofs.ByteLaws.{length-le_bytes, le_value-le_bytes}
use Rattle.image_format.specs.declared.image.Row.{Row}
use Rattle.image_format.specs.Environment.{word_bytes, word_at, words_at, row_words}

-- numbers of 64 bits
abbrev pub AreWords : List ℕ → Type 0
AreWords [] = Unit {0}
AreWords (w ∷ ws) = (w < 2 ^ 64) × AreWords ws

-- a word after others
word_behind : (front : List ℕ) (from w : ℕ) (back : List ℕ) → length front ≡ 8 * from → w < 2 ^ 64 → word_at (front ++ (le_bytes 8 w ++ back)) from ≡ w
word_behind front from w back len small =
    ap (λ (l : List ℕ). le_value (take 8 l)) (drop_at front (le_bytes 8 w ++ back) (8 * from) len)
    ∙ ap le_value (take_at (le_bytes 8 w) back 8 (length-le_bytes 8 w))
    ∙ le_value-le_bytes 8 w small

-- words after others, with more words after them
words_behind : (front : List ℕ) (from : ℕ) (ws more : List ℕ) → length front ≡ 8 * from → AreWords ws → words_at (front ++ word_bytes (ws ++ more)) from (length ws) ≡ ws
words_behind front from [] more len small = refl
words_behind front from (w ∷ ws) more len small =
    let next = front ++ le_bytes 8 w in
    let later = word_bytes (ws ++ more) in
    let longer : length next ≡ 8 * (from + 1) = length-append front (le_bytes 8 w) ∙ omega (arith, len, length-le_bytes 8 w) in
    let same : front ++ (le_bytes 8 w ++ later) ≡ next ++ later = sym (append_assoc front (le_bytes 8 w) later) in
    ap (λ (n : ℕ). n ∷ words_at (front ++ (le_bytes 8 w ++ later)) (from + 1) (length ws)) (word_behind front from w later len small.0)
    ∙ ap (λ (l : List ℕ). w ∷ words_at l (from + 1) (length ws)) same
    ∙ ap (λ (l : List ℕ). w ∷ l) (words_behind next (from + 1) ws more longer small.1)

-- the first words of a region are read back
pub first_words_are_read : (ws more : List ℕ) → AreWords ws → words_at (word_bytes (ws ++ more)) 0 (length ws) ≡ ws
first_words_are_read ws more small = words_behind [] 0 ws more (omega arith) small

word_among : (front : List ℕ) (from : ℕ) (ws : List ℕ) (i w : ℕ) → length front ≡ 8 * from → AreWords ws → slice_get ws i ≡ Some w → word_at (front ++ word_bytes ws) (from + i) ≡ w
word_among front from [] i w len small is = absurd cc
word_among front from (x ∷ ws) zero w len small is =
    let same : x ≡ w = cc in
    let at : from + 0 ≡ from = omega arith in
    ap (word_at (front ++ (le_bytes 8 x ++ word_bytes ws))) at ∙ word_behind front from x (word_bytes ws) len small.0 ∙ same
word_among front from (x ∷ ws) (suc i) w len small is =
    let next = front ++ le_bytes 8 x in
    let longer : length next ≡ 8 * (from + 1) = length-append front (le_bytes 8 x) ∙ omega (arith, len, length-le_bytes 8 x) in
    let same : front ++ (le_bytes 8 x ++ word_bytes ws) ≡ next ++ word_bytes ws = sym (append_assoc front (le_bytes 8 x) (word_bytes ws)) in
    let at : from + suc i ≡ from + 1 + i = omega arith in
    ap (λ (l : List ℕ). word_at l (from + suc i)) same ∙ ap (word_at (next ++ word_bytes ws)) at ∙ word_among next (from + 1) ws i w longer small.1 is

-- the word of an index
pub word_is_read : (ws : List ℕ) (i w : ℕ) → AreWords ws → slice_get ws i ≡ Some w → word_at (word_bytes ws) i ≡ w
word_is_read ws i w small is = let at : i ≡ 0 + i = omega arith in ap (word_at (word_bytes ws)) at ∙ word_among [] 0 ws i w (omega arith) small is

-- the words of a row
pub row_words_at : (rows : List Row) (a : ℕ) (r : Row) → slice_get rows a ≡ Some r → (slice_get (row_words rows) (2 * a) ≡ Some r.code) × (slice_get (row_words rows) (2 * a + 1) ≡ Some r.like)
row_words_at [] a r is = absurd cc
row_words_at (x ∷ rows) zero r is = let same : x ≡ r = cc in (ap (λ (y : Row). Some y.code) same, ap (λ (y : Row). Some y.like) same)
row_words_at (x ∷ rows) (suc a) r is =
    let h = row_words_at rows a r is in
    let first : 2 * suc a ≡ suc (suc (2 * a)) = omega arith in
    let second : 2 * suc a + 1 ≡ suc (suc (2 * a + 1)) = omega arith in
    (ap (slice_get (x.code ∷ x.like ∷ row_words rows)) first ∙ h.0, ap (slice_get (x.code ∷ x.like ∷ row_words rows)) second ∙ h.1)
