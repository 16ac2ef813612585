-- Instruction words that are written one after the other, as the arguments of a function that is called from
-- outside are.
use Rattle.std.proofs.Common.{◌≡◌, ℕ, zero, suc, ◌+◌, ◌*◌, ◌^◌, ◌<◌, ◌≤◌, List, [], ◌∷◌, length, Some, refl, ap, ◌∙◌, arith}
use Rattle.std.specs.Prelude.{slice_get, option_map}
use Rattle.std.proofs.lemmas.List.{length-map}
use Rattle.std.proofs.lemmas.Option.{slice_get-map}
use Rattle.rv_isa.specs.Steps.{le_bytes, put}
use Rattle.rv_isa.proofs.ByteLaws.{written_is_read, below_stays, length-put, length-le_bytes}
use Rattle.wasm_defs.specs.Limits.{max_params}
use Rattle.wasm_defs.specs.Values.{Value, word_of, words_of}
use Rattle.image_format.specs.Environment.{stack_size, word_at, with_words}

with_words_length : (ws : List ℕ) (bytes : List ℕ) (from : ℕ) → 8 * (from + length ws) ≤ length bytes → length (with_words bytes from ws) ≡ length bytes
with_words_length [] bytes from inside = refl
with_words_length (w ∷ ws) bytes from inside =
    let one = length-put 8 (8 * from) bytes (le_bytes 8 w) (omega arith) (length-le_bytes 8 w) in
    with_words_length ws (put 8 (8 * from) bytes (le_bytes 8 w)) (from + 1) (omega (arith, one)) ∙ one

with_words_below : (ws : List ℕ) (bytes : List ℕ) (from k : ℕ) → 8 * (from + length ws) ≤ length bytes → k < from → word_at (with_words bytes from ws) k ≡ word_at bytes k
with_words_below [] bytes from k inside less = refl
with_words_below (w ∷ ws) bytes from k inside less =
    let one = length-put 8 (8 * from) bytes (le_bytes 8 w) (omega arith) (length-le_bytes 8 w) in
    with_words_below ws (put 8 (8 * from) bytes (le_bytes 8 w)) (from + 1) k (omega (arith, one)) (omega arith)
    ∙ below_stays 8 (8 * from) w 8 (8 * k) bytes (omega arith) (omega arith)

with_words_at : (ws : List ℕ) (bytes : List ℕ) (from k w : ℕ) → 8 * (from + length ws) ≤ length bytes → slice_get ws k ≡ Some w → w < 2 ^ 64 → word_at (with_words bytes from ws) (from + k) ≡ w
with_words_at [] bytes from k w inside is small = absurd cc
with_words_at (x ∷ ws) bytes from zero w inside is small =
    let same : x ≡ w = cc in
    let new = put 8 (8 * from) bytes (le_bytes 8 x) in
    let one = length-put 8 (8 * from) bytes (le_bytes 8 x) (omega arith) (length-le_bytes 8 x) in
    let here : from + 0 ≡ from = omega arith in
    ap (λ (n : ℕ). word_at (with_words new (from + 1) ws) n) here
    ∙ with_words_below ws new (from + 1) from (omega (arith, one)) (omega arith)
    ∙ written_is_read 8 (8 * from) x bytes (omega arith) (omega arith) ∙ same
with_words_at (x ∷ ws) bytes from (suc k) w inside is small =
    let one = length-put 8 (8 * from) bytes (le_bytes 8 x) (omega arith) (length-le_bytes 8 x) in
    let there : from + suc k ≡ from + 1 + k = omega arith in
    ap (λ (n : ℕ). word_at (with_words (put 8 (8 * from) bytes (le_bytes 8 x)) (from + 1) ws) n) there
    ∙ with_words_at ws (put 8 (8 * from) bytes (le_bytes 8 x)) (from + 1) k w (omega (arith, one)) is small

-- the words of arguments in the first slots of a stack
module _ (stack : List ℕ) (size : length stack ≡ stack_size) (arguments : List Value) (few : length arguments ≤ max_params) (ranges : (k : ℕ) (v : Value) → slice_get arguments k ≡ Some v → word_of v < 2 ^ 64) where
  pub stack_is : length (with_words stack 0 (words_of arguments)) ≡ stack_size
  stack_is = with_words_length (words_of arguments) stack 0 (omega (arith, length-map arguments word_of)) ∙ size

  pub slots_are : (k : ℕ) (v : Value) → slice_get arguments k ≡ Some v → word_at (with_words stack 0 (words_of arguments)) k ≡ word_of v
  slots_are k v is =
      let here : k ≡ 0 + k = omega arith in
      let word : slice_get (words_of arguments) k ≡ Some (word_of v) = slice_get-map word_of arguments k ∙ ap (option_map word_of) is in
      ap (λ (n : ℕ). word_at (with_words stack 0 (words_of arguments)) n) here
      ∙ with_words_at (words_of arguments) stack 0 k (word_of v) (omega (arith, length-map arguments word_of)) word (ranges k v is)
