-- Codes that were gone over so far, and one more.
use Rattle.std.proofs.Common.{◌≡◌, ℕ, ◌+◌, ◌<◌, ◌≤◌, List, take, length, ap, arith, length-append}
use Rattle.std.specs.Prelude.{slice_index_or}
use Rattle.std.proofs.lemmas.List.{get_or_default}
use Rattle.rv_isa.specs.declared.compiled.Code.{Code}
use Rattle.code_list.specs.CodeLists.{code_at, no_code}
use Rattle.image_linker.specs.Linking.{words_of}
use Rattle.image_linker.proofs.Loops.{words_taken, words_within}

-- each is at its index
pub is_at : (codes : List Code) (i : ℕ) → i < length codes → code_at codes i ≡ slice_index_or codes i (code_at codes i)
is_at codes i lt = get_or_default codes i no_code (code_at codes i) lt

-- a loop over codes at one of so many words: they follow the words before it, and all these are no more than all words
pub record WordsAt (codes : List Code) (i count : ℕ) : Type 0 where
  pub next : length (words_of (take (i + 1) codes)) ≡ length (words_of (take i codes)) + count
  pub within : length (words_of (take (i + 1) codes)) ≤ length (words_of codes)

pub words_at : (codes : List Code) (i count : ℕ) → i < length codes → count ≡ length (code_at codes i).words → WordsAt codes i count
words_at codes i count lt are = record {
  next = omega (arith, ap length (words_taken codes i (code_at codes i) lt (is_at codes i lt)), length-append (words_of (take i codes)) (code_at codes i).words, are);
  within = words_within codes (i + 1);
}
