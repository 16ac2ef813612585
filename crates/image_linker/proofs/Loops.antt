-- Codes that were gone over so far, and one more.
use Rattle.std.proofs.Common.{◌≡◌, ℕ, zero, suc, ◌+◌, ◌≤◌, ◌<◌, List, [], ◌∷◌, ◌++◌, take, length, refl, sym, ap, ◌∙◌, arith, append_assoc, length-append}
use Rattle.std.proofs.lemmas.List.{append-nil}
use Rattle.std.specs.Prelude.{slice_index, slice_index_or}
use Rattle.rv_isa.specs.declared.compiled.Code.{Code}
use Rattle.image_linker.specs.Linking.{words_of, starts_from}

words_of-append : (xs ys : List Code) → words_of (xs ++ ys) ≡ words_of xs ++ words_of ys
words_of-append [] ys = refl
words_of-append (x ∷ xs) ys = ap (λ (l : List ℕ). x.words ++ l) (words_of-append xs ys) ∙ sym (append_assoc x.words (words_of xs) (words_of ys))

words_suc : (codes : List Code) (i : ℕ) (c : Code) → i < length codes → c ≡ slice_index_or codes i c → words_of (take (suc i) codes) ≡ words_of (take i codes) ++ c.words
words_suc [] i c lt e = absurd (omega arith)
words_suc (x ∷ xs) zero c lt e = rw (sym e) (append-nil c.words)
words_suc (x ∷ xs) (suc i) c lt e =
    ap (λ (l : List ℕ). x.words ++ l) (words_suc xs i c (omega arith) e) ∙ sym (append_assoc x.words (words_of (take i xs)) c.words)

starts_suc : (here : ℕ) (codes : List Code) (i : ℕ) → i < length codes
    → starts_from here (take (suc i) codes) ≡ starts_from here (take i codes) ++ (here + length (words_of (take i codes))) ∷ []
starts_suc here [] i lt = absurd (omega arith)
starts_suc here (x ∷ xs) zero lt = let same : here + 0 ≡ here = omega arith in ap (λ (n : ℕ). n ∷ []) (sym same)
starts_suc here (x ∷ xs) (suc i) lt =
    let same : here + length x.words + length (words_of (take i xs)) ≡ here + length (x.words ++ words_of (take i xs)) = omega (arith, length-append x.words (words_of (take i xs))) in
    ap (λ (l : List ℕ). here ∷ l) (starts_suc (here + length x.words) xs i (omega arith) ∙ ap (λ (n : ℕ). starts_from (here + length x.words) (take i xs) ++ n ∷ []) same)

pub words_taken : (codes : List Code) (i : ℕ) (c : Code) → i < length codes → c ≡ slice_index_or codes i c → words_of (take (i + 1) codes) ≡ words_of (take i codes) ++ c.words
words_taken codes i c lt e = let k : i + 1 ≡ suc i = omega arith in rw k (words_suc codes i c lt e)

pub starts_taken : (here : ℕ) (codes : List Code) (i : ℕ) → i < length codes
    → starts_from here (take (i + 1) codes) ≡ starts_from here (take i codes) ++ (here + length (words_of (take i codes))) ∷ []
starts_taken here codes i lt = let k : i + 1 ≡ suc i = omega arith in rw k (starts_suc here codes i lt)

-- the words that were gone over are no more than all
pub words_within : (codes : List Code) (i : ℕ) → length (words_of (take i codes)) ≤ length (words_of codes)
words_within [] zero = omega arith
words_within [] (suc i) = omega arith
words_within (x ∷ xs) zero = omega arith
words_within (x ∷ xs) (suc i) = omega (arith, words_within xs i, length-append x.words (words_of (take i xs)), length-append x.words (words_of xs))

-- each start is before the text's end
pub starts_within : (here most : ℕ) (codes : List Code) (i : ℕ) → here + length (words_of codes) ≤ most → slice_index (starts_from here codes) i ≤ most
starts_within here most [] i le = omega arith
starts_within here most (x ∷ xs) zero le = omega arith
starts_within here most (x ∷ xs) (suc i) le = starts_within (here + length x.words) most xs i (omega (arith, le, length-append x.words (words_of xs)))
