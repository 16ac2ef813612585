-- Calls that are led to their functions.
use Rattle.std.proofs.Common.{◌≡◌, ◌≤◌, ◌<◌, ℕ, zero, suc, ◌+◌, List, [], ◌∷◌, ◌++◌, take, drop, length, refl, sym, ap, ◌∙◌, arith, append_assoc, length-append}
use Rattle.std.specs.Prelude.{slice_set, slice_index_or}
use Rattle.std.specs.List.{between}
use Rattle.std.proofs.lemmas.List.{append-nil, length-set}
use Rattle.rv_isa.specs.Words.{word_of}
use Rattle.rv_isa.specs.Runs.{hi, lo}
use Rattle.rv_isa.specs.declared.operations.Op.TheVariants.{Auipc, Jalr}
use Rattle.rv_isa.specs.declared.compiled.Relocation.{Relocation}
use Rattle.rv_isa.specs.declared.compiled.Code.{Code}
use Rattle.frame_layout.specs.Macros.{ra}
use Rattle.frame_layout.specs.Functions.{with_distance, with_distances}
use Rattle.image_linker.specs.ImageOf.{distances}
use Rattle.image_linker.specs.Linking.{changed, words_of, words_at, words_from}
use Rattle.image_linker.proofs.Changes.{changed_twice, changed_length}

-- ---- one call

-- two words are replaced, one after the other
pub lead_words : (begin end : ℕ) (text middle new : List ℕ) (distance place upper lower : ℕ) → begin ≤ end → end ≤ length text
    → upper ≡ word_of (Auipc ra (hi distance)) → lower ≡ word_of (Jalr ra ra (lo distance))
    → middle ≡ changed begin end (λ code. slice_set code place upper) text → new ≡ changed begin end (λ code. slice_set code (place + 1) lower) middle
    → new ≡ changed begin end (with_distance distance place) text
lead_words begin end text middle new distance place upper lower rises within is_upper is_lower one two =
    two
    ∙ ap (changed begin end (λ code. slice_set code (place + 1) lower)) one
    ∙ changed_twice begin end text rises within (λ code. slice_set code place upper) (length-set (between begin end text) place upper) (λ code. slice_set code (place + 1) lower)
    ∙ ap (λ (word : ℕ). changed begin end (λ code. slice_set (slice_set code place word) (place + 1) lower) text) is_upper
    ∙ ap (λ (word : ℕ). changed begin end (λ code. slice_set (slice_set code place (word_of (Auipc ra (hi distance)))) (place + 1) word) text) is_lower

-- ---- the calls of a code

-- the one of an index, if there is one
abbrev call_at : List Relocation → ℕ → Relocation
call_at rs i = slice_index_or rs i (record { place = 0; function = 0 })

abbrev led : (ℕ → ℕ → ℕ) → Relocation → List ℕ → List ℕ
led d r words = with_distance (d r.place r.function) r.place words

lead_suc : (d : ℕ → ℕ → ℕ) (rs : List Relocation) (i : ℕ) (words : List ℕ) → i < length rs → with_distances d (take (suc i) rs) words ≡ led d (call_at rs i) (with_distances d (take i rs) words)
lead_suc d [] i words lt = absurd (omega arith)
lead_suc d (x ∷ rs) zero words lt = refl
lead_suc d (x ∷ rs) (suc i) words lt = lead_suc d rs i (led d x words) (omega arith)

pub length-lead : (d : ℕ → ℕ → ℕ) (rs : List Relocation) (words : List ℕ) → length (with_distances d rs words) ≡ length words
length-lead d [] words = refl
length-lead d (r ∷ rs) words = length-lead d rs (with_distance (d r.place r.function) r.place words) ∙ length-set _ _ _ ∙ length-set _ _ _

-- in a text that has the code from one index up to another
pub lead_taken : (begin end : ℕ) (text old new : List ℕ) (d : ℕ → ℕ → ℕ) (rs : List Relocation) (i : ℕ) → begin ≤ end → end ≤ length text → i < length rs
    → new ≡ changed begin end (λ code. with_distance (d (slice_index_or rs i (record { place = 0; function = 0 })).place (slice_index_or rs i (record { place = 0; function = 0 })).function) (slice_index_or rs i (record { place = 0; function = 0 })).place code) old
    → old ≡ changed begin end (with_distances d (take i rs)) text → new ≡ changed begin end (with_distances d (take (i + 1) rs)) text
lead_taken begin end text old new d rs i rises within lt is before =
    let k : suc i ≡ i + 1 = omega arith in
    is
    ∙ ap (changed begin end (led d (call_at rs i))) before
    ∙ changed_twice begin end text rises within (with_distances d (take i rs)) (length-lead d (take i rs) (between begin end text)) (led d (call_at rs i))
    ∙ ap (λ (l : List ℕ). take begin text ++ (l ++ drop end text)) (sym (lead_suc d rs i (between begin end text) lt))
    ∙ ap (λ (n : ℕ). changed begin end (with_distances d (take n rs)) text) k

-- the text has as many words
pub length-led : (begin end : ℕ) (text : List ℕ) (d : ℕ → ℕ → ℕ) (rs : List Relocation) → begin ≤ end → end ≤ length text → length (changed begin end (with_distances d rs) text) ≡ length text
length-led begin end text d rs rises within = changed_length begin end text rises within (with_distances d rs) (length-lead d rs (between begin end text))

-- ---- all codes

-- there are as many words
pub length-words : (places : List ℕ) (here : ℕ) (codes : List Code) → length (words_from places here codes) ≡ length (words_of codes)
length-words places here [] = refl
length-words places here (c ∷ cs) =
    length-append (words_at places here c) (words_from places (here + length c.words) cs)
    ∙ omega (arith, length-lead (distances places here) c.relocations c.words, length-words places (here + length c.words) cs, length-append c.words (words_of cs))

words_suc : (places : List ℕ) (here : ℕ) (codes : List Code) (i : ℕ) (c : Code) → i < length codes → c ≡ slice_index_or codes i c
    → words_from places here (take (suc i) codes) ≡ words_from places here (take i codes) ++ words_at places (here + length (words_of (take i codes))) c
words_suc places here [] i c lt e = absurd (omega arith)
words_suc places here (x ∷ xs) zero c lt e =
    let k : here + 0 ≡ here = omega arith in
    append-nil (words_at places here x) ∙ ap (λ (y : Code). words_at places here y) (sym e) ∙ ap (λ (n : ℕ). words_at places n c) (sym k)
words_suc places here (x ∷ xs) (suc i) c lt e =
    let k : here + length x.words + length (words_of (take i xs)) ≡ here + length (x.words ++ words_of (take i xs)) = omega (arith, length-append x.words (words_of (take i xs))) in
    ap (λ (l : List ℕ). words_at places here x ++ l) (words_suc places (here + length x.words) xs i c (omega arith) e ∙ ap (λ (n : ℕ). words_from places (here + length x.words) (take i xs) ++ words_at places n c) k)
    ∙ sym (append_assoc (words_at places here x) (words_from places (here + length x.words) (take i xs)) (words_at places (here + length (x.words ++ words_of (take i xs))) c))
