-- Instruction words that are stored as bytes.
use Rattle.std.proofs.Common.{◌≡◌, ◌∙◌, ◌<◌, ◌^◌, Bool, true, false, if◌then◌else◌, subst, slice_index_or, ℕ, zero, suc, List, [], ◌∷◌, ◌++◌, map, take, drop, length, replicate, Result, Ok, Err, is_ok, refl, sym, ap, arith}
use Rattle.std.specs.Prelude.{slice_set, OnOk}
use Rattle.std.specs.declared.alloc.AllocError.{AllocError}
use Rattle.std.specs.Int.{w32, to_le_bytes, from_le_bytes}
use Rattle.std.specs.List.{All, flat_map}
use Rattle.std.proofs.lemmas.List.{drop-map, map-append, length-map}
use Rattle.std.proofs.lemmas.Nat.{from_le_bytes-to_le_bytes_4}
use Rattle.rv_isa.specs.Stored.{words_in, AreStored}

abbrev bytes : ℕ → List ℕ
bytes word = to_le_bytes w32 word

abbrev read : List ℕ → ℕ
read stored = from_le_bytes w32 stored

abbrev Fit : List ℕ → Type 0
Fit words = All (λ word. word < 2 ^ 32) words

-- what stands in a list doesn't hang on what is given past its end
pub any_default : (words : List ℕ) (k d e : ℕ) → k < length words → slice_index_or words k d ≡ slice_index_or words k e
any_default [] k d e lt = absurd (omega (arith, lt))
any_default (w ∷ words) zero d e lt = refl
any_default (w ∷ words) (suc k) d e lt = any_default words k d e (omega (arith, lt))

fit_next : (word : ℕ) (words : List ℕ) → Fit (word ∷ words) → Fit words
fit_next word words fit = λ k d lt. fit (suc k) d (omega (arith, lt))

-- what was stored is read again
pub read_back : (words : List ℕ) → Fit words → words_in (map (to_le_bytes w32) words) ≡ words
read_back [] fit = refl
read_back (word ∷ words) fit =
    let first = from_le_bytes-to_le_bytes_4 word (fit 0 0 (omega arith)) in
    rw (first, read_back words (fit_next word words fit)) refl

pub stored_back : (all : List (List ℕ)) → AreStored all → map (to_le_bytes w32) (words_in all) ≡ all
stored_back [] p = refl
stored_back (x ∷ all) p = ap (λ (y : List ℕ). y ∷ map bytes (words_in all)) p.0 ∙ ap (λ (l : List (List ℕ)). x ∷ l) (stored_back all p.1)

-- ---- that words are stored

pub made : (words : List ℕ) → Fit words → AreStored (map (to_le_bytes w32) words)
made [] fit = tt
made (word ∷ words) fit = (ap bytes (from_le_bytes-to_le_bytes_4 word (fit 0 0 (omega arith))), made words (fit_next word words fit))

pub joined : (front back : List (List ℕ)) → AreStored front → AreStored back → AreStored (front ++ back)
joined [] back p q = q
joined (x ∷ front) back p q = (p.0, joined front back p.1 q)

pub taken : (n : ℕ) (all : List (List ℕ)) → AreStored all → AreStored (take n all)
taken zero all p = tt
taken (suc n) [] p = tt
taken (suc n) (x ∷ all) p = (p.0, taken n all p.1)

pub dropped : (n : ℕ) (all : List (List ℕ)) → AreStored all → AreStored (drop n all)
dropped zero all p = p
dropped (suc n) [] p = tt
dropped (suc n) (x ∷ all) p = dropped n all p.1

pub replaced : (all : List (List ℕ)) (i word : ℕ) → word < 2 ^ 32 → AreStored all → AreStored (slice_set all i (to_le_bytes w32 word))
replaced [] i word fits p = tt
replaced (x ∷ all) zero word fits p = (ap bytes (from_le_bytes-to_le_bytes_4 word fits), p.1)
replaced (x ∷ all) (suc i) word fits p = (p.0, replaced all i word fits p.1)

pub zeros : (n : ℕ) → AreStored (replicate n (0 ∷ 0 ∷ 0 ∷ 0 ∷ []))
zeros zero = tt
zeros (suc n) = (refl, zeros n)

-- ---- what they are

pub flattened : (all : List (List ℕ)) → AreStored all → flat_map (λ x. x) all ≡ flat_map (to_le_bytes w32) (words_in all)
flattened [] p = refl
flattened (x ∷ all) p =
    ap (λ (y : List ℕ). y ++ flat_map (λ x. x) all) (sym p.0) ∙ ap (λ (l : List ℕ). bytes (read x) ++ l) (flattened all p.1)

-- words with the same bytes are the same
pub told : (a b : List ℕ) → Fit a → Fit b → flat_map (to_le_bytes w32) a ≡ flat_map (to_le_bytes w32) b → a ≡ b
told [] [] p q e = refl
told [] (w ∷ b) p q e = absurd (omega (arith, ap (λ (l : List ℕ). length l) e))
told (v ∷ a) [] p q e = absurd (omega (arith, ap (λ (l : List ℕ). length l) e))
told (v ∷ a) (w ∷ b) p q e =
    let first : bytes v ≡ bytes w = ap (take 4) e in
    let rest = told a b (fit_next v a p) (fit_next w b q) (ap (drop 4) e) in
    let is : v ≡ w = sym (from_le_bytes-to_le_bytes_4 v (p 0 0 (omega arith))) ∙ ap read first ∙ from_le_bytes-to_le_bytes_4 w (q 0 0 (omega arith)) in
    ap (λ (n : ℕ). n ∷ a) is ∙ ap (λ (l : List ℕ). w ∷ l) rest

fits : (n : ℕ) → read (bytes n) < 2 ^ 32
fits n = omega arith

-- each fits 32 bits
pub small : (all : List (List ℕ)) → AreStored all → All (λ word. word < 2 ^ 32) (words_in all)
small [] p k d lt = absurd (omega (arith, lt))
small (x ∷ all) p zero d lt = omega (arith, fits (read x), ap read p.0)
small (x ∷ all) p (suc k) d lt = small all p.1 k d (omega (arith, lt))

pub words_dropped : (n : ℕ) (all : List (List ℕ)) → words_in (drop n all) ≡ drop n (words_in all)
words_dropped n all = sym (drop-map read n all)

pub words_taken : (n : ℕ) (all : List (List ℕ)) → words_in (take n all) ≡ take n (words_in all)
words_taken zero all = refl
words_taken (suc n) [] = refl
words_taken (suc n) (x ∷ all) = ap (λ (l : List ℕ). read x ∷ l) (words_taken n all)

pub words_replaced : (all : List (List ℕ)) (i word : ℕ) → word < 2 ^ 32 → words_in (slice_set all i (to_le_bytes w32 word)) ≡ slice_set (words_in all) i word
words_replaced [] i word fits = refl
words_replaced (x ∷ all) zero word fits = ap (λ (n : ℕ). n ∷ words_in all) (from_le_bytes-to_le_bytes_4 word fits)
words_replaced (x ∷ all) (suc i) word fits = ap (λ (l : List ℕ). read x ∷ l) (words_replaced all i word fits)

-- ---- where memory may run out

pub appended : (grows : Bool) (old more new : List (List ℕ)) → new ≡ (if grows then old ++ more else old) → AreStored old → AreStored more → AreStored new
appended true old more new e p q = subst AreStored (sym e) (joined old more p q)
appended false old more new e p q = subst AreStored (sym e) p

pub appended_words : (result : Result (Unit {0}) AllocError) (old more new : List (List ℕ)) → (front back : List ℕ)
    → new ≡ (if is_ok result then old ++ more else old) → words_in old ≡ front → words_in more ≡ back → OnOk result (words_in new ≡ front ++ back)
appended_words (Ok _) old more new front back e p q =
    ap words_in e ∙ map-append read old more ∙ ap (λ (l : List ℕ). l ++ words_in more) p ∙ ap (λ (l : List ℕ). front ++ l) q
appended_words (Err _) old more new front back e p q = tt

pub resized : (grows : Bool) (n m : ℕ) (old new : List (List ℕ)) → new ≡ (if grows then take n old ++ replicate m (0 ∷ 0 ∷ 0 ∷ 0 ∷ []) else old) → AreStored old → AreStored new
resized true n m old new e p = subst AreStored (sym e) (joined _ _ (taken n old p) (zeros m))
resized false n m old new e p = subst AreStored (sym e) p

pub one_fits : (word : ℕ) → word < 2 ^ 32 → All (λ n. n < 2 ^ 32) (word ∷ [])
one_fits word fits zero d lt = fits
one_fits word fits (suc k) d lt = absurd (omega (arith, lt))

-- ---- words over the first ones

pub stored_at : (all : List (List ℕ)) (i : ℕ) (d : List ℕ) → i < length all → AreStored all → AreStored (slice_index_or all i d ∷ [])
stored_at [] i d lt p = absurd (omega (arith, lt))
stored_at (x ∷ all) zero d lt p = (p.0, tt)
stored_at (x ∷ all) (suc i) d lt p = stored_at all i d (omega (arith, lt)) p.1

pub put_at : (all : List (List ℕ)) (i : ℕ) (b : List ℕ) → AreStored (b ∷ []) → AreStored all → AreStored (slice_set all i b)
put_at [] i b q p = tt
put_at (x ∷ all) zero b q p = (q.0, p.1)
put_at (x ∷ all) (suc i) b q p = (p.0, put_at all i b q p.1)

pub overwritten : {A : Type 0} (front old : List A) (i : ℕ) (d : A) → i < length front → i < length old
    → slice_set (take i front ++ drop i old) i (slice_index_or front i d) ≡ take (suc i) front ++ drop (suc i) old
overwritten [] old i d lt in_old = absurd (omega (arith, lt))
overwritten (x ∷ front) [] i d lt in_old = absurd (omega (arith, in_old))
overwritten (x ∷ front) (y ∷ old) zero d lt in_old = refl
overwritten (x ∷ front) (y ∷ old) (suc i) d lt in_old = ap (λ (l : List _). x ∷ l) (overwritten front old i d (omega (arith, lt)) (omega (arith, in_old)))

pub words_length : (all : List (List ℕ)) → length (words_in all) ≡ length all
words_length all = length-map all read
