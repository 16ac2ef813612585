-- A word is at most one argument, and `argument_in` computes it.
use Rattle.std.proofs.Common.{◌≡◌, ◌∙◌, ◌<◌, ◌≤◌, ◌++◌, ℕ, Bool, true, false, List, [], ◌∷◌, length, ap, sym, subst, inl, inr, arith, slice_index, refl, suc, zero}
use Rattle.std.specs.Prelude.{◌==◌, ◌&&◌, ◌^◌, ◌↔◌, Any, Decides, FitsSigned, None, Option, Some, codes, cond, drop, nat_eq, nat_lt, nat_le, not, slice_index_or, unwrap_or, option_and_then, option_map, ℤ, pos, negsuc, neg_ℤ}
use Rattle.std.specs.List.{list_all, starts_with}
use Rattle.std.specs.Char.{digit_value}
use Rattle.std.specs.Str.Parse.{AllDigits, IsNumeral, digits_value}
use Rattle.std.proofs.lemmas.Bool.{eqb-true, false≢true, le-leb, leb-true}
use Rattle.std.proofs.lemmas.Bool.Decides.{Decides-and, Decides-eqb, Decides-like, Decides-ltb}
use Rattle.std.proofs.lemmas.Slice.Eq.{starts_is}
use Rattle.clap.specs.ValueTests.{is_numeral}
use Rattle.command_words.specs.Arguments.{AreArguments, IsArgument, IsDigits, ReadsArgument, ReadsNumber, Writes, argument_in, arguments_in, fits, number_of}
use Rattle.command_words.specs.declared.argument.Argument.{Argument}
use Rattle.command_words.specs.declared.argument.Argument.TheVariants.{I32, I64}
use mir.Syntax.{Width, w32, w64}
use mir.Val.{hbits}

no_minus : (text ds : List ℕ) → IsNumeral 10 text → text ≡ 45 ∷ ds → ⊥
no_minus text ds h is =
    let numeral : IsNumeral 10 (45 ∷ ds) = subst (IsNumeral 10) is h in
    let bad : 36 < 10 = numeral.1.0 in
    absurd (omega (arith, bad))

writes_one : (text : List ℕ) (m n : ℤ) → Writes text m → Writes text n → m ≡ n
writes_one text m n (inl a) (inl b) = a.1 ∙ sym b.1
writes_one text m n (inl a) (inr b) = absurd (no_minus text b.0 a.0.0 b.1)
writes_one text m n (inr a) (inl b) = absurd (no_minus text a.0 b.0.0 a.1)
writes_one text m n (inr a) (inr b) =
    let same : a.0 ≡ b.0 = ap (drop 1) (sym a.1 ∙ b.1) in
    a.3 ∙ ap (λ ds. neg_ℤ (pos (digits_value 10 ds))) same ∙ sym b.3

apart : (word a b : List ℕ) → word ≡ codes "i32:" ++ a → word ≡ codes "i64:" ++ b → ⊥
apart word a b e f =
    let bad : 51 ≡ 54 = ap (λ t. slice_index t 1) (sym e ∙ f) in
    absurd (omega (arith, bad))

pub argument_is_one : (word : List ℕ) (a b : Argument) → IsArgument word a → IsArgument word b → a ≡ b
argument_is_one word (I32 m) (I32 n) a b =
    let same : a.0 ≡ b.0 = ap (drop 4) (sym a.1 ∙ b.1) in
    ap I32 (writes_one b.0 m n (subst (λ t. Writes t m) same a.2) b.2)
argument_is_one word (I64 m) (I64 n) a b =
    let same : a.0 ≡ b.0 = ap (drop 4) (sym a.1 ∙ b.1) in
    ap I64 (writes_one b.0 m n (subst (λ t. Writes t m) same a.2) b.2)
argument_is_one word (I32 m) (I64 n) a b = absurd (apart word a.0 b.0 a.1 b.1)
argument_is_one word (I64 m) (I32 n) a b = absurd (apart word b.0 a.0 b.1 a.1)

-- ---- numbers

digits_Decides : (ds : List ℕ) → Decides (list_all (λ d. nat_lt (digit_value d) 10) ds) (AllDigits 10 ds)
digits_Decides [] = (λ _. tt, λ _. refl)
digits_Decides (d ∷ ds) = Decides-and _ _ (Decides-ltb (digit_value d) 10) (digits_Decides ds)

numeral_Decides : (ds : List ℕ) → Decides (is_numeral ds) (IsNumeral 10 ds)
numeral_Decides ds = Decides-and _ _ (Decides-ltb 0 (length ds)) (digits_Decides ds)

fits_Decides : (w : Width) (n : ℤ) → Decides (fits w n) (FitsSigned w n)
fits_Decides w (pos n) = Decides-like _ (λ h. record { sfits = h }) (λ h. h.sfits) (Decides-ltb n (2 ^ hbits w))
fits_Decides w (negsuc n) = Decides-like _ (λ h. record { sfits = h }) (λ h. h.sfits) (Decides-ltb n (2 ^ hbits w))

short_Decides : (ds : List ℕ) → Decides (nat_le (length ds) 20) (length ds ≤ 20)
short_Decides ds = (leb-true _ _, le-leb _ _)

-- the digits after a sign, and the number of them
abbrev IsRead : Width → List ℕ → ℤ → Type 0
IsRead w ds n = (length ds ≤ 20) × (IsNumeral 10 ds × FitsSigned w n)

abbrev is_read : Width → List ℕ → ℤ → Bool
is_read w ds n = nat_le (length ds) 20 && (is_numeral ds && fits w n)

read_Decides : (w : Width) (ds : List ℕ) (n : ℤ) → Decides (is_read w ds n) (IsRead w ds n)
read_Decides w ds n = Decides-and _ _ (short_Decides ds) (Decides-and _ _ (numeral_Decides ds) (fits_Decides w n))

tested : (w : Width) (text ds : List ℕ) (n : ℤ) → (IsDigits ds → Writes text n) → ((k : ℤ) → Writes text k → IsDigits ds × (k ≡ n))
    → (t : Bool) → is_read w ds n ≡ t → ReadsNumber w text (cond t (Some n) None)
tested w text ds n writes only true is =
    let read = (read_Decides w ds n).0 is in
    (writes (read.1.0, read.0), read.1.1)
tested w text ds n writes only false is = λ k written fit.
    let it = only k written in
    absurd (false≢true (sym is ∙ (read_Decides w ds n).1 (it.0.1, (it.0.0, subst (FitsSigned w) it.1 fit))))

pub reads_number : (w : Width) (text : List ℕ) → ReadsNumber w text (number_of w text)
reads_number w [] = λ n written fit. go n written
  where
    go : (n : ℤ) → Writes [] n → ⊥
    go n (inl a) = omega (arith, a.0.0.0)
    go n (inr a) = cc
reads_number w (c ∷ cs) = go (c == 45) (c == 43) refl refl
  where
    after_minus : c ≡ 45 → (k : ℤ) → Writes (c ∷ cs) k → IsDigits cs × (k ≡ neg_ℤ (pos (digits_value 10 cs)))
    after_minus e k (inl a) = absurd (no_minus (c ∷ cs) cs a.0.0 (ap (λ x. x ∷ cs) e))
    after_minus e k (inr a) =
        let same : cs ≡ a.0 = ap (drop 1) a.1 in
        (subst IsDigits (sym same) a.2, a.3 ∙ ap (λ ds. neg_ℤ (pos (digits_value 10 ds))) (sym same))

    no_plus : c ≡ 43 → (k : ℤ) → Writes (c ∷ cs) k → ⊥
    no_plus e k (inl a) =
        let bad : digit_value 43 < 10 = subst (λ x. digit_value x < 10) e a.0.0.1.0 in
        omega (arith, bad)
    no_plus e k (inr a) =
        let bad : 43 ≡ 45 = sym e ∙ ap (λ t. slice_index t 0) a.1 in
        omega (arith, bad)

    unsigned : (c == 45) ≡ false → (k : ℤ) → Writes (c ∷ cs) k → IsDigits (c ∷ cs) × (k ≡ pos (digits_value 10 (c ∷ cs)))
    unsigned e k (inl a) = a
    unsigned e k (inr a) =
        let minus : (45 == 45) ≡ false = subst (λ x. (x == 45) ≡ false) (ap (λ t. slice_index t 0) a.1) e in
        absurd (false≢true (sym minus))

    go : (m q : Bool) → (c == 45) ≡ m → (c == 43) ≡ q
        → ReadsNumber w (c ∷ cs) (let n = cond m (neg_ℤ (pos (digits_value 10 (cond m (drop 1 (c ∷ cs)) (drop (cond q 1 0) (c ∷ cs)))))) (pos (digits_value 10 (cond m (drop 1 (c ∷ cs)) (drop (cond q 1 0) (c ∷ cs))))) in
        cond ((not q && nat_le (length (cond m (drop 1 (c ∷ cs)) (c ∷ cs))) 20) && (is_numeral (cond m (drop 1 (c ∷ cs)) (drop (cond q 1 0) (c ∷ cs))) && fits w n)) (Some n) None)
    go m true e f = λ k written fit. no_plus (eqb-true c 43 f) k written
    go true false e f =
        let minus = eqb-true c 45 e in
        tested w (c ∷ cs) cs (neg_ℤ (pos (digits_value 10 cs))) (λ digits. inr (cs, ap (λ x. x ∷ cs) minus, digits, refl)) (after_minus minus) _ refl
    go false false e f = tested w (c ∷ cs) (c ∷ cs) (pos (digits_value 10 (c ∷ cs))) (λ digits. inl (digits, refl)) (unsigned e) _ refl

-- ---- words

-- what follows the prefix, where the word begins with it
starts : (word front : List ℕ) → (starts_with nat_eq word front ≡ true → word ≡ front ++ drop (length front) word) × ((rest : List ℕ) → word ≡ front ++ rest → starts_with nat_eq word front ≡ true)
starts word front = starts_is Decides-eqb word front _ refl

pub reads_argument : (word : List ℕ) → ReadsArgument word (argument_in word)
reads_argument word = go (starts_with nat_eq word (codes "i32:")) (starts_with nat_eq word (codes "i64:")) refl refl
  where
    as_i32 : word ≡ codes "i32:" ++ drop 4 word → (r : Option ℤ) → ReadsNumber w32 (drop 4 word) r → ReadsArgument word (option_map I32 r)
    as_i32 is (Some n) read = (drop 4 word, is, read.0, read.1)
    as_i32 is None read = other
      where
        other : (a : Argument) → IsArgument word a → ⊥
        other (I32 n) a = read n (subst (λ t. Writes t n) (ap (drop 4) (sym a.1)) a.2) a.3
        other (I64 n) a = apart word (drop 4 word) a.0 is a.1

    as_i64 : word ≡ codes "i64:" ++ drop 4 word → (r : Option ℤ) → ReadsNumber w64 (drop 4 word) r → ReadsArgument word (option_map I64 r)
    as_i64 is (Some n) read = (drop 4 word, is, read.0, read.1)
    as_i64 is None read = other
      where
        other : (a : Argument) → IsArgument word a → ⊥
        other (I32 n) a = apart word a.0 (drop 4 word) a.1 is
        other (I64 n) a = read n (subst (λ t. Writes t n) (ap (drop 4) (sym a.1)) a.2) a.3

    neither : starts_with nat_eq word (codes "i32:") ≡ false → starts_with nat_eq word (codes "i64:") ≡ false → (a : Argument) → IsArgument word a → ⊥
    neither e f (I32 n) a = absurd (false≢true (sym e ∙ (starts word (codes "i32:")).1 a.0 a.1))
    neither e f (I64 n) a = absurd (false≢true (sym f ∙ (starts word (codes "i64:")).1 a.0 a.1))

    go : (a b : Bool) → starts_with nat_eq word (codes "i32:") ≡ a → starts_with nat_eq word (codes "i64:") ≡ b
        → ReadsArgument word (cond a (option_map I32 (number_of w32 (drop 4 word))) (cond b (option_map I64 (number_of w64 (drop 4 word))) None))
    go true b e f = as_i32 ((starts word (codes "i32:")).0 e) (number_of w32 (drop 4 word)) (reads_number w32 (drop 4 word))
    go false true e f = as_i64 ((starts word (codes "i64:")).0 f) (number_of w64 (drop 4 word)) (reads_number w64 (drop 4 word))
    go false false e f = neither e f

reads_one : (word : List ℕ) (r s : Option Argument) → ReadsArgument word r → ReadsArgument word s → r ≡ s
reads_one word (Some a) (Some b) r s = ap Some (argument_is_one word a b r s)
reads_one word (Some a) None r s = absurd (s a r)
reads_one word None (Some b) r s = absurd (r b s)
reads_one word None None r s = refl

-- what is read of a word is what `argument_in` computes
pub is_argument_in : (word : List ℕ) (r : Option Argument) → ReadsArgument word r → r ≡ argument_in word
is_argument_in word r reads = reads_one word r (argument_in word) reads (reads_argument word)

pub argument_in-IsArgument : (word : List ℕ) (a : Argument) → (argument_in word ≡ Some a) ↔ IsArgument word a
argument_in-IsArgument word a = (λ e. subst (ReadsArgument word) e (reads_argument word), λ is. sym (is_argument_in word (Some a) is))

-- ---- lists of words

abbrev IsNone : List ℕ → Type 0
IsNone word = (a : Argument) → IsArgument word a → ⊥

some_none : {X : Type 0} (x : X) → ◌≡◌ {A = Option X} (Some x) None → ⊥
some_none x e = cc

later : (word : List ℕ) (words : List (List ℕ)) → Any IsNone words → Any IsNone (word ∷ words)
later word words any = (suc any.0, any.1, omega (arith, any.2), any.3, any.4)

-- where the words give no arguments, one of them is none
pub other_word : (words : List (List ℕ)) → arguments_in words ≡ None → Any IsNone words
other_word [] e = absurd (some_none [] e)
other_word (word ∷ words) e = go (argument_in word) (arguments_in words) (reads_argument word) (other_word words) e
  where
    go : (a : Option Argument) (l : Option (List Argument)) → ReadsArgument word a → (l ≡ None → Any IsNone words)
        → option_and_then (λ x. option_map (λ rest. x ∷ rest) l) a ≡ None → Any IsNone (word ∷ words)
    go None l read more e = (0, word, omega arith, refl, read)
    go (Some a) None read more e = later word words (more refl)
    go (Some a) (Some l) read more e = absurd (some_none (a ∷ l) e)

-- where the words give arguments, they are these
pub are_arguments : (words : List (List ℕ)) (l : List Argument) → arguments_in words ≡ Some l → AreArguments words l
are_arguments [] l e = subst (AreArguments []) (ap (λ o. unwrap_or o []) e) tt
are_arguments (word ∷ words) l e = go (argument_in word) (arguments_in words) (reads_argument word) (are_arguments words) e
  where
    go : (a : Option Argument) (r : Option (List Argument)) → ReadsArgument word a → ((m : List Argument) → r ≡ Some m → AreArguments words m)
        → option_and_then (λ x. option_map (λ rest. x ∷ rest) r) a ≡ Some l → AreArguments (word ∷ words) l
    go None r read more e = absurd (some_none l (sym e))
    go (Some a) None read more e = absurd (some_none l (sym e))
    go (Some a) (Some m) read more e = subst (AreArguments (word ∷ words)) (ap (λ o. unwrap_or o []) e) (read, more m refl)

-- where the words are arguments, none of them is another word
not_at : (words : List (List ℕ)) (l : List Argument) (k : ℕ) (x : List ℕ) → AreArguments words l → k < length words → slice_index_or words k x ≡ x → IsNone x → ⊥
not_at [] [] k x are below is none = omega (arith, below)
not_at [] (a ∷ l) k x are below is none = are
not_at (word ∷ words) [] k x are below is none = are
not_at (word ∷ words) (a ∷ l) zero x are below is none = none a (subst (λ w. IsArgument w a) is are.0)
not_at (word ∷ words) (a ∷ l) (suc k) x are below is none = not_at words l k x are.1 (omega (arith, below)) is none

pub no_other : (words : List (List ℕ)) (l : List Argument) → arguments_in words ≡ Some l → Any IsNone words → ⊥
no_other words l e any = not_at words l any.0 any.1 (are_arguments words l e) any.2 any.3 any.4
