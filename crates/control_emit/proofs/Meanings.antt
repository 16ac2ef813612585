-- What a draft means, and how its parts change.
use Rattle.std.proofs.Common.{◌≡◌, ◌≤◌, ◌<◌, ℕ, zero, suc, ◌+◌, ◌-◌, List, [], ◌∷◌, ◌++◌, map, length, Option, None, Some, set, refl, sym, ap, ◌∙◌, subst, arith}
use Rattle.std.proofs.lemmas.List.{length-set, set-append_left, set-append_right}
use Rattle.rv_isa.specs.declared.operations.Op.TheVariants.{Auipc, Jalr}
use Rattle.rv_isa.specs.Runs.{hi, lo}
use Rattle.rv_isa.specs.Words.{word_of}
use Rattle.frame_layout.specs.Macros.{x0, t3, distance, far}
use Rattle.control_emit.specs.Pending.{Pending, Ends, patched, all_patched, test_patched, filled, meaning, AreWithin, IsTestWithin, IsWithin, Within, with_jump, jumping, end_at}

-- ---- lengths

pub length-patched : (there place : ℕ) (words : List ℕ) → length (patched there place words) ≡ length words
length-patched there place words = length-set _ _ _ ∙ length-set _ _ _

pub length-all : (there : ℕ) (ps words : List ℕ) → length (all_patched there ps words) ≡ length words
length-all there [] words = refl
length-all there (p ∷ ps) words = length-all there ps (patched there p words) ∙ length-patched there p words

pub length-test : (there : ℕ) (p : Option ℕ) (words : List ℕ) → length (test_patched there p words) ≡ length words
length-test there None words = refl
length-test there (Some p) words = length-patched there p words

pub length-filled : (l : Pending) (e : Ends) (words : List ℕ) → length (filled l e words) ≡ length words
length-filled l e words = length-all e.end l.jumps (test_patched e.other l.test words) ∙ length-test e.other l.test words

pub length-meaning : (ls : List Pending) (es : List Ends) (words : List ℕ) → length (meaning ls es words) ≡ length words
length-meaning [] es words = refl
length-meaning (l ∷ ls) [] words = refl
length-meaning (l ∷ ls) (e ∷ es) words = length-meaning ls es (filled l e words) ∙ length-filled l e words

-- ---- what follows the jumps stays

pub patched-front : (there place : ℕ) (a b : List ℕ) → place + 2 ≤ length a → patched there place (a ++ b) ≡ patched there place a ++ b
patched-front there place a b h =
    let d = distance place there in
    let u = word_of (Auipc t3 (hi d)) in
    let v = word_of (Jalr x0 t3 (lo d)) in
    let first : set (a ++ b) place u ≡ set a place u ++ b = set-append_left a b place u (omega arith) in
    let len = length-set a place u in
    ap (λ (l : List ℕ). set l (place + 1) v) first ∙ set-append_left (set a place u) b (place + 1) v (omega arith)

pub all-front : (there : ℕ) (ps a b : List ℕ) → AreWithin (length a) ps → all_patched there ps (a ++ b) ≡ all_patched there ps a ++ b
all-front there [] a b h = refl
all-front there (p ∷ ps) a b h =
    ap (all_patched there ps) (patched-front there p a b h.0)
    ∙ all-front there ps (patched there p a) b (subst (λ (n : ℕ). AreWithin n ps) (sym (length-patched there p a)) h.1)

pub test-front : (there : ℕ) (p : Option ℕ) (a b : List ℕ) → IsTestWithin (length a) p → test_patched there p (a ++ b) ≡ test_patched there p a ++ b
test-front there None a b h = refl
test-front there (Some p) a b h = patched-front there p a b h

pub filled-front : (l : Pending) (e : Ends) (a b : List ℕ) → IsWithin (length a) l → filled l e (a ++ b) ≡ filled l e a ++ b
filled-front l e a b h =
    ap (all_patched e.end l.jumps) (test-front e.other l.test a b h.0)
    ∙ all-front e.end l.jumps (test_patched e.other l.test a) b (subst (λ (n : ℕ). AreWithin n l.jumps) (sym (length-test e.other l.test a)) h.1)

pub meaning-front : (ls : List Pending) (es : List Ends) (a b : List ℕ) → Within (length a) ls → meaning ls es (a ++ b) ≡ meaning ls es a ++ b
meaning-front [] es a b h = refl
meaning-front (l ∷ ls) [] a b h = refl
meaning-front (l ∷ ls) (e ∷ es) a b h =
    ap (meaning ls es) (filled-front l e a b h.0)
    ∙ meaning-front ls es (filled l e a) b (subst (λ (n : ℕ). Within n ls) (sym (length-filled l e a)) h.1)

-- ---- further instruction words

pub are-later : (m n : ℕ) (ps : List ℕ) → m ≤ n → AreWithin m ps → AreWithin n ps
are-later m n [] le h = tt
are-later m n (p ∷ ps) le h = (omega (arith, h.0), are-later m n ps le h.1)

pub test-later : (m n : ℕ) (p : Option ℕ) → m ≤ n → IsTestWithin m p → IsTestWithin n p
test-later m n None le h = tt
test-later m n (Some p) le h = omega (arith, h)

pub within-later : (m n : ℕ) (ls : List Pending) → m ≤ n → Within m ls → Within n ls
within-later m n [] le h = tt
within-later m n (l ∷ ls) le h = ((test-later m n l.test le h.0.0, are-later m n l.jumps le h.0.1), within-later m n ls le h.1)

-- ---- one jump more

-- the two words after the others
pub patched-seam : (there n x y : ℕ) (a : List ℕ) → length a ≡ n → patched there n (a ++ x ∷ y ∷ []) ≡ a ++ map word_of (far (distance n there))
patched-seam there n x y a e =
    let d = distance n there in
    let u = word_of (Auipc t3 (hi d)) in
    let v = word_of (Jalr x0 t3 (lo d)) in
    let first : set (a ++ x ∷ y ∷ []) n u ≡ a ++ u ∷ y ∷ [] = set-append_right a (x ∷ y ∷ []) n n u e (omega arith) ∙ ap (λ (k : ℕ). a ++ set (x ∷ y ∷ []) k u) (let z : n - n ≡ 0 = omega arith in z) in
    let second : set (a ++ u ∷ y ∷ []) (n + 1) v ≡ a ++ u ∷ v ∷ [] = set-append_right a (u ∷ y ∷ []) n (n + 1) v e (omega arith) ∙ ap (λ (k : ℕ). a ++ set (u ∷ y ∷ []) k v) (let z : n + 1 - n ≡ 1 = omega arith in z) in
    ap (λ (l : List ℕ). set l (n + 1) v) first ∙ second

pub filled-jump : (l : Pending) (e : Ends) (n x y : ℕ) (a : List ℕ) → length a ≡ n → IsWithin n l → filled (with_jump n l) e (a ++ x ∷ y ∷ []) ≡ filled l e a ++ map word_of (far (distance n e.end))
filled-jump l e n x y a is h =
    let own : IsWithin (length a) l = subst (λ (k : ℕ). IsWithin k l) (sym is) h in
    let tested = test_patched e.other l.test a in
    let size : length tested ≡ length a = length-test e.other l.test a in
    ap (λ (w : List ℕ). all_patched e.end l.jumps (patched e.end n w)) (test-front e.other l.test a (x ∷ y ∷ []) own.0)
    ∙ ap (all_patched e.end l.jumps) (patched-seam e.end n x y tested (size ∙ is))
    ∙ all-front e.end l.jumps tested (map word_of (far (distance n e.end))) (subst (λ (k : ℕ). AreWithin k l.jumps) (sym size) own.1)

pub meaning-jump : (ls : List Pending) (es : List Ends) (k n x y : ℕ) (a : List ℕ) → length a ≡ n → Within n ls → k < length ls → length es ≡ length ls
    → meaning (jumping n k ls) es (a ++ x ∷ y ∷ []) ≡ meaning ls es a ++ map word_of (far (distance n (end_at k es)))
meaning-jump [] es k n x y a is h lt same = absurd (omega arith)
meaning-jump (l ∷ ls) [] k n x y a is h lt same = absurd (omega arith)
meaning-jump (l ∷ ls) (e ∷ es) zero n x y a is h lt same =
    ap (meaning ls es) (filled-jump l e n x y a is h.0)
    ∙ meaning-front ls es (filled l e a) (map word_of (far (distance n e.end))) (subst (λ (k : ℕ). Within k ls) (sym (length-filled l e a ∙ is)) h.1)
meaning-jump (l ∷ ls) (e ∷ es) (suc k) n x y a is h lt same =
    ap (meaning (jumping n k ls) es) (filled-front l e a (x ∷ y ∷ []) (subst (λ (k : ℕ). IsWithin k l) (sym is) h.0))
    ∙ meaning-jump ls es k n x y (filled l e a) (length-filled l e a ∙ is) h.1 (omega arith) (omega arith)

pub within-jump : (ls : List Pending) (k n m : ℕ) → n + 2 ≤ m → Within n ls → Within m (jumping n k ls)
within-jump [] k n m le h = tt
within-jump (l ∷ ls) zero n m le h = ((test-later n m l.test (omega arith) h.0.0, (le, are-later n m l.jumps (omega arith) h.0.1)), within-later n m ls (omega arith) h.1)
within-jump (l ∷ ls) (suc k) n m le h = ((test-later n m l.test (omega arith) h.0.0, are-later n m l.jumps (omega arith) h.0.1), within-jump ls k n m le h.1)
