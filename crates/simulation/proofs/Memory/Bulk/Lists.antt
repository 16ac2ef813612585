-- Bytes that are put one after the other are put together.
use Rattle.std.proofs.Common.{◌≡◌, ℕ, suc, ◌+◌, ◌*◌, ◌%◌, ◌<◌, ◌≤◌, List, [], ◌∷◌, ◌++◌, take, drop, length, sym, ap, ap₂, ◌∙◌, arith, append_assoc, length-drop}
use Rattle.std.proofs.lemmas.List.{drop-drop, drop_at, drop-take, length-take-le}
use Rattle.std.proofs.lemmas.List.Elements.{All-head, All-drop}
use Rattle.std.proofs.lemmas.Slice.{take-put_mid, drop-put_mid, take-put_mid_below}
use Rattle.std.proofs.Math.Seq.{take-add}
use Rattle.rv_isa.specs.Steps.{le_value, le_bytes, value_at, put}
use Rattle.rv_isa.specs.Runs.{AreBytes}

-- ---- one more byte, first or last

pub put_next : (n at : ℕ) (one bytes l : List ℕ) → at < length l → length one ≡ 1 → put n (suc at) (put 1 at l one) bytes ≡ put (suc n) at l (one ++ bytes)
put_next n at one bytes l inside size =
    let front : take (suc at) (put 1 at l one) ≡ take at l ++ one = take-put_mid at 1 l one (suc at) (omega (arith, size)) (omega arith) in
    let back : drop (suc at) (put 1 at l one) ≡ drop (suc at) l = drop-put_mid at 1 l one (suc at) (omega arith) (omega arith) size in
    let there : suc at + n ≡ at + suc n = omega arith in
    let rest : drop n (drop (suc at) l) ≡ drop (suc n) (drop at l) =
    drop-drop n (suc at) l ∙ ap (λ (k : ℕ). drop k l) there ∙ sym (drop-drop (suc n) at l) in
    ap₂ (λ (xs ys : List ℕ). xs ++ (bytes ++ drop n ys)) front back
    ∙ append_assoc (take at l) one (bytes ++ drop n (drop (suc at) l))
    ∙ ap (λ (ys : List ℕ). take at l ++ ys) (sym (append_assoc one bytes (drop n (drop (suc at) l))))
    ∙ ap (λ (ys : List ℕ). take at l ++ ((one ++ bytes) ++ ys)) rest

pub put_last : (n at : ℕ) (one bytes l : List ℕ) → at + n < length l → length one ≡ 1 → put n at (put 1 (at + n) l one) bytes ≡ put (suc n) at l (bytes ++ one)
put_last n at one bytes l inside size =
    let front : take at (put 1 (at + n) l one) ≡ take at l = take-put_mid_below (at + n) 1 l one at (omega arith) (omega arith) in
    let back : drop n (drop at (put 1 (at + n) l one)) ≡ one ++ drop 1 (drop (at + n) l) =
    drop-drop n at (put 1 (at + n) l one) ∙ drop_at (take (at + n) l) (one ++ drop 1 (drop (at + n) l)) (at + n) (length-take-le (at + n) l (omega arith)) in
    let there : at + n + 1 ≡ at + suc n = omega arith in
    let rest : drop 1 (drop (at + n) l) ≡ drop (suc n) (drop at l) =
    drop-drop 1 (at + n) l ∙ ap (λ (k : ℕ). drop k l) there ∙ sym (drop-drop (suc n) at l) in
    ap₂ (λ (xs ys : List ℕ). xs ++ (bytes ++ ys)) front back
    ∙ ap (λ (ys : List ℕ). take at l ++ (bytes ++ (one ++ ys))) rest
    ∙ ap (λ (ys : List ℕ). take at l ++ ys) (sym (append_assoc bytes one (drop (suc n) (drop at l))))

-- ---- a byte that is read

one_byte : (l : List ℕ) → AreBytes l → 1 ≤ length l → le_bytes 1 (le_value (take 1 l)) ≡ take 1 l
one_byte [] sound some = absurd (omega (arith, some))
one_byte (x ∷ l) sound some =
    let small : x < 256 = All-head (λ (b : ℕ). b < 256) x l sound in
    let same : (x + 256 * 0) % 256 ≡ x = omega arith in
    ap (λ (y : ℕ). y ∷ []) same

pub byte_there : (l : List ℕ) (at : ℕ) → AreBytes l → at < length l → le_bytes 1 (value_at 1 at l) ≡ take 1 (drop at l)
byte_there l at sound inside = one_byte (drop at l) (All-drop (λ (b : ℕ). b < 256) at l sound) (omega (arith, length-drop at l))

-- ---- lists that begin or end with it

pub take_next : (n at : ℕ) (l : List ℕ) → take 1 (drop at l) ++ take n (drop (suc at) l) ≡ take (suc n) (drop at l)
take_next n at l =
    let there : at + 1 ≡ suc at = omega arith in
    let more : 1 + n ≡ suc n = omega arith in
    ap (λ (ys : List ℕ). take 1 (drop at l) ++ take n ys) (ap (λ (k : ℕ). drop k l) (sym there) ∙ sym (drop-drop 1 at l))
    ∙ sym (take-add 1 n (drop at l))
    ∙ ap (λ (k : ℕ). take k (drop at l)) more

pub take_last : (n at : ℕ) (l : List ℕ) → take n (drop at l) ++ take 1 (drop (at + n) l) ≡ take (suc n) (drop at l)
take_last n at l =
    let more : n + 1 ≡ suc n = omega arith in
    ap (λ (ys : List ℕ). take n (drop at l) ++ take 1 ys) (sym (drop-drop n at l))
    ∙ sym (take-add n 1 (drop at l))
    ∙ ap (λ (k : ℕ). take k (drop at l)) more

-- ---- bytes that are written don't change what is read after or before them

pub read_above : (n at from : ℕ) (one l : List ℕ) → at + 1 ≤ from → at ≤ length l → length one ≡ 1 → take n (drop from (put 1 at l one)) ≡ take n (drop from l)
read_above n at from one l behind inside size = ap (take n) (drop-put_mid at 1 l one from behind inside size)

pub read_below : (n at from : ℕ) (one l : List ℕ) → from + n ≤ at → at ≤ length l → take n (drop from (put 1 at l one)) ≡ take n (drop from l)
read_below n at from one l before inside =
    sym (drop-take from n (put 1 at l one)) ∙ ap (drop from) (take-put_mid_below at 1 l one (from + n) before inside) ∙ drop-take from n l
