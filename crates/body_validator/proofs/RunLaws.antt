-- Locals as runs of one type.
use Rattle.std.proofs.Common.{◌≡◌, ℕ, zero, suc, ◌+◌, ◌-◌, ◌<◌, ◌≤◌, List, [], ◌∷◌, ◌++◌, length, take, get_or, Some, None, refl, sym, ap, ◌∙◌, subst, length-append, append_assoc, append-nil, arith}
use Rattle.std.specs.Prelude.{replicate, slice_get}
use Rattle.std.proofs.lemmas.List.{length-replicate, take_all}
use Rattle.std.proofs.lemmas.Option.{slice_get_past, slice_get-get_or}
use Rattle.wasm_defs.specs.Typing.{Types}
use Rattle.body_validator.specs.declared.locals.Run.{Run}
use Rattle.body_validator.specs.Runs.{end_of, run_types, AreRising}

pub slice_get_left : {X : Type 0} (xs ys : List X) (i : ℕ) → i < length xs → slice_get (xs ++ ys) i ≡ slice_get xs i
slice_get_left [] ys i h = absurd (omega (arith, h))
slice_get_left (x ∷ xs) ys zero h = refl
slice_get_left (x ∷ xs) ys (suc i) h = slice_get_left xs ys i (omega (arith, h))

pub slice_get_right : {X : Type 0} (xs ys : List X) (i : ℕ) → length xs ≤ i → slice_get (xs ++ ys) i ≡ slice_get ys (i - length xs)
slice_get_right [] ys i h = ap (slice_get ys) (omega arith)
slice_get_right (x ∷ xs) ys zero h = absurd (omega (arith, h))
slice_get_right (x ∷ xs) ys (suc i) h = slice_get_right xs ys i (omega (arith, h)) ∙ ap (slice_get ys) (omega arith)

pub slice_get_copies : {X : Type 0} (n i : ℕ) (x : X) → i < n → slice_get (replicate n x) i ≡ Some x
slice_get_copies zero i x h = absurd (omega (arith, h))
slice_get_copies (suc n) zero x h = refl
slice_get_copies (suc n) (suc i) x h = slice_get_copies n i x (omega (arith, h))

pub end_rises : (start : ℕ) (rs : List Run) → AreRising start rs → start ≤ end_of start rs
end_rises start [] up = omega arith
end_rises start (r ∷ rs) up = omega (arith, up.0, end_rises r.end rs up.1)

pub rising_take : (start : ℕ) (rs : List Run) (k : ℕ) → AreRising start rs → AreRising start (take k rs)
rising_take start rs zero up = tt
rising_take start [] (suc k) up = tt
rising_take start (r ∷ rs) (suc k) up = (up.0, rising_take r.end rs k up.1)

-- the locals up to the last run's end are all there
pub runs_length : (start : ℕ) (rs : List Run) → AreRising start rs → start + length (run_types start rs) ≡ end_of start rs
runs_length start [] up = omega arith
runs_length start (r ∷ rs) up =
    omega (arith, up.0, runs_length r.end rs up.1, length-append (replicate (r.end - start) r.ty) (run_types r.end rs), length-replicate (r.end - start) r.ty)

-- one more run follows the others
pub runs_pushed : (start : ℕ) (rs : List Run) (r : Run) → run_types start (rs ++ r ∷ []) ≡ run_types start rs ++ replicate (r.end - end_of start rs) r.ty
runs_pushed start [] r = append-nil (replicate (r.end - start) r.ty)
runs_pushed start (s ∷ rs) r =
    ap (λ (x : Types). replicate (s.end - start) s.ty ++ x) (runs_pushed s.end rs r)
    ∙ sym (append_assoc (replicate (s.end - start) s.ty) (run_types s.end rs) (replicate (r.end - end_of s.end rs) r.ty))

pub rising_pushed : (start : ℕ) (rs : List Run) (r : Run) → AreRising start rs → end_of start rs ≤ r.end → AreRising start (rs ++ r ∷ [])
rising_pushed start [] r up h = (h, tt)
rising_pushed start (s ∷ rs) r up h = (up.0, rising_pushed s.end rs r up.1 h)

end_at_next : (start : ℕ) (rs : List Run) (k : ℕ) (r : Run) → slice_get rs k ≡ Some r → end_of start (take (suc k) rs) ≡ r.end
end_at_next start [] k r e = absurd (cc)
end_at_next start (s ∷ rs) zero r e = cc
end_at_next start (s ∷ rs) (suc k) r e = end_at_next s.end rs k r e

-- the runs up to and with one end where it does
pub end_at : (start : ℕ) (rs : List Run) (k : ℕ) (r : Run) → slice_get rs k ≡ Some r → end_of start (take (k + 1) rs) ≡ r.end
end_at start rs k r e =
    let next : k + 1 ≡ suc k = omega arith in
    ap (λ n. end_of start (take n rs)) next ∙ end_at_next start rs k r e

-- a local is of the type of the first run that ends after it
pub runs_found : (start : ℕ) (rs : List Run) (k : ℕ) (r : Run) (i : ℕ) → AreRising start rs → slice_get rs k ≡ Some r
    → end_of start (take k rs) ≤ start + i → start + i < r.end → slice_get (run_types start rs) i ≡ Some r.ty
runs_found start [] k r i up e low high = absurd (cc)
runs_found start (s ∷ rs) zero r i up e low high =
    let is : s ≡ r = cc in
    let within : i < r.end - start = omega (arith, high) in
    subst (λ (x : Run). slice_get (replicate (x.end - start) x.ty ++ run_types x.end rs) i ≡ Some r.ty) (sym is)
    (slice_get_left (replicate (r.end - start) r.ty) (run_types r.end rs) i (omega (arith, within, length-replicate (r.end - start) r.ty))
    ∙ slice_get_copies (r.end - start) i r.ty within)
runs_found start (s ∷ rs) (suc k) r i up e low high =
    let past : s.end ≤ start + i = omega (arith, low, end_rises s.end (take k rs) (rising_take s.end rs k up.1)) in
    let n : length (replicate (s.end - start) s.ty) ≡ s.end - start = length-replicate (s.end - start) s.ty in
    let same : s.end + (i - (s.end - start)) ≡ start + i = omega (arith, past, up.0) in
    slice_get_right (replicate (s.end - start) s.ty) (run_types s.end rs) i (omega (arith, n, past))
    ∙ ap (λ m. slice_get (run_types s.end rs) (i - m)) n
    ∙ runs_found s.end rs k r (i - (s.end - start)) up.1 e (omega (arith, same, low)) (omega (arith, same, high))

pub same_run : {X : Type 0} (x y : X) → Some x ≡ Some y → x ≡ y
same_run x y e = cc

-- after the last run there is no local
pub runs_missed : (start : ℕ) (rs : List Run) (i : ℕ) → AreRising start rs → end_of start rs ≤ start + i → slice_get (run_types start rs) i ≡ None
runs_missed start rs i up h = slice_get_past (run_types start rs) i (omega (arith, runs_length start rs up, h))

pub end_last : (start : ℕ) (rs : List Run) (d : Run) → 0 < length rs → (get_or rs (length rs - 1) d).end ≡ end_of start rs
end_last start rs d h =
    let last = length rs - 1 in
    let all : take (last + 1) rs ≡ rs = take_all (last + 1) rs (omega arith) in
    sym (end_at start rs last (get_or rs last d) (slice_get-get_or rs last d (omega arith))) ∙ ap (end_of start) all

-- so many more of one type follow the locals
pub runs_declared : (params : Types) (rs more : List Run) (r : Run) (count : ℕ) (old : Types) → params ++ run_types (length params) rs ≡ old
    → more ≡ rs ++ r ∷ [] → r.end ≡ end_of (length params) rs + count → params ++ run_types (length params) more ≡ old ++ replicate count r.ty
runs_declared params rs more r count old is e ends =
    let n = length params in
    let so_many : r.end - end_of n rs ≡ count = omega (arith, ends) in
    ap (λ (x : List Run). params ++ run_types n x) e
    ∙ ap (λ (x : Types). params ++ x) (runs_pushed n rs r ∙ ap (λ m. run_types n rs ++ replicate m r.ty) so_many)
    ∙ sym (append_assoc params (run_types n rs) (replicate count r.ty))
    ∙ ap (λ (x : Types). x ++ replicate count r.ty) is

-- a local before the first run's end is of its type
pub first_found : (start : ℕ) (rs : List Run) (r : Run) (index : ℕ) → AreRising start rs → slice_get rs zero ≡ Some r
    → start ≤ index → index < r.end → Some r.ty ≡ slice_get (run_types start rs) (index - start)
first_found start rs r index up e low high = sym (runs_found start rs zero r (index - start) up e (omega (arith, low)) (omega (arith, low, high)))
