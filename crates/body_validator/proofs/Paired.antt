-- Lists of types side by side with the numbers of operands below them.
use Rattle.std.proofs.Common.{◌≡◌, ℕ, zero, suc, ◌-◌, ◌<◌, ◌≤◌, List, [], ◌∷◌, ◌++◌, length, get_or, set, take, refl, sym, ap, ◌∙◌, arith, length-set}
use Rattle.std.specs.Prelude.{reverse}
use Rattle.std.specs.Borrow.{Bor}
use Rattle.wasm_defs.specs.Typing.{Types}
use Rattle.body_validator.specs.declared.lists.Lists.{Lists}
use Rattle.body_validator.specs.declared.lists.Spread.{Spread}
use Rattle.body_validator.specs.Kept.{paired, spread, spreads, Topmost}
use Rattle.body_validator.proofs.Laying.{last_first}

pub length-paired : (ts : List (Bor Types)) (bs : List ℕ) → length ts ≡ length bs → length (paired ts bs) ≡ length ts
length-paired [] bs e = refl
length-paired (t ∷ ts) [] e = absurd (omega (arith, e))
length-paired (t ∷ ts) (b ∷ bs) e = ap suc (length-paired ts bs (omega (arith, e)))

pub none-paired : (ts : List (Bor Types)) (bs : List ℕ) → length ts ≡ 0 → paired ts bs ≡ []
none-paired [] bs e = refl
none-paired (t ∷ ts) bs e = absurd (omega (arith, e))

pub paired-push : (ts : List (Bor Types)) (bs : List ℕ) (t : Bor Types) (b : ℕ) → length ts ≡ length bs → paired (ts ++ t ∷ []) (bs ++ b ∷ []) ≡ paired ts bs ++ spread t b ∷ []
paired-push [] [] t b e = refl
paired-push [] (n ∷ bs) t b e = absurd (omega (arith, e))
paired-push (s ∷ ts) [] t b e = absurd (omega (arith, e))
paired-push (s ∷ ts) (n ∷ bs) t b e = ap (λ (x : List Spread). spread s n ∷ x) (paired-push ts bs t b (omega (arith, e)))

pub paired-take : (n : ℕ) (ts : List (Bor Types)) (bs : List ℕ) → paired (take n ts) (take n bs) ≡ take n (paired ts bs)
paired-take zero ts bs = refl
paired-take (suc n) [] bs = refl
paired-take (suc n) (t ∷ ts) [] = refl
paired-take (suc n) (t ∷ ts) (b ∷ bs) = ap (λ (x : List Spread). spread t b ∷ x) (paired-take n ts bs)

pub paired-get : (ts : List (Bor Types)) (bs : List ℕ) (k : ℕ) (t : Bor Types) (b : ℕ) → length ts ≡ length bs → k < length ts → t ≡ get_or ts k t → b ≡ get_or bs k b
    → spread t b ≡ get_or (paired ts bs) k (spread t b)
paired-get [] bs k t b e h f g = absurd (omega (arith, h))
paired-get (s ∷ ts) [] k t b e h f g = absurd (omega (arith, e))
paired-get (s ∷ ts) (n ∷ bs) zero t b e h f g = ap (λ (x : Bor Types). spread x b) f ∙ ap (λ (x : ℕ). spread s x) g
paired-get (s ∷ ts) (n ∷ bs) (suc k) t b e h f g = paired-get ts bs k t b (omega (arith, e)) (omega (arith, h)) f g

-- another list in the place of one
pub paired-set : (ts : List (Bor Types)) (bs : List ℕ) (k : ℕ) (t : Bor Types) (b : ℕ) → length ts ≡ length bs → k < length ts → b ≡ get_or bs k b
    → paired (set ts k t) bs ≡ set (paired ts bs) k (spread t b)
paired-set [] bs k t b e h g = absurd (omega (arith, h))
paired-set (s ∷ ts) [] k t b e h g = absurd (omega (arith, e))
paired-set (s ∷ ts) (n ∷ bs) zero t b e h g = ap (λ (x : ℕ). spread t x ∷ paired ts bs) (sym g)
paired-set (s ∷ ts) (n ∷ bs) (suc k) t b e h g = ap (λ (x : List Spread). spread s n ∷ x) (paired-set ts bs k t b (omega (arith, e)) (omega (arith, h)) g)

pub fewer_set : (ts : List (Bor Types)) (bs : List ℕ) (k : ℕ) (t : Bor Types) → length ts ≡ length bs → length (paired (set ts k t) bs) ≤ length (paired ts bs)
fewer_set ts bs k t e =
    let same = length-set ts k t in
    omega (arith, length-paired ts bs e, length-paired (set ts k t) bs (same ∙ e), same)

pub fewer_take : (n : ℕ) (ts : List (Bor Types)) (bs : List ℕ) → length (paired (take n ts) (take n bs)) ≤ length (paired ts bs)
fewer_take zero ts bs = omega arith
fewer_take (suc n) [] bs = omega arith
fewer_take (suc n) (t ∷ ts) [] = omega arith
fewer_take (suc n) (t ∷ ts) (b ∷ bs) = let r = fewer_take n ts bs in omega arith

-- one that is there
pub found : {A : Type 0} (xs : List A) (k : ℕ) (d : A) → k < length xs → get_or xs k d ≡ get_or xs k (get_or xs k d)
found [] k d h = absurd (omega (arith, h))
found (x ∷ xs) zero d h = refl
found (x ∷ xs) (suc k) d h = found xs k d (omega (arith, h))

pub evenly : (l : Lists) → length l.types.items ≡ length l.below.items
evenly l = omega (arith, l.types.ok.0, l.below.ok.0, l.even)

pub topmost : (l : Lists) (n : ℕ) (t : Bor Types) (b : ℕ) → n ≡ length l.types.items → 0 < n → t ≡ get_or l.types.items (n - 1) t → b ≡ get_or l.below.items (n - 1) b
    → Topmost (reverse (spreads l)) (spread t b)
topmost l n t b e h f g =
    let ts = l.types.items in
    let bs = l.below.items in
    let even = evenly l in
    let long = length-paired ts bs even in
    record {
      rest = reverse (take (n - 1) (spreads l));
      is = last_first (spreads l) n (spread t b) (omega (arith, e, long)) h (paired-get ts bs (n - 1) t b even (omega (arith, e, h)) f g);
    }
