-- What the functions of a drill are encoded with, one after the other.
use Rattle.std.proofs.Common.{◌≡◌, ◌∙◌, ℕ, zero, suc, ◌+◌, List, [], ◌∷◌, ◌++◌, length, refl, ap, sym, arith, append_assoc, add-one}
use Rattle.std.proofs.lemmas.List.{length-append, append-nil}
use Rattle.std.proofs.lemmas.Grind.{flat_map-append}
use Rattle.std.specs.List.{flat_map, range_with_len}
use Rattle.wasm_defs.specs.Outside.{magic, version}
use Rattle.module_gen.specs.Numbers.{signed, spelling, unsigned}
use Rattle.module_gen.specs.Drill.{adder, below, call, code, drill_bytes, exports, functions, types}

one_more : (a n : ℕ) → range_with_len a (suc n) ≡ range_with_len a n ++ (a + n) ∷ []
one_more a zero = let e : a ≡ a + 0 = omega arith in ap (λ x. x ∷ []) e
one_more a (suc n) = let e : a + 1 + n ≡ a + suc n = omega arith in ap (λ l. a ∷ l) (one_more (a + 1) n) ∙ ap (λ x. a ∷ (range_with_len (a + 1) n ++ x ∷ [])) e

pub below_more : (n : ℕ) → below (n + 1) ≡ below n ++ n ∷ []
below_more n = let e : 0 + n ≡ n = omega arith in ap below (add-one n) ∙ one_more 0 n ∙ ap (λ x. below n ++ x ∷ []) e

pub flat_more : (f : ℕ → List ℕ) (n : ℕ) → flat_map f (below (n + 1)) ≡ flat_map f (below n) ++ f n
flat_more f n = ap (flat_map f) (below_more n) ∙ flat_map-append f (below n) (n ∷ []) ∙ ap (λ l. flat_map f (below n) ++ l) (append-nil (f n))

pub length_more : (f : ℕ → List ℕ) (n : ℕ) → length (flat_map f (below (n + 1))) ≡ length (flat_map f (below n)) + length (f n)
length_more f n = ap length (flat_more f n) ∙ length-append (flat_map f (below n)) (f n)

-- ---- the body of one

pub adder_content : (i : ℕ) → length (0x00 ∷ 0x20 ∷ 0x00 ∷ 0x41 ∷ (signed i ++ 0x6A ∷ 0x0B ∷ [])) ≡ 6 + length (signed i)
adder_content i = let e = length-append (signed i) (0x6A ∷ 0x0B ∷ []) in omega (arith, e)

pub adder_is : (i : ℕ) → adder i ≡ unsigned (6 + length (signed i)) ++ (0x00 ∷ 0x20 ∷ 0x00 ∷ 0x41 ∷ (signed i ++ 0x6A ∷ 0x0B ∷ []))
unfolding adder
adder_is i = ap (λ x. unsigned x ++ (0x00 ∷ 0x20 ∷ 0x00 ∷ 0x41 ∷ (signed i ++ 0x6A ∷ 0x0B ∷ []))) (adder_content i)

-- as it is put
pub adder_put : (out : List ℕ) (i : ℕ) → (((out ++ unsigned (6 + length (signed i))) ++ (0x00 ∷ 0x20 ∷ 0x00 ∷ 0x41 ∷ [])) ++ signed i) ++ (0x6A ∷ 0x0B ∷ []) ≡ out ++ adder i
adder_put out i =
    append_assoc ((out ++ unsigned (6 + length (signed i))) ++ (0x00 ∷ 0x20 ∷ 0x00 ∷ 0x41 ∷ [])) (signed i) (0x6A ∷ 0x0B ∷ [])
    ∙ append_assoc (out ++ unsigned (6 + length (signed i))) (0x00 ∷ 0x20 ∷ 0x00 ∷ 0x41 ∷ []) (signed i ++ 0x6A ∷ 0x0B ∷ [])
    ∙ append_assoc out (unsigned (6 + length (signed i))) (0x00 ∷ 0x20 ∷ 0x00 ∷ 0x41 ∷ (signed i ++ 0x6A ∷ 0x0B ∷ []))
    ∙ ap (λ l. out ++ l) (sym (adder_is i))

pub adder_length : (i : ℕ) → length (adder i) ≡ length (unsigned (6 + length (signed i))) + (6 + length (signed i))
adder_length i =
    ap length (adder_is i) ∙ length-append (unsigned (6 + length (signed i))) (0x00 ∷ 0x20 ∷ 0x00 ∷ 0x41 ∷ (signed i ++ 0x6A ∷ 0x0B ∷ []))
    ∙ ap (λ x. length (unsigned (6 + length (signed i))) + x) (adder_content i)

pub call_length : (i : ℕ) → length (call i) ≡ 1 + length (unsigned i)
unfolding call
call_length i = omega arith

-- ---- all of it

abbrev pub front : List ℕ
front = 0x00 ∷ 0x61 ∷ 0x73 ∷ 0x6D ∷ 0x01 ∷ 0x00 ∷ 0x00 ∷ 0x00 ∷ 0x01 ∷ 0x0A ∷ 0x02 ∷ 0x60 ∷ 0x01 ∷ 0x7F ∷ 0x01 ∷ 0x7F ∷ 0x60 ∷ 0x00 ∷ 0x01 ∷ 0x7F ∷ []

front_is : (l : List ℕ) → magic ++ (version ++ (types ++ l)) ≡ front ++ l
unfolding spelling
front_is l = refl

pub drill_put : (n : ℕ) (out : List ℕ) → out ≡ front → ((out ++ functions n) ++ exports n) ++ code n ≡ drill_bytes n
unfolding drill_bytes
drill_put n out is =
    append_assoc (out ++ functions n) (exports n) (code n) ∙ append_assoc out (functions n) (exports n ++ code n)
    ∙ ap (λ l. l ++ (functions n ++ (exports n ++ code n))) is ∙ sym (front_is (functions n ++ (exports n ++ code n)))
