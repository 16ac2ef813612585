-- There is a name that none of some exports has: it differs from each in a byte.
use Rattle.std.proofs.Common.{◌≡◌, ℕ, suc, ◌+◌, ◌<◌, ◌≤◌, Bool, true, false, ◌||◌, cond, ltb, List, [], ◌∷◌, length, get_or, inl, inr, refl, sym, ap, ◌∙◌, arith}
use Rattle.std.specs.List.{list_any}
use Rattle.std.specs.Str.{IsAscii, bytes_eq}
use Rattle.std.proofs.lemmas.Bool.{cases_lt, lt-ltb, le-ltb}
use Rattle.std.proofs.lemmas.Slice.Eq.{bytes_eq-Decides}
use Rattle.std.proofs.lemmas.Str.{IsUtf8-from_ascii}
use Rattle.std.proofs.lemmas.Str.Ascii.{IsAscii-cons, IsAscii-nil}
use Rattle.image_format.specs.declared.image.Export.{Export}
use Rattle.image_format.specs.declared.limits.TheConstants.{NAME_BYTES}
use Rattle.image_format.specs.Bounds.{IsName, has_name}

-- another byte: a or b
other : ℕ → ℕ
other b = cond (ltb b 98) 98 97

differs : (b : ℕ) → other b ≡ b → ⊥
unfolding other
differs b e = elim (cases_lt b 98) [
  | inl lt ↦ let is : other b ≡ 98 = rw (lt-ltb b 98 lt) refl in omega (arith, is, e)
  | inr le ↦ let is : other b ≡ 97 = rw (le-ltb b 98 le) refl in omega (arith, is, e)
]

is_ascii : (b : ℕ) → other b < 128
unfolding other
is_ascii b = elim (cases_lt b 98) [
  | inl lt ↦ rw (lt-ltb b 98 lt) (omega arith)
  | inr le ↦ rw (le-ltb b 98 le) (omega arith)
]

-- its byte k is not that of the first of the exports, and so on
diagonal : (k : ℕ) → List Export → List ℕ
diagonal k [] = []
diagonal k (e ∷ es) = other (get_or e.name k 0) ∷ diagonal (suc k) es

diagonal_length : (k : ℕ) (es : List Export) → length (diagonal k es) ≡ length es
unfolding diagonal
diagonal_length k [] = refl
diagonal_length k (e ∷ es) = ap suc (diagonal_length (suc k) es)

diagonal_ascii : (k : ℕ) (es : List Export) → IsAscii (diagonal k es)
unfolding diagonal
diagonal_ascii k [] = IsAscii-nil
diagonal_ascii k (e ∷ es) = IsAscii-cons (other (get_or e.name k 0)) (diagonal (suc k) es) (is_ascii (get_or e.name k 0)) (diagonal_ascii (suc k) es)

is_false : (b : Bool) → (b ≡ true → ⊥) → b ≡ false
is_false true h = absurd (h refl)
is_false false h = refl

neither : (a b : Bool) → a ≡ false → b ≡ false → (a || b) ≡ false
neither true b p q = p
neither false b p q = q

none_same : (name : List ℕ) (k : ℕ) (es : List Export) → ((i : ℕ) → get_or name (k + i) 0 ≡ get_or (diagonal k es) i 0) → has_name es name ≡ false
unfolding diagonal
none_same name k [] h = refl
none_same name k (e ∷ es) h =
    let here : get_or name k 0 ≡ other (get_or e.name k 0) = let at : k ≡ k + 0 = omega arith in ap (λ (i : ℕ). get_or name i 0) at ∙ h 0 in
    let first : bytes_eq name e.name ≡ false =
    is_false (bytes_eq name e.name) (λ t. differs (get_or e.name k 0) (sym here ∙ ap (λ (l : List ℕ). get_or l k 0) ((bytes_eq-Decides name e.name).0 t))) in
    let later : (i : ℕ) → get_or name (suc k + i) 0 ≡ get_or (diagonal (suc k) es) i 0 = λ i. let at : suc k + i ≡ k + suc i = omega arith in ap (λ (j : ℕ). get_or name j 0) at ∙ h (suc i) in
    neither (bytes_eq name e.name) (list_any (λ (x : Export). bytes_eq name x.name) es) first (none_same name (suc k) es later)

pub record Fresh (es : List Export) : Type 0 where
  pub name : List ℕ
  pub is : IsName name
  pub new : has_name es name ≡ false

pub fresh_name : (es : List Export) → length es ≤ NAME_BYTES → Fresh es
fresh_name es le = record {
  name = diagonal 0 es;
  is = record { short = omega (arith, diagonal_length 0 es); utf8 = IsUtf8-from_ascii (diagonal 0 es) (diagonal_ascii 0 es) };
  new = none_same (diagonal 0 es) 0 es (λ i. let at : 0 + i ≡ i = omega arith in ap (λ (j : ℕ). get_or (diagonal 0 es) j 0) at);
}
