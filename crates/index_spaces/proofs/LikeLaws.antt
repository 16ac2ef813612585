-- Which types are equal: the least index, and how keys distinguish types.
use Rattle.std.proofs.Common.{◌≡◌, ◌≢◌, ℕ, zero, suc, ◌<◌, ◌≤◌, Bool, true, false, ◌&&◌, inl, inr, List, [], ◌∷◌, ◌++◌, map, length, get_or, Option, Some, refl, sym, ap, ◌∙◌, subst, arith}
use Rattle.std.specs.Prelude.{slice_get, option_map}
use Rattle.std.specs.Str.{bytes_eq}
use Rattle.std.proofs.lemmas.Bool.{cases_Bool, and_from, and_parts}
use Rattle.wasm_defs.specs.declared.types.FuncType.{FuncType}
use Rattle.wasm_defs.specs.declared.types.ValType.TheVariants.{I32, I64}
use Rattle.wasm_defs.specs.Typing.{Types, same_types}
use Rattle.wasm_defs.specs.Context.{type_or_empty, first_like, like}
use Rattle.wasm_defs.specs.Items.{type_code}
use Rattle.wasm_defs.proofs.TypeLaws.{same_types-self, same_types-equal}
use Rattle.index_spaces.specs.Likes.{LikeIsLeast, key_of, first_index}

-- ---- equal types

abbrev pub same : FuncType → FuncType → Bool
same t u = same_types t.params u.params && same_types t.results u.results

pub same-self : (t : FuncType) → same t t ≡ true
same-self t = and_from (same_types t.params t.params) (same_types t.results t.results) (same_types-self t.params) (same_types-self t.results)

pub same-equal : (t u : FuncType) → same t u ≡ true → t ≡ u
same-equal t u e =
    let p = and_parts (same_types t.params u.params) (same_types t.results u.results) e in
    let params : t.params ≡ u.params = same_types-equal t.params u.params p.0 in
    let results : t.results ≡ u.results = same_types-equal t.results u.results p.1 in
    λ i. record { params = params i; results = results i }

-- ---- keys

codes_same : (ts us : Types) → bytes_eq (map type_code ts) (map type_code us) ≡ same_types ts us
codes_same [] [] = refl
codes_same (t ∷ ts) [] = refl
codes_same [] (u ∷ us) = refl
codes_same (I32 ∷ ts) (I32 ∷ us) = codes_same ts us
codes_same (I64 ∷ ts) (I64 ∷ us) = codes_same ts us
codes_same (I32 ∷ ts) (I64 ∷ us) = refl
codes_same (I64 ∷ ts) (I32 ∷ us) = refl

keys_same : (ts us rs ss : Types) → bytes_eq (map type_code ts ++ (0 ∷ map type_code rs)) (map type_code us ++ (0 ∷ map type_code ss)) ≡ same_types ts us && same_types rs ss
keys_same [] [] rs ss = codes_same rs ss
keys_same (I32 ∷ ts) [] rs ss = refl
keys_same (I64 ∷ ts) [] rs ss = refl
keys_same [] (I32 ∷ us) rs ss = refl
keys_same [] (I64 ∷ us) rs ss = refl
keys_same (I32 ∷ ts) (I32 ∷ us) rs ss = keys_same ts us rs ss
keys_same (I64 ∷ ts) (I64 ∷ us) rs ss = keys_same ts us rs ss
keys_same (I32 ∷ ts) (I64 ∷ us) rs ss = refl
keys_same (I64 ∷ ts) (I32 ∷ us) rs ss = refl

-- keys are equal where types are
pub key_of-same : (t u : FuncType) → bytes_eq (key_of t) (key_of u) ≡ same t u
key_of-same t u = keys_same t.params u.params t.results u.results

-- ---- the least index

pub first_like-here : (x ty : FuncType) (xs : List FuncType) → same x ty ≡ true → first_like (x ∷ xs) ty ≡ 0
first_like-here x ty xs e = rw e refl

pub first_like-there : (x ty : FuncType) (xs : List FuncType) → same x ty ≡ false → first_like (x ∷ xs) ty ≡ suc (first_like xs ty)
first_like-there x ty xs e = rw e refl

pub first_index-here : (x ty : FuncType) (xs : List FuncType) → same x ty ≡ true → first_index (x ∷ xs) ty ≡ Some 0
first_index-here x ty xs e = rw e refl

pub first_index-there : (x ty : FuncType) (xs : List FuncType) → same x ty ≡ false → first_index (x ∷ xs) ty ≡ option_map suc (first_index xs ty)
first_index-there x ty xs e = rw e refl

-- no later than any equal type
pub first_like-le : (xs : List FuncType) (i : ℕ) (ty : FuncType) → slice_get xs i ≡ Some ty → first_like xs ty ≤ i
first_like-le [] i ty e = absurd (cc)
first_like-le (x ∷ xs) zero ty e =
    let here : same x ty ≡ true = subst (λ (t : FuncType). same x t ≡ true) (let h : x ≡ ty = cc in h) (same-self x) in
    let z = first_like-here x ty xs here in
    omega (arith, z)
first_like-le (x ∷ xs) (suc i) ty e =
    elim (cases_Bool (same x ty)) [
      | inl h ↦ let z = first_like-here x ty xs h in omega (arith, z)
      | inr h ↦ let z = first_like-there x ty xs h in omega (arith, z, first_like-le xs i ty e)
    ]

-- it is the index of an equal type
pub first_like-is : (xs : List FuncType) (ty : FuncType) → first_like xs ty < length xs → slice_get xs (first_like xs ty) ≡ Some ty
first_like-is [] ty h = absurd (omega arith)
first_like-is (x ∷ xs) ty h =
    elim (cases_Bool (same x ty)) [
      | inl e ↦ rw (first_like-here x ty xs e) (ap (λ (t : FuncType). Some t) (same-equal x ty e))
      | inr e ↦ let z = first_like-there x ty xs e in rw z (first_like-is xs ty (omega (arith, z)))
    ]

-- and of no type before it
pub first_like-least : (xs : List FuncType) (ty : FuncType) (k : ℕ) → k < first_like xs ty → slice_get xs k ≢ Some ty
first_like-least xs ty k h e = absurd (omega (arith, first_like-le xs k ty e))

there : (xs : List FuncType) (i : ℕ) → i < length xs → (ty : FuncType) × (slice_get xs i ≡ Some ty)
there [] i h = absurd (omega arith)
there (x ∷ xs) zero h = (x, refl)
there (x ∷ xs) (suc i) h = there xs i (omega arith)

like-at : (types : List FuncType) (i : ℕ) (ty : FuncType) → slice_get types i ≡ Some ty → like types i ≡ first_like types ty
like-at types i ty e = ap (λ (o : Option FuncType). first_like types (type_or_empty o)) e

mapped-at : (f : FuncType → ℕ) (xs : List FuncType) (i d : ℕ) (ty : FuncType) → slice_get xs i ≡ Some ty → get_or (map f xs) i d ≡ f ty
mapped-at f [] i d ty e = absurd (cc)
mapped-at f (x ∷ xs) zero d ty e = let h : x ≡ ty = cc in ap f h
mapped-at f (x ∷ xs) (suc i) d ty e = mapped-at f xs i d ty e

-- what is listed for an index
pub like-listed : (types seen : List FuncType) (likes : List ℕ) (i first : ℕ) → types ≡ seen → i < length seen → likes ≡ map (first_like types) types
    → first ≡ get_or likes i first → first ≡ like seen i
like-listed types seen likes i first same_list h listed e =
    let t = there seen i h in
    e ∙ ap (λ (l : List ℕ). get_or l i first) listed ∙ ap (λ (l : List FuncType). get_or (map (first_like l) l) i first) same_list
    ∙ mapped-at (first_like seen) seen i first t.0 t.1 ∙ sym (like-at seen i t.0 t.1)

pub like-le : (types : List FuncType) (i : ℕ) → i < length types → like types i ≤ i
like-le types i h =
    let t = there types i h in
    omega (arith, like-at types i t.0 t.1, first_like-le types i t.0 t.1)

pub like_is_least : LikeIsLeast
like_is_least types i h =
    let t = there types i h in
    let e = like-at types i t.0 t.1 in
    let inside : first_like types t.0 < length types = omega (arith, first_like-le types i t.0 t.1) in (
      like-le types i h,
      ap (slice_get types) e ∙ first_like-is types t.0 inside ∙ sym t.1,
      λ k below same. first_like-least types t.0 k (omega (arith, e)) (same ∙ t.1),
    )
